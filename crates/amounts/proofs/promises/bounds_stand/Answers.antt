use Rattle.amounts.proofs.Copies.{copies_between}
use Rattle.amounts.proofs.promises.bounds_stand.Goals as goal

pub returns : goal.returns
returns g c = copies_between g.met.X.Amount.lawful
