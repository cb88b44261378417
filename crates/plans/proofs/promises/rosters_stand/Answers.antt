use Rattle.plans.proofs.Classing.{roster_read}
use Rattle.plans.proofs.promises.rosters_stand.Goals as goal

pub returns : goal.returns
returns c = roster_read
