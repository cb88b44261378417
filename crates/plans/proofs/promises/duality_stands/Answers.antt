use Rattle.plans.proofs.Duality.{weak_duality, strong_duality}
use Rattle.plans.proofs.promises.duality_stands.Goals as goal

pub returns : goal.returns
returns g c = record { weak = weak_duality g.met.X.Amount.lawful; strong = strong_duality g.met.X.Amount.lawful }
