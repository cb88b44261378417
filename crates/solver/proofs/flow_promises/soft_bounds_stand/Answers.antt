use Rattle.solver.proofs.Soft.{soft_convex}
use Rattle.solver.proofs.Subgradient.{subgradient}
use Rattle.solver.proofs.flow_promises.soft_bounds_stand.Goals as goal

pub returns : goal.returns
returns g c = record { convex = soft_convex g.met.X.Amount.lawful; subgradient = subgradient g.met.X.Amount.lawful }
