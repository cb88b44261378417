use Rattle.solver.proofs.Hole.{hole}
use Rattle.solver.proofs.flow_promises.hole_stands.Goals as goal

pub returns : goal.returns
returns g c = hole g.X.Amount.kind
