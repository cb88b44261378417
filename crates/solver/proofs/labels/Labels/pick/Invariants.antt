use Rattle.std.proofs.Common.{◌≡◌}
use Rattle.solver.specs.Held.{memory_of}
use Rattle.solver.proofs.Picked.{Scan}
use Rattle.solver.proofs.labels.Labels.pick.Given as goal

abbrev pub invariant-loop-node : goal.invariant-loop-node
invariant-loop-node g l = Scan g.X.Amount.kind (memory_of l.initial.self) l.node l.found × (memory_of l.self ≡ memory_of l.initial.self)
