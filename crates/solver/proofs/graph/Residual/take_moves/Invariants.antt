use Rattle.std.proofs.Common.{◌+◌, ◌*◌}
use Rattle.solver.specs.Residual.{node}
use Rattle.solver.specs.Held.{posed_by, memory_of, Relaxes}
use Rattle.solver.proofs.graph.Residual.take_moves.Given as goal

abbrev pub invariant-loop-book : goal.invariant-loop-book
invariant-loop-book g l = Relaxes g.S.Quote.Amount.kind (posed_by g.S.Source g.S.Quote.Amount.kind l.self.setting) l.self.state.now (memory_of l.initial.labels) (memory_of l.labels) (node l.spot.weekend l.spot.class) 129 (129 + l.book * 16)
