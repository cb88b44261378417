use Rattle.std.proofs.Common.{◌+◌, ◌*◌}
use Rattle.plans.specs.Places.{at}
use Rattle.solver.specs.Residual.{node}
use Rattle.solver.specs.Held.{posed_by, memory_of, Relaxes}
use Rattle.solver.proofs.graph.Residual.take_moves_of.Given as goal
use Rattle.solver.specs.States.{sent_of}

abbrev pub invariant-loop-weekend : goal.invariant-loop-weekend
invariant-loop-weekend g l = Relaxes g.S.Quote.Amount.kind (posed_by g.S.Source g.S.Quote.Amount.kind l.fn.self.setting) l.fn.self.state.now (memory_of l.initial.labels) (memory_of l.labels) (node (at (sent_of l.fn.self.state.now) l.book) (at l.fn.self.setting.roster.now.homes l.book)) (129 + l.book * 16) (129 + (l.book * 16 + l.weekend))
