use Rattle.solver.specs.Held.{posed_by, memory_of}
use Rattle.solver.proofs.Sought.{Sought}
use Rattle.solver.proofs.graph.Residual.search.Given as goal

abbrev pub invariant-loop-turn : goal.invariant-loop-turn
invariant-loop-turn g l = Sought g.met.S.Quote.Amount.lawful (posed_by g.S.Source g.S.Quote.Amount.kind l.self.setting) l.self.state.now (memory_of l.initial.labels) (memory_of l.labels) l.turn
