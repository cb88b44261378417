use Rattle.plans.specs.Places.{at}
use Rattle.solver.specs.Residual.{node}
use Rattle.solver.specs.Held.{posed_by, memory_of, old_of}
use Rattle.solver.specs.Levels.{Flat}
use Rattle.solver.proofs.graph.Residual.first_labels.Given as goal

abbrev pub invariant-loop-weekend : goal.invariant-loop-weekend
invariant-loop-weekend g l = Flat g.S.Quote.Amount.kind (posed_by g.S.Source g.S.Quote.Amount.kind l.self.setting) (at l.self.state.now.counts) (old_of g.S.Quote.Amount.kind (memory_of l.labels)) (node l.weekend 0)
