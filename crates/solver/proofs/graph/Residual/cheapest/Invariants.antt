use Rattle.solver.specs.Starting.{Found}
use Rattle.solver.proofs.graph.Residual.cheapest.Given as goal

abbrev pub invariant-loop-weekend : goal.invariant-loop-weekend
invariant-loop-weekend g l = Found (g.S.Source.table l.self.setting.source.now l.book) l.weekend l.found
