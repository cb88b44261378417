use Rattle.solver.specs.Held.{posed_by, memory_of}
use Rattle.solver.proofs.Beginning.{Starting}
use Rattle.solver.proofs.graph.Graph.start_at.Given as goal

abbrev pub invariant-loop-weekend : goal.invariant-loop-weekend
invariant-loop-weekend g l = Starting g.S.Quote.Amount.kind (posed_by g.S.Source g.S.Quote.Amount.kind l.self.setting) l.book l.into (memory_of l.initial.labels) (memory_of l.labels) l.weekend
