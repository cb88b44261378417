use Rattle.solver.specs.Held.{memory_of, old_of, posed_by, ShownIn}
use Rattle.solver.proofs.Widened.{Widened}
use Rattle.solver.proofs.graph.Graph.widen_all.Given as goal
use Rattle.solver.specs.States.{words_of}

abbrev pub invariant-loop-book : goal.invariant-loop-book
invariant-loop-book g l =
    ShownIn g.S.Quote.Amount.kind (posed_by g.S.Source g.S.Quote.Amount.kind l.self.setting) l.state (old_of g.S.Quote.Amount.kind (memory_of l.labels)) × Widened l.words (words_of l.state) l.book
