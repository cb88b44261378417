use Rattle.std.proofs.Common.{◌≡◌, ◌<◌}
use Rattle.solver.specs.Held.{memory_of, rank_of, posed_by}
use Rattle.solver.proofs.Augmented.{WalksIn}
use Rattle.solver.proofs.graph.Graph.augment.Given as goal
use Rattle.solver.specs.States.{words_of}

abbrev pub invariant-loop-arc : goal.invariant-loop-arc
invariant-loop-arc g l =
    let K = g.S.Quote.Amount.kind in
    WalksIn K (posed_by g.S.Source K l.self.setting) (memory_of l.labels) l.book l.into l.state l.hole
    × ((words_of l.state) ≡ (words_of l.initial.state))
    × (l.hole < 129)

abbrev pub decreases-loop-arc : goal.decreases-loop-arc
decreases-loop-arc g l = rank_of (memory_of l.labels) l.hole
