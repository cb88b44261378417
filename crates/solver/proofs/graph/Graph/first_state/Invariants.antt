use Rattle.std.proofs.Common.{ℕ, ◌<◌}
use Rattle.plans.specs.Places.{at}
use Rattle.plans.specs.Posed.{meaning}
use Rattle.solver.specs.Starting.{Placed}
use Rattle.solver.specs.States.{sent_of}
use Rattle.solver.proofs.graph.Graph.first_state.Given as goal

abbrev pub invariant-loop-book : goal.invariant-loop-book
invariant-loop-book g l =
    let source = meaning g.S.Source l.self.setting.source.now in
    Placed source l.self.setting.roster.now l.book l.state × ((b : ℕ) → at (sent_of l.state) b < source.weekends)
