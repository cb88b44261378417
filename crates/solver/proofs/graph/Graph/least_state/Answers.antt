use Rattle.plans.specs.Posed.{meaning}
use Rattle.solver.proofs.Opened.{opened}
use Rattle.solver.proofs.graph.Graph.least_state.Goals as goal

pub widen_all-requires-clause-some : goal.widen_all-requires-clause-some
widen_all-requires-clause-some g c =
    let s = c.args.self.now.setting in
    opened (meaning g.S.Source s.source.now) s.roster.now c.in_ok-state.state c.args.words.now c.in_ok-state.ensures c.requires.bits
