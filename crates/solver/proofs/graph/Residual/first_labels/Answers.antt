use Rattle.std.proofs.Common.{arith}
use Rattle.plans.specs.Posed.{meaning}
use Rattle.solver.proofs.Flat.{flat_shown}
use Rattle.solver.proofs.graph.Residual.first_labels.Goals as goal

pub returns : goal.returns
returns g c =
    let graph = c.args.self.now.setting in
    flat_shown g.met.S.Quote.Amount.lawful (meaning g.S.Source graph.source.now) graph.roster.now graph.bounds.now g.S.Quote.Amount.kind.none c.args.self.now.state.now _ _ c.args.self.now.sound c.requires.begun (omega (arith, c.weekends-weekend-end.ensures, c.loop-weekend-test.false)) c.loop-weekend.invariant
