use Rattle.std.proofs.Common.{arith}
use Rattle.plans.specs.Places.{at}
use Rattle.solver.specs.Held.{posed_by}
use Rattle.solver.proofs.Flat.{flat_next}
use Rattle.solver.proofs.graph.Residual.label_weekend.Goals as goal

pub loop-class-preserved : goal.loop-class-preserved
loop-class-preserved g c =
    let B = posed_by g.S.Source g.S.Quote.Amount.kind c.args.self.now.setting in
    flat_next g.met.S.Quote.Amount.lawful B (at c.args.self.now.state.now.counts) c.args.self.now.sound _ _ c.args.weekend c.loop-class.class c.requires.weekend (omega (arith, c.classes-class-end.ensures)) c.loop-class.invariant c.label_spot.ensures
