use Rattle.std.proofs.Common.{◌<◌, sym, refl, subst, arith}
use Rattle.amounts.specs.Kind.{AtMost}
use Rattle.plans.proofs.Posing.{bounds_straight}
use Rattle.solver.specs.Soft.{soft_kind}
use Rattle.solver.specs.Held.{posed_by, memory_of, ShownIn}
use Rattle.solver.proofs.Retaken.{refreshed}
use Rattle.solver.proofs.graph.Residual.refresh.Goals as goal

pub returns : goal.returns
returns g c =
    let K = g.S.Quote.Amount.kind in
    let graph = c.args.self.now.setting in
    let B = posed_by g.S.Source K graph in
    let state = c.args.self.now.state.now in
    let r = c.reset.ensures in
    let a = c.adopt.ensures in
    let weeks : 0 < B.weekends = omega (arith, g.met.S.Source.ranges.some_week graph.source.now) in
    let classes : 0 < B.classes = omega (arith, graph.roster.now.sound.0) in
    let x = refreshed g.met.S.Quote.Amount.lawful B c.args.self.now.sound (λ w k _ _. bounds_straight graph.bounds.now w k) state (memory_of c.args.labels.now) (memory_of c.reset.new.self) (memory_of c.search.new.labels) weeks classes c.requires.shown r.old r.new _ r.marks refl refl c.search.ensures in
    record {
      shown = subst (ShownIn K B state) (sym a) x.0;
      low = λ v l. subst (λ b. AtMost (soft_kind K) (b v) (soft_kind K).none) (sym a) (x.1 v l);
    }
