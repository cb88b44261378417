use Rattle.std.proofs.Common.{◌<◌, refl, ◌∙◌, ap₂, arith}
use Rattle.solver.specs.declared.arcs.Arc.TheVariants.{Rise}
use Rattle.solver.specs.Residual.{node}
use Rattle.solver.specs.Search.{nodes}
use Rattle.solver.specs.Soft.{soft_kind}
use Rattle.solver.specs.Held.{posed_by, memory_of}
use Rattle.solver.proofs.Relaxed.{relaxes_arc, read_new}
use Rattle.solver.proofs.graph.Residual.take_rise.Goals as goal

pub returns : goal.returns
returns g c =
    let K = g.S.Quote.Amount.kind in
    let B = posed_by g.S.Source K c.args.self.now.setting in
    let w = c.args.spot.weekend in
    let k = c.args.spot.class in
    let state = c.args.self.now.state.now in
    let m = memory_of c.args.labels.now in
    let r = c.read.ensures in
    let u = c.node.ensures.is in
    let small : node w k < nodes = omega (arith, c.node.ensures.within, u) in
    relaxes_arc g.met.S.Quote.Amount.lawful B state m _ (memory_of c.offer.new.self) (Rise w k) c.above-head.result (node w k) 0 c.sum-label.result
    r.same c.above-head.ensures.is (c.sum-label.ensures ∙ ap₂ (soft_kind K).plus (read_new K m c.node.result (node w k) c.read.result small u r.read) c.rise_at.ensures)
    c.offer.ensures c.requires refl refl
