use Rattle.std.proofs.Common.{◌≡◌, suc, ◌+◌, ◌<◌, refl, ap, ◌∙◌, ap₂, arith}
use Rattle.plans.specs.Places.{at}
use Rattle.solver.specs.declared.arcs.Arc.TheVariants.{Fall}
use Rattle.solver.specs.Residual.{node, above}
use Rattle.solver.specs.Search.{nodes}
use Rattle.solver.specs.Soft.{soft_kind, violation, fall}
use Rattle.solver.specs.Held.{posed_by, memory_of}
use Rattle.solver.proofs.Relaxed.{relaxes_arc, read_new}
use Rattle.solver.proofs.graph.Residual.take_fall.Goals as goal

pub returns : goal.returns
returns g c =
    let K = g.S.Quote.Amount.kind in
    let B = posed_by g.S.Source K c.args.self.now.setting in
    let w = c.args.spot.weekend in
    let k = c.args.spot.class in
    let state = c.args.self.now.state.now in
    let m = memory_of c.args.labels.now in
    let r = c.read.ensures in
    let u = c.node-node.ensures.is in
    let tail : c.above-tail.result ≡ above B.parent w k = c.above-tail.ensures.is in
    let small : above B.parent w k < nodes = omega (arith, c.above-tail.ensures.within, tail) in
    let cost : c.fall-cost.result ≡ fall (soft_kind K) (violation K) (B.lower w k) (B.upper w k) (at state.counts (node w k)) =
    c.fall-cost.ensures ∙ ap₂ (λ a b. fall (soft_kind K) (violation K) a b (at state.counts c.node-node.result)) c.lower-lower.ensures c.upper-upper.ensures ∙ ap (λ n. fall (soft_kind K) (violation K) (B.lower w k) (B.upper w k) (at state.counts n)) u in
    let stage : 2 + node w k ≡ suc (1 + node w k) = omega arith in
    rw stage (relaxes_arc g.met.S.Quote.Amount.lawful B state m _ (memory_of c.offer.new.self) (Fall w k) c.node-node.result (above B.parent w k) (1 + node w k) c.sum-label.result
    r.same u (c.sum-label.ensures ∙ ap₂ (soft_kind K).plus (read_new K m c.above-tail.result (above B.parent w k) c.read.result small tail r.read) cost)
    c.offer.ensures c.requires refl refl)
