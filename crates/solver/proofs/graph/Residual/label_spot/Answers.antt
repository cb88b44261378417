use Rattle.std.proofs.Common.{◌≡◌, ◌<◌, ap, ◌∙◌, ap₂, arith}
use Rattle.plans.specs.Places.{at}
use Rattle.solver.specs.Residual.{node}
use Rattle.solver.specs.Search.{nodes}
use Rattle.solver.specs.Soft.{soft_kind, violation}
use Rattle.solver.specs.Held.{posed_by, memory_of, old_of}
use Rattle.solver.specs.Levels.{level, entry, under}
use Rattle.solver.proofs.Flat.{read_above, labelled_write}
use Rattle.solver.proofs.graph.Residual.label_spot.Goals as goal

pub returns : goal.returns
returns g c =
    let K = g.S.Quote.Amount.kind in
    let B = posed_by g.S.Source K c.args.self.now.setting in
    let w = c.args.spot.weekend in
    let k = c.args.spot.class in
    let f = at c.args.self.now.state.now.counts in
    let l = c.args.labels.now in
    let m = memory_of l in
    let r = c.read-over.ensures in
    let v = c.node-node.result in
    let u : v ≡ node w k = c.node-node.ensures.is in
    let within : v < nodes = omega (arith, c.node-node.ensures.within) in
    let e : c.level-entry.result ≡ entry K B f w k =
    c.level-entry.ensures ∙ ap₂ (λ a b. level (soft_kind K) (violation K) a b (f v)) c.lower-lower.ensures c.upper-upper.ensures ∙ ap (λ n. level (soft_kind K) (violation K) (B.lower w k) (B.upper w k) (f n)) u in
    let above-is = read_above K B f m w k c.above.result c.read-over.result c.above.ensures.within c.above.ensures.is r.read in
    let value : c.sum.result ≡ under K B f (old_of K m) w k = c.sum.ensures ∙ ap₂ (soft_kind K).plus above-is (c.opposite.ensures ∙ ap (soft_kind K).minus e) in
    labelled_write K B f m _ _ w k v c.sum.result r.same within u l.sized.0 l.sized.1 c.write.ensures value
