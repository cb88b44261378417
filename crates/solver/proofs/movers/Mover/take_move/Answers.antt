use Rattle.std.proofs.Common.{◌≡◌, suc, ◌+◌, ◌*◌, ◌<◌, refl, ap, ◌∙◌, ap₂, arith}
use Rattle.plans.specs.Places.{at}
use Rattle.solver.specs.declared.arcs.Arc.TheVariants.{Move}
use Rattle.solver.specs.Residual.{node}
use Rattle.solver.specs.Search.{nodes}
use Rattle.solver.specs.Soft.{soft_kind}
use Rattle.solver.specs.Held.{posed_by, memory_of}
use Rattle.solver.proofs.Relaxed.{relaxes_arc, read_new}
use Rattle.solver.proofs.movers.Mover.take_move.Goals as goal
use Rattle.solver.specs.States.{sent_of}

pub returns : goal.returns
returns g c =
    let K = g.S.Quote.Amount.kind in
    let B = posed_by g.S.Source K c.args.self.now.residual.now.setting in
    let state = c.args.self.now.residual.now.state.now in
    let b = c.args.self.now.book in
    let x = c.args.weekend in
    let y = at (sent_of state) b in
    let m = memory_of c.args.labels.now in
    let r = c.read.ensures in
    let at_book = c.spot_of-from.ensures in
    let tail : c.node.result ≡ node y (B.class b) = c.node.ensures.is ∙ ap₂ node at_book.weekend at_book.class in
    let head : c.node-2.result ≡ node x (B.class b) = c.node-2.ensures.is ∙ ap (node x) at_book.class in
    let small : node y (B.class b) < nodes = omega (arith, c.node.ensures.within, tail) in
    let next : 130 + (b * 16 + x) ≡ suc (129 + (b * 16 + x)) = omega arith in
    rw next (relaxes_arc g.met.S.Quote.Amount.lawful B state m _ (memory_of c.offer.new.self) (Move b x) c.node-2.result (node y (B.class b)) (129 + (b * 16 + x)) c.sum-label.result
    r.same head (c.sum-label.ensures ∙ ap₂ (soft_kind K).plus (read_new K m c.node.result (node y (B.class b)) c.read.result small tail r.read) c.cost.ensures)
    c.offer.ensures (c.args.self.now.known, c.requires.weekend, c.requires.allowed) refl refl)
