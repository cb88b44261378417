use Rattle.std.proofs.Common.{◌≡◌, ◌<◌, refl, ap, ◌∙◌, ap₂, arith}
use Rattle.std.specs.Ordering.{is_le}
use Rattle.plans.specs.Places.{at}
use Rattle.solver.specs.Residual.{node}
use Rattle.solver.specs.Search.{nodes}
use Rattle.solver.specs.Soft.{soft_kind}
use Rattle.solver.specs.Held.{posed_by, memory_of}
use Rattle.solver.proofs.Beginning.{read_old}
use Rattle.solver.proofs.movers.Mover.stays_by.Goals as goal
use Rattle.solver.specs.States.{sent_of}

pub returns-clause-value : goal.returns-clause-value
returns-clause-value g c =
    let K = g.S.Quote.Amount.kind in
    let B = posed_by g.S.Source K c.args.self.now.residual.now.setting in
    let b = c.args.self.now.book in
    let x = c.args.weekend in
    let y = at (sent_of c.args.self.now.residual.now.state.now) b in
    let m = memory_of c.args.labels.now in
    let r = c.read-2.ensures in
    let t = c.read.ensures in
    let at_book = c.spot_of-from.ensures in
    let tail : c.node.result ≡ node y (B.class b) = c.node.ensures.is ∙ ap₂ node at_book.weekend at_book.class in
    let head : c.node-2.result ≡ node x (B.class b) = c.node-2.ensures.is ∙ ap (node x) at_book.class in
    let tail-in : node y (B.class b) < nodes = omega (arith, c.node.ensures.within, tail) in
    let head_in : node x (B.class b) < nodes = omega (arith, c.node-2.ensures.within, head) in
    let from = read_old K m m c.node.result (node y (B.class b)) c.read.result refl tail-in tail t.read in
    let to = read_old K m _ c.node-2.result (node x (B.class b)) c.read-2.result t.same head_in head r.read in
    c.is_le.ensures ∙ ap is_le (c.compare.ensures ∙ ap₂ (soft_kind K).cmp to (c.sum-most.ensures ∙ ap₂ (soft_kind K).plus from c.cost.ensures))
