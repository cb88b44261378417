use Rattle.std.proofs.Common.{◌≡◌, length, ap, ◌∙◌, ap₂, arith}
use Rattle.std.proofs.lemmas.List.{get_or_read}
use Rattle.amounts.specs.Sums.{sum_below, item}
use Rattle.amounts.proofs.Sums.{sum_more}
use Rattle.amounts.proofs.adding.total.Goals as goal

pub loop-x-init : goal.loop-x-init
unfolding sum_below
loop-x-init g c = (omega arith, c.zero-sum.ensures)

pub loop-x-preserved : goal.loop-x-preserved
loop-x-preserved g c =
    let k = g.X.Amount.kind in
    let xs = c.args.xs.now in
    let read = get_or_read xs c.loop-x.x-index c.x-item.result c.loop-x-test.true c.x-item.is k.none in
    (omega arith, c.sum-sum.ensures ∙ ap₂ k.plus c.loop-x.invariant.1 read ∙ sum_more k c.loop-x.x-index (item k xs))
