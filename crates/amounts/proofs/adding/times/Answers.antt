use Rattle.std.proofs.Common.{ap, ◌∙◌, arith}
use Rattle.amounts.specs.Sums.{copies}
use Rattle.amounts.proofs.Copies.{copies_more}
use Rattle.amounts.proofs.adding.times.Goals as goal

pub loop-init : goal.loop-init
unfolding copies
loop-init g c = c.zero-sum.ensures

pub loop-preserved : goal.loop-preserved
loop-preserved g c =
    let k = g.X.Amount.kind in
    c.sum-sum.ensures ∙ ap (λ s. k.plus s c.args.x) c.loop.invariant ∙ copies_more k c.loop.counter c.args.x
