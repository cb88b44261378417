use Rattle.std.proofs.Common.{◌≡◌, ◌≤◌, length}
use Rattle.amounts.specs.Sums.{sum_below, item}
use Rattle.amounts.proofs.adding.total.Given as goal

abbrev pub invariant-loop-x : goal.invariant-loop-x
invariant-loop-x g l = let k = g.X.Amount.kind in (l.x-index ≤ length l.xs) × (l.sum ≡ sum_below k l.x-index (item k l.xs))
