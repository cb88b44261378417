use Rattle.std.proofs.Common.{◌≡◌}
use Rattle.amounts.specs.Sums.{copies}
use Rattle.amounts.proofs.adding.times.Given as goal

abbrev pub invariant-loop : goal.invariant-loop
invariant-loop g l = l.sum ≡ copies g.X.Amount.kind l.counter l.x
