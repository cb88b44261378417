use Rattle.std.proofs.Common.{arith}
use Rattle.std.proofs.lemmas.List.Elements.{All-replicate}
use Rattle.plans.specs.Bounding.{bound, StraightBound}
use Rattle.plans.proofs.bound_table.Bounds.open.Goals as goal

pub invariant_of-result : goal.invariant_of-result
invariant_of-result c = record { straight = All-replicate StraightBound 128 (bound 0 c.min.result) (omega arith, omega (arith, c.min.ensures)) }
