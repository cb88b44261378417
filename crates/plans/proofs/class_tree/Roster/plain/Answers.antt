use Rattle.std.proofs.Common.{ℕ, refl, arith, lit≤}
use Rattle.plans.proofs.Padding.{get_or_filled}
use Rattle.plans.proofs.class_tree.Roster.plain.Goals as goal

pub invariant_of-result : goal.invariant_of-result
invariant_of-result c = record {
  sound = (lit≤ tt, lit≤ tt, refl, (λ k low high. absurd (omega arith)), (λ b h. omega (arith, get_or_filled {X = ℕ} 120 b 0)), λ c l. get_or_filled {X = ℕ} 8 c 0);
}
