-- The whole numbers as a kind of amounts. Assumes nothing.
use Rattle.std.specs.Prelude.{◌≡◌, ℤ, ◌≤ℤ◌, ◌<ℤ◌, refl}
use Rattle.std.specs.declared.cmp.Ordering.TheVariants.{Less, Equal, Greater}
use Rattle.std.specs.declared.cmp.Ordering.{Ordering}
use Rattle.std.proofs.Common.{ap, ◌∙◌, inl, inr, arith}
use Rattle.std.proofs.Math.IntN.{+ℤ_idr, +ℤ_invr, +ℤ_comm, +ℤ_assoc}
use Rattle.std.specs.Ordering.{ordering_reverse}
use Rattle.std.proofs.lemmas.Int.{ints}
use Rattle.amounts.specs.Kind.{Lawful, AtMost}
use Rattle.amounts.specs.Models.{compare_z, integers}
use Rattle.amounts.specs.MoneyLaws.{turn_z, itself_z, same_z, trans_z, shift_z}

pub less_from_compare : (x y : ℤ) → compare_z x y ≡ Less → x <ℤ y
less_from_compare x y e = grind (arith, ints)

pub compare_from_less : (x y : ℤ) → x <ℤ y → compare_z x y ≡ Less
compare_from_less x y e = grind (arith, ints)

pub integers_lawful : Lawful integers
integers_lawful = record {
  none_weight = refl;
  minus_weight = λ x h. refl;
  plus_weight = λ x y h. omega arith;
  unit = λ x h. +ℤ_idr x;
  inverse = λ x h. +ℤ_invr x;
  comm = λ x y h. +ℤ_comm x y;
  assoc = λ x y z h. +ℤ_assoc x y z;
  turn = λ x y h. turn_z x y;
  itself = λ x h. itself_z x;
  same = λ x y h. same_z x y;
  trans = λ x y z h. trans_z x y z;
  shift = λ x y z h. shift_z x y z;
}

pub le_from_at_most_z : (x y : ℤ) → AtMost integers x y → x ≤ℤ y
le_from_at_most_z x y (inl e) = let l = less_from_compare x y e in omega (arith, ints)
le_from_at_most_z x y (inr e) = omega (arith, ints)

pub at_most_from_le_z : (x y : ℤ) → x ≤ℤ y → AtMost integers x y
at_most_from_le_z x y l = go (compare_z x y) refl
  where
    go : (o : Ordering) → compare_z x y ≡ o → AtMost integers x y
    go Less e = inl e
    go Equal e = inr (same_z x y e)
    go Greater e = let m = less_from_compare y x (turn_z x y ∙ ap ordering_reverse e) in absurd (omega (arith, ints))
