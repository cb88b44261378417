-- Money keeps the laws of a kind: whole numbers do, and light money does not wrap around. Assumes nothing. The proof stands here, and not in proofs/, since the
-- implementation cites it, which may name no more than specs/.
use Rattle.std.specs.Prelude.{◌≡◌, ◌+◌, ◌≤◌, ℤ, pos, negsuc, ◌+ℤ◌, neg_ℤ, FitsSigned, unsigned_abs, refl}
use Rattle.std.specs.declared.cmp.Ordering.TheVariants.{Less, Equal}
use Rattle.std.specs.Ordering.{ordering_reverse}
use Rattle.std.proofs.Common.{ap, ◌∙◌, arith}
use Rattle.std.proofs.Math.IntN.{+ℤ_comm, +ℤ_assoc, +ℤ_idr, +ℤ_invr}
use Rattle.std.specs.Int.{int_wrap, w64}
use Rattle.std.proofs.lemmas.Int.{ints, int_wrap_fits}
use Rattle.amounts.specs.Kind.{Lawful, law_limit}
use Rattle.amounts.specs.Models.{compare_z, money, money_kind}

pub turn_z : (x y : ℤ) → compare_z y x ≡ ordering_reverse (compare_z x y)
turn_z x y = grind (arith, ints)

pub itself_z : (x : ℤ) → compare_z x x ≡ Equal
itself_z x = grind (arith, ints)

pub same_z : (x y : ℤ) → compare_z x y ≡ Equal → x ≡ y
same_z x y e = grind (arith, ints)

pub trans_z : (x y z : ℤ) → compare_z x y ≡ Less → compare_z y z ≡ Less → compare_z x z ≡ Less
trans_z x y z e f = grind (arith, ints)

pub shift_z : (x y z : ℤ) → compare_z (x +ℤ z) (y +ℤ z) ≡ compare_z x y
shift_z x y z = grind (arith, ints)

fits : (z : ℤ) → unsigned_abs z ≤ law_limit → FitsSigned w64 z
unfolding law_limit
fits (pos n) h = record { sfits = omega arith }
fits (negsuc n) h = record { sfits = omega arith }

-- a light number does not wrap
pub whole : (z : ℤ) → unsigned_abs z ≤ law_limit → int_wrap w64 z ≡ z
whole z h = int_wrap_fits w64 z (fits z h)

pub abs_plus : (a b : ℤ) → unsigned_abs (a +ℤ b) ≤ unsigned_abs a + unsigned_abs b
abs_plus a b = grind (arith, ints)

pub abs_minus : (a : ℤ) → unsigned_abs (neg_ℤ a) ≡ unsigned_abs a
abs_minus a = grind (arith, ints)

pub plus_whole : (a b : ℤ) → unsigned_abs a + unsigned_abs b ≤ law_limit → int_wrap w64 (a +ℤ b) ≡ a +ℤ b
plus_whole a b h = whole (a +ℤ b) (omega (arith, abs_plus a b))

pub minus_whole : (a : ℤ) → unsigned_abs a ≤ law_limit → int_wrap w64 (neg_ℤ a) ≡ neg_ℤ a
minus_whole a h = whole (neg_ℤ a) (omega (arith, abs_minus a))

pub money_lawful : Lawful money_kind
money_lawful = record {
  none_weight = refl;
  minus_weight = λ x h. ap unsigned_abs (minus_whole x.value h) ∙ abs_minus x.value;
  plus_weight = λ x y h. rw (plus_whole x.value y.value h) (abs_plus x.value y.value);
  unit = λ x h. ap money (ap (int_wrap w64) (+ℤ_idr x.value) ∙ whole x.value h);
  inverse = λ x h. ap money (inverse_wrapped x.value h);
  comm = λ x y h. ap (λ z. money (int_wrap w64 z)) (+ℤ_comm x.value y.value);
  assoc = λ x y z h. ap money (assoc_wrapped x.value y.value z.value h);
  turn = λ x y h. turn_z x.value y.value;
  itself = λ x h. itself_z x.value;
  same = λ x y h e. ap money (same_z x.value y.value e);
  trans = λ x y z h. trans_z x.value y.value z.value;
  shift = λ x y z h. shift_wrapped x.value y.value z.value h;
}
  where
    assoc_wrapped : (a b c : ℤ) → unsigned_abs a + unsigned_abs b + unsigned_abs c ≤ law_limit → int_wrap w64 (int_wrap w64 (a +ℤ b) +ℤ c) ≡ int_wrap w64 (a +ℤ int_wrap w64 (b +ℤ c))
    assoc_wrapped a b c h = rw (plus_whole a b (omega arith), plus_whole b c (omega arith)) (ap (int_wrap w64) (+ℤ_assoc a b c))

    inverse_wrapped : (a : ℤ) → unsigned_abs a + unsigned_abs a ≤ law_limit → int_wrap w64 (a +ℤ int_wrap w64 (neg_ℤ a)) ≡ pos 0
    inverse_wrapped a h = rw (minus_whole a (omega arith), +ℤ_invr a) (whole (pos 0) (omega arith))

    shift_wrapped : (a b c : ℤ) → unsigned_abs a + unsigned_abs b + unsigned_abs c ≤ law_limit → compare_z (int_wrap w64 (a +ℤ c)) (int_wrap w64 (b +ℤ c)) ≡ compare_z a b
    shift_wrapped a b c h = rw (plus_whole a c (omega arith), plus_whole b c (omega arith)) (shift_z a b c)
