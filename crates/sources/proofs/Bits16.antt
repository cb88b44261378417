-- One bit of a word set or cleared, and one pair of the struck words.
use Rattle.std.proofs.Common.{◌≡◌, ℕ, zero, suc, ◌+◌, ◌-◌, ◌/◌, ◌%◌, ◌^◌, ◌<◌, ◌≤◌, Bool, true, false, cond, ◌&&◌, ◌||◌, eqb, ltb, List, length, get_or, set, sym, refl, ap, ◌∙◌, subst, ⊎_elim, lt_of_lt_of_le, pow-suc, arith, pow_pos, pow_mono, pow-add}
use native.Mathlib.Nat.{zero-div, div_self, div-eq_of_lt, mul-mod_left}
use lib.Bits.{bit_or, bit_xor}
use lib.Pow.{pow-lt, shl-shr}
use Rattle.std.proofs.lemmas.Nat.{or_shr, xor_shr, or_mod, xor_mod, mod_below}
use Rattle.std.proofs.lemmas.List.{get_or-set_same, get_or-set_other}
use Rattle.std.proofs.lemmas.Bool.{cond-true, and_from, lt-ltb, ne_eqb, eq-eqb, cases_order, cases_eq}
use Rattle.sources.specs.Tables.{bit_at}
use Rattle.sources.specs.Strikes.{with_pair, without_pair, OnlyAt}

or_small : (x y : ℕ) → x < 2 → y < 2 → eqb (bit_or x y) 1 ≡ (eqb x 1 || eqb y 1)
or_small zero zero _ _ = refl
or_small zero (suc zero) _ _ = refl
or_small (suc zero) zero _ _ = refl
or_small (suc zero) (suc zero) _ _ = refl
or_small (suc (suc x)) y h _ = absurd (omega arith)
or_small zero (suc (suc y)) _ h = absurd (omega arith)
or_small (suc zero) (suc (suc y)) _ h = absurd (omega arith)

-- what a cleared bit is
abbrev less : Bool → Bool → Bool
less true true = false
less true false = true
less false true = true
less false false = false

xor_small : (x y : ℕ) → x < 2 → y < 2 → eqb (bit_xor x y) 1 ≡ less (eqb x 1) (eqb y 1)
xor_small zero zero _ _ = refl
xor_small zero (suc zero) _ _ = refl
xor_small (suc zero) zero _ _ = refl
xor_small (suc zero) (suc zero) _ _ = refl
xor_small (suc (suc x)) y h _ = absurd (omega arith)
xor_small zero (suc (suc y)) _ h = absurd (omega arith)
xor_small (suc zero) (suc (suc y)) _ h = absurd (omega arith)

or_bit : (a b k : ℕ) → bit_at (bit_or a b) k ≡ (bit_at a k || bit_at b k)
or_bit a b k =
    ap (λ n. eqb (n % 2) 1) (or_shr a b k) ∙ ap (λ n. eqb n 1) (or_mod (a / 2 ^ k) (b / 2 ^ k) 1)
    ∙ or_small (a / 2 ^ k % 2) (b / 2 ^ k % 2) (mod_below _ 2 (omega arith)) (mod_below _ 2 (omega arith))

xor_bit : (a b k : ℕ) → bit_at (bit_xor a b) k ≡ less (bit_at a k) (bit_at b k)
xor_bit a b k =
    ap (λ n. eqb (n % 2) 1) (xor_shr a b k) ∙ ap (λ n. eqb n 1) (xor_mod (a / 2 ^ k) (b / 2 ^ k) 1)
    ∙ xor_small (a / 2 ^ k % 2) (b / 2 ^ k % 2) (mod_below _ 2 (omega arith)) (mod_below _ 2 (omega arith))

pow_above : (w k : ℕ) → w < k → 2 ^ w / 2 ^ k % 2 ≡ 0
pow_above w k h = ap (λ n. n % 2) (div-eq_of_lt (pow-lt h))

pow_under : (k j : ℕ) → 2 ^ (suc j + k) / 2 ^ k % 2 ≡ 0
pow_under k j = ap (λ n. n / 2 ^ k % 2) (pow-add 2 (suc j) k) ∙ ap (λ n. n % 2) (shl-shr (2 ^ suc j) k) ∙ ap (λ n. n % 2) (pow-suc 2 j) ∙ mul-mod_left (2 ^ j) 2

pow_below' : (w k : ℕ) → k < w → 2 ^ w / 2 ^ k % 2 ≡ 0
pow_below' w k h =
    let e : w ≡ suc (w - k - 1) + k = omega arith in
    ap (λ n. 2 ^ n / 2 ^ k % 2) e ∙ pow_under k (w - k - 1)

pow_bit : (w k : ℕ) → bit_at (2 ^ w) k ≡ eqb k w
pow_bit w k =
    ⊎_elim
    (λ (e : k ≡ w). ap (λ n. bit_at (2 ^ w) n) e ∙ ap (λ n. eqb (n % 2) 1) (div_self (pow_pos w)) ∙ sym (eq-eqb k w e))
    (⊎_elim
    (λ (h : k < w). ap (λ n. eqb n 1) (pow_below' w k h) ∙ sym (ne_eqb k w (λ e. omega arith)))
    (λ (h : w < k). ap (λ n. eqb n 1) (pow_above w k h) ∙ sym (ne_eqb k w (λ e. omega arith))))
    (cases_order k w)

or_cond : (x t : Bool) → (x || t) ≡ cond t true x
or_cond true true = refl
or_cond true false = refl
or_cond false true = refl
or_cond false false = refl

less_cond : (x t : Bool) → less (x || t) t ≡ cond t false x
less_cond true true = refl
less_cond true false = refl
less_cond false true = refl
less_cond false false = refl

pub set_bit : (word w k : ℕ) → bit_at (bit_or word (2 ^ w)) k ≡ cond (eqb k w) true (bit_at word k)
set_bit word w k = or_bit word (2 ^ w) k ∙ ap (λ t. bit_at word k || t) (pow_bit w k) ∙ or_cond (bit_at word k) (eqb k w)

pub clear_bit : (word w k : ℕ) → bit_at (bit_xor (bit_or word (2 ^ w)) (2 ^ w)) k ≡ cond (eqb k w) false (bit_at word k)
clear_bit word w k =
    xor_bit (bit_or word (2 ^ w)) (2 ^ w) k ∙ ap (λ t. less (bit_at (bit_or word (2 ^ w)) k) t) (pow_bit w k)
    ∙ ap (λ t. less t (eqb k w)) (or_bit word (2 ^ w) k ∙ ap (λ t. bit_at word k || t) (pow_bit w k)) ∙ less_cond (bit_at word k) (eqb k w)

only_at : (words : List ℕ) (b w word : ℕ) (v : Bool) → b < length words → ((k : ℕ) → bit_at word k ≡ cond (eqb k w) v (bit_at (get_or words b 0) k)) → OnlyAt words (set words b word) b w v
only_at words b w word v within bits = record {
  each = λ i k. ⊎_elim
      (λ (e : i ≡ b). let q = eq-eqb i b e in rw (q, e, get_or-set_same words b word 0 within) (bits k))
      (λ (d : i ≡ b → ⊥). let q = ne_eqb i b d in rw (q, get_or-set_other words b i word 0 d) refl)
      (cases_eq i b);
}

pub put_exact : (words : List ℕ) (b w : ℕ) → b < length words → OnlyAt words (set words b (bit_or (get_or words b 0) (2 ^ w))) b w true
put_exact words b w within = only_at words b w _ true within (set_bit (get_or words b 0) w)

pub lift_exact : (words : List ℕ) (b w : ℕ) → b < length words → OnlyAt words (set words b (bit_xor (bit_or (get_or words b 0) (2 ^ w)) (2 ^ w))) b w false
lift_exact words b w within = only_at words b w _ false within (clear_bit (get_or words b 0) w)

-- no bit is set behind the last of a word
pub bit_past : (word k : ℕ) → word < 2 ^ 16 → 16 ≤ k → bit_at word k ≡ false
bit_past word k h l =
    let p : 2 ^ 16 ≤ 2 ^ k = pow_mono l in
    ap (λ n. eqb (n % 2) 1) (div-eq_of_lt (lt_of_lt_of_le h p))

pub bit_none : (k : ℕ) → bit_at 0 k ≡ false
bit_none k = ap (λ n. eqb (n % 2) 1) (zero-div (2 ^ k))

-- what the code writes, where the pair has a place
module _ (words : List ℕ) (b w bit : ℕ) (hb : b < 120) (hw : w < 16) (within : b < length words) (is : bit ≡ 2 ^ w) where
  there : (ltb b 120 && ltb w 16) ≡ true
  there = and_from _ _ (lt-ltb b 120 hb) (lt-ltb w 16 hw)

  pub put_is : set words b (bit_or (get_or words b 0) bit) ≡ with_pair words b w
  put_is = ap (λ x. set words b (bit_or (get_or words b 0) x)) is ∙ sym (cond-true _ _ _ there)

  pub lift_is : set words b (bit_xor (bit_or (get_or words b 0) bit) bit) ≡ without_pair words b w
  lift_is = ap (λ x. set words b (bit_xor (bit_or (get_or words b 0) x) x)) is ∙ sym (cond-true _ _ _ there)

  pub put_only : OnlyAt words (set words b (bit_or (get_or words b 0) bit)) b w true
  put_only = subst (λ x. OnlyAt words (set words b (bit_or (get_or words b 0) x)) b w true) (sym is) (put_exact words b w within)

  pub lift_only : OnlyAt words (set words b (bit_xor (bit_or (get_or words b 0) bit) bit)) b w false
  lift_only = subst (λ x. OnlyAt words (set words b (bit_xor (bit_or (get_or words b 0) x) x)) b w false) (sym is) (lift_exact words b w within)
