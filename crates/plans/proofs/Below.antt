-- Tests below a number: each passes, some pass. Assumes nothing.
use Rattle.std.proofs.Common.{◌≡◌, ℕ, zero, suc, ◌+◌, ◌<◌, Bool, true, false, cond, ◌||◌, List, is_some, Some, Option, sym, refl, ap, ◌∙◌, ap₂, ⊎_elim, length, zero-add, add-one, arith}
use Rattle.std.specs.Bool.{MatchBool}
use Rattle.std.specs.Fn.{Called}
use Rattle.std.specs.Iterator.{YieldsThen}
use Rattle.std.specs.List.{range_with_len, FoldsTo, HoldsAt, AllWithin}
use Rattle.std.specs.Option.{MatchOption}
use Rattle.std.specs.declared.ops.Range.{Range}
use Rattle.std.proofs.iter.Yields.{nat_range_steps}
use Rattle.std.proofs.lemmas.Iterator.{YieldsList-from_range, cases_from_any}
use Rattle.std.proofs.lemmas.List.FromFn.{length-range_with_len, get_or-range_with_len}
use denote.Param.Members.{Mut}
use Rattle.std.proofs.lemmas.Bool.{cases_eq, and_parts, and_from, or_left, or_right, or_cases, or_from, false≢true}
use Rattle.amounts.specs.Kind.{Kind}
use Rattle.amounts.specs.Least.{better, least_of}
use Rattle.plans.specs.Sheets.{each_below, some_below}

pub each_holds : (n : ℕ) (t : ℕ → Bool) → each_below n t ≡ true → (i : ℕ) → i < n → t i ≡ true
unfolding each_below
each_holds zero t e i l = absurd (omega arith)
each_holds (suc n) t e i l =
    let parts = and_parts (t n) (each_below n t) e in
    ⊎_elim (λ (q : i ≡ n). ap t q ∙ parts.0) (λ (d : i ≡ n → ⊥). each_holds n t parts.1 i (omega arith)) (cases_eq i n)

pub each_from : (n : ℕ) (t : ℕ → Bool) → ((i : ℕ) → i < n → t i ≡ true) → each_below n t ≡ true
unfolding each_below
each_from zero t h = refl
each_from (suc n) t h = and_from (t n) (each_below n t) (h n (omega arith)) (each_from n t (λ i l. h i (omega arith)))

pub some_found : (n : ℕ) (t : ℕ → Bool) → some_below n t ≡ true → (i : ℕ) × (i < n) × (t i ≡ true)
unfolding some_below
some_found zero t e = absurd (false≢true e)
some_found (suc n) t e =
    ⊎_elim (λ (q : t n ≡ true). (n, omega arith, q)) (λ q. let f = some_found n t q in (f.0, omega arith, f.2)) (or_cases (t n) (some_below n t) e)

pub some_from : (n i : ℕ) (t : ℕ → Bool) → i < n → t i ≡ true → some_below n t ≡ true
unfolding some_below
some_from zero i t l e = absurd (omega arith)
some_from (suc n) i t l e =
    ⊎_elim
    (λ (q : i ≡ n). or_left (t n) (some_below n t) (ap t (sym q) ∙ e))
    (λ (d : i ≡ n → ⊥). or_right (t n) (some_below n t) (some_from n i t (omega arith) e))
    (cases_eq i n)

none_below : (n : ℕ) (t : ℕ → Bool) → ((i : ℕ) → i < n → t i ≡ false) → some_below n t ≡ false
unfolding some_below
none_below zero t h = refl
none_below (suc n) t h = or_from (t n) (some_below n t) (h n (omega arith)) (none_below n t (λ i l. h i (omega arith)))

some_told : (n : ℕ) (t : ℕ → Bool) (r : Bool)
    → MatchBool r ((k : ℕ) × (k < length (range_with_len 0 n)) × HoldsAt (λ i. t i ≡ true) (range_with_len 0 n) k) (AllWithin (λ i. t i ≡ false) (range_with_len 0 n) 0 (length (range_with_len 0 n)))
    → r ≡ some_below n t
some_told n t true h =
    let l : h.0 < n = omega (arith, h.1, length-range_with_len 0 n) in
    sym (some_from n h.0 t l (ap t (sym (get_or-range_with_len 0 n h.0 0 l ∙ zero-add h.0)) ∙ h.2 0))
some_told n t false h =
    sym (none_below n t (λ i l. ap t (sym (get_or-range_with_len 0 n i 0 l ∙ zero-add i)) ∙ h i 0 (omega arith) (omega (arith, length-range_with_len 0 n))))

-- `(0..n).any(t)`
pub some_of_any : {F : Type 0} (g : Mut F (ℕ × Unit {0}) Bool) {f : F} {u : Range ℕ} (n : ℕ) (t : ℕ → Bool) {end : ℕ} {r : Bool}
    → (xs : List ℕ) × (o : Option ℕ) × (j : F) × YieldsThen nat_range_steps (record { start = 0; end = end }) xs o u × FoldsTo (λ p x q. Called g p (x, tt) false q) f xs j
    × MatchOption o (r ≡ false) (λ x. (r ≡ true) × ((h : F) × Called g j (x, tt) true h))
    → end ≡ n → ((x : ℕ) (b : Bool) (q : F) → Called g f (x, tt) b q → (q ≡ f) × (b ≡ t x)) → r ≡ some_below n t
some_of_any g {f} {u} n t {end} {r} ran long tests =
    some_told n t r
    (cases_from_any u f r (λ i. t i ≡ true) (λ i. t i ≡ false) ran (YieldsList-from_range 0 end n refl (omega arith)) (λ x q k. sym (tests x true q k).1)
    (λ x q k. let e = tests x false q k in (e.0, sym e.1)))

pub or_passes : (x y : Bool) → x ≡ false → (x || y) ≡ y
or_passes x y e = ap (λ b. b || y) e

-- one more, as a loop counts
pub some_more : (n : ℕ) (t : ℕ → Bool) → some_below (n + 1) t ≡ (t n || some_below n t)
unfolding some_below
some_more n t = rw add-one refl

pub some_same : (n : ℕ) (s t : ℕ → Bool) → ((i : ℕ) → i < n → s i ≡ t i) → some_below n s ≡ some_below n t
unfolding some_below
some_same zero s t e = refl
some_same (suc n) s t e = rw (e n (omega arith), some_same n s t (λ i l. e i (omega arith))) refl

module _ {V : Type 0} (K : Kind V) (t : ℕ → Bool) (v : ℕ → V) where
  least_some : (b : Bool) (x : V) (r : Option V) (n : ℕ) → is_some r ≡ some_below n t → is_some (cond b (Some x) r) ≡ (b || some_below n t)
  least_some true x r n e = refl
  least_some false x r n e = e

  -- there is a least one exactly if some value passes
  pub least_there : (n : ℕ) → is_some (least_of K n t v) ≡ some_below n t
  unfolding least_of some_below
  least_there zero = refl
  least_there (suc n) = least_some (t n) (better K (least_of K n t v) (v n)) (least_of K n t v) n (least_there n)

  pub least_same : (s : ℕ → Bool) (u : ℕ → V) (n : ℕ) → ((i : ℕ) → i < n → t i ≡ s i) → ((i : ℕ) → i < n → v i ≡ u i) → least_of K n t v ≡ least_of K n s u
  unfolding least_of
  least_same s u zero e f = refl
  least_same s u (suc n) e f =
      ap (λ b. cond b (Some (better K (least_of K n t v) (v n))) (least_of K n t v)) (e n (omega arith))
      ∙ ap₂ (λ r x. cond (s n) (Some (better K r x)) r) (least_same s u n (λ i l. e i (omega arith)) (λ i l. f i (omega arith))) (f n (omega arith))
