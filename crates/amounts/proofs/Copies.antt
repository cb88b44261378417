-- Sums of copies of one amount. Assumes nothing.
use Rattle.std.specs.Prelude.{◌≡◌, ℕ, zero, suc, ◌+◌, ◌*◌, ◌≤◌, Bool, true, false, cond, ◌⊎◌, ◌≢◌}
use Rattle.std.proofs.Math.Path.{refl, sym, ap}
use Rattle.std.proofs.Common.{◌∙◌, inl, ⊎_elim, add-one}
use Rattle.std.proofs.Math.Logic.{inr}
use Rattle.std.proofs.Math.Nat.{mul-le-mul_left, mul-le-mul_right}
use native.Mathlib.Omega.{arith}
use Rattle.std.proofs.lemmas.Bool.{cases_eq}
use Rattle.amounts.specs.Kind.{Kind, Lawful, law_limit, AtMost}
use Rattle.amounts.specs.Sums.{sum_n, tally, sum_below, weights, copies}
use Rattle.amounts.specs.Promises.{CopiesWithinBounds}
use Rattle.amounts.proofs.Order.{unit_left, none_twice, plus_swap, minus_none, minus_plus, at_most_trans, at_most_total, plus_at_most, plus_at_most_right, larger_left, larger_right, larger_weight}
use Rattle.amounts.proofs.Sums.{sum_weight}

-- a loop's step
pub copies_more : {V : Type 0} (K : Kind V) (n : ℕ) (x : V) → K.plus (copies K n x) x ≡ copies K (n + 1) x
unfolding copies
copies_more K n x = rw add-one refl

-- copies are a sum of which each summand is the same
pub copies_sum : {V : Type 0} (K : Kind V) (n : ℕ) (x : V) → copies K n x ≡ sum_below K n (λ _. x)
unfolding copies sum_below
copies_sum K zero x = refl
copies_sum K (suc n) x = ap (λ u. K.plus u x) (copies_sum K n x)

module _ {V : Type 0} {K : Kind V} (L : Lawful K) where
  open K use {none, plus, minus, weight}

  pub copies_weight : (m k : ℕ) (x : V) → weight x ≤ m → k * m ≤ law_limit → weight (copies K k x) ≤ k * m
  unfolding copies
  copies_weight m zero x h l = omega (arith, L.none_weight)
  copies_weight m (suc k) x h l = let i = copies_weight m k x h (omega arith) in omega (arith, L.plus_weight (copies K k x) x (omega arith))

  pub copies_one : (x : V) → weight x ≤ law_limit → copies K 1 x ≡ x
  unfolding copies
  copies_one x h = unit_left L x h

  pub copies_none : (k : ℕ) → copies K k none ≡ none
  unfolding copies
  copies_none zero = refl
  copies_none (suc k) = ap (λ u. plus u none) (copies_none k) ∙ none_twice L

  -- one copy more where the test passes
  pub copies_when : (t : Bool) (k : ℕ) (x : V) → weight (copies K k x) ≤ law_limit → copies K (cond t (suc k) k) x ≡ plus (copies K k x) (cond t x none)
  unfolding copies
  copies_when true k x h = refl
  copies_when false k x h = sym (L.unit (copies K k x) h)

  -- x for each number below n that passes is as many copies of x as pass
  pub sum_tally : (n : ℕ) (t : ℕ → Bool) (x : V) → weights K n (λ i. cond (t i) x none) ≤ law_limit → sum_below K n (λ i. cond (t i) x none) ≡ copies K (tally n t) x
  unfolding sum_below tally copies
  sum_tally zero t x h = refl
  sum_tally (suc n) t x h =
      let w = sum_weight L n (λ i. cond (t i) x none) (omega arith) in
      let e = sum_tally n t x (omega arith) in
      ap (λ u. plus u (cond (t n) x none)) e ∙ sym (copies_when (t n) (tally n t) x (omega (arith, ap weight e)))

  pub copies_add : (m n : ℕ) (x : V) → (m + n) * weight x ≤ law_limit → copies K (m + n) x ≡ plus (copies K m x) (copies K n x)
  unfolding copies
  copies_add m zero x h =
      let e : m + 0 ≡ m = omega arith in
      rw e (sym (L.unit (copies K m x) (omega (arith, copies_weight (weight x) m x (omega arith) (omega arith)))))
  copies_add m (suc n) x h =
      let e : m + suc n ≡ suc (m + n) = omega arith in
      let a = copies_weight (weight x) m x (omega arith) (omega arith) in
      let b = copies_weight (weight x) n x (omega arith) (omega arith) in
      rw e (ap (λ u. plus u x) (copies_add m n x (omega arith)) ∙ L.assoc (copies K m x) (copies K n x) x (omega arith))

  -- copies of one amount, so many at each place, are as many copies as all together
  pub sum_copies : (n : ℕ) (g : ℕ → ℕ) (x : V) → sum_n n g * weight x ≤ law_limit → sum_below K n (λ i. copies K (g i) x) ≡ copies K (sum_n n g) x
  unfolding sum_below copies
  sum_copies zero g x h = refl
  sum_copies (suc n) g x h = ap (λ u. plus u (copies K (g n) x)) (sum_copies n g x (omega arith)) ∙ sym (copies_add (sum_n n g) (g n) x h)

  -- copies of a sum
  pub copies_plus : (k : ℕ) (x y : V) → k * (weight x + weight y) ≤ law_limit → copies K k (plus x y) ≡ plus (copies K k x) (copies K k y)
  unfolding copies
  copies_plus zero x y h = sym (none_twice L)
  copies_plus (suc k) x y h =
      let a = copies_weight (weight x) k x (omega arith) (omega arith) in
      let b = copies_weight (weight y) k y (omega arith) (omega arith) in
      ap (λ u. plus u (plus x y)) (copies_plus k x y (omega arith)) ∙ plus_swap L (copies K k x) (copies K k y) x y (omega arith)

  -- copies of a sum of n
  pub copies_of_sum : (k n : ℕ) (f : ℕ → V) → k * weights K n f ≤ law_limit → weights K n f ≤ law_limit → copies K k (sum_below K n f) ≡ sum_below K n (λ i. copies K k (f i))
  unfolding sum_below
  copies_of_sum k zero f h l = copies_none k
  copies_of_sum k (suc n) f h l =
      let w = sum_weight L n f (omega arith) in
      let m = mul-le-mul_left k w in
      copies_plus k (sum_below K n f) (f n) (omega arith) ∙ ap (λ u. plus u (copies K k (f n))) (copies_of_sum k n f (omega arith) (omega arith))

  -- copies of an opposite
  pub copies_minus : (k : ℕ) (x : V) → 3 * (k * weight x) ≤ law_limit → copies K k (minus x) ≡ minus (copies K k x)
  unfolding copies
  copies_minus zero x h = sym (minus_none L)
  copies_minus (suc k) x h =
      let a = copies_weight (weight x) k x (omega arith) (omega arith) in
      ap (λ u. plus u (minus x)) (copies_minus k x (omega arith)) ∙ sym (minus_plus L (copies K k x) x (omega arith))

  -- copies of a greater amount
  pub copies_at_most : (k : ℕ) (x y : V) → 2 * (k * (weight x + weight y)) ≤ law_limit → AtMost K x y → AtMost K (copies K k x) (copies K k y)
  unfolding copies
  copies_at_most zero x y h e = inr refl
  copies_at_most (suc k) x y h e =
      let a = copies_weight (weight x) k x (omega arith) (omega arith) in
      let b = copies_weight (weight y) k y (omega arith) (omega arith) in
      plus_at_most L (copies K k x) (copies K k y) x y (omega arith) (copies_at_most k x y (omega arith) e) e

  -- where x is at least none, more copies are no less
  pub copies_up : (l u : ℕ) (x : V) → 3 * (u * weight x) ≤ law_limit → l ≤ u → AtMost K none x → AtMost K (copies K l x) (copies K u x)
  unfolding copies
  copies_up l zero x h le a = let e : l ≡ 0 = omega arith in rw e (inr refl)
  copies_up l (suc u) x h le a = go (λ k. copies_up l u x (omega arith) k a) (cases_eq l (suc u))
    where
      go : (l ≤ u → AtMost K (copies K l x) (copies K u x)) → (l ≡ suc u) ⊎ (l ≢ suc u) → AtMost K (copies K l x) (copies K (suc u) x)
      go ih (inl e) = rw e (inr refl)
      go ih (inr d) =
          let cu = copies_weight (weight x) u x (omega arith) (omega arith) in
          let ll : l * weight x ≤ u * weight x = mul-le-mul_right (weight x) (omega arith) in
          let cl = copies_weight (weight x) l x (omega arith) (omega arith) in
          let p = L.plus_weight (copies K u x) x (omega arith) in
          let step = plus_at_most_right L none x (copies K u x) (omega (arith, L.none_weight)) a in
          at_most_trans L _ (copies K u x) _ (omega arith) (ih (omega arith)) (rw (L.unit (copies K u x) (omega arith)) at step)

  -- where x is at most none, more copies are no more
  pub copies_down : (l u : ℕ) (x : V) → 3 * (u * weight x) ≤ law_limit → l ≤ u → AtMost K x none → AtMost K (copies K u x) (copies K l x)
  unfolding copies
  copies_down l zero x h le a = let e : l ≡ 0 = omega arith in rw e (inr refl)
  copies_down l (suc u) x h le a = go (λ k. copies_down l u x (omega arith) k a) (cases_eq l (suc u))
    where
      go : (l ≤ u → AtMost K (copies K u x) (copies K l x)) → (l ≡ suc u) ⊎ (l ≢ suc u) → AtMost K (copies K (suc u) x) (copies K l x)
      go ih (inl e) = rw e (inr refl)
      go ih (inr d) =
          let cu = copies_weight (weight x) u x (omega arith) (omega arith) in
          let ll : l * weight x ≤ u * weight x = mul-le-mul_right (weight x) (omega arith) in
          let cl = copies_weight (weight x) l x (omega arith) (omega arith) in
          let p = L.plus_weight (copies K u x) x (omega arith) in
          let step = plus_at_most_right L x none (copies K u x) (omega (arith, L.none_weight)) a in
          at_most_trans L _ (copies K u x) _ (omega arith) (rw (L.unit (copies K u x) (omega arith)) at step) (ih (omega arith))

  -- a number of copies from l to u is at most the larger of the two ends
  pub copies_between : CopiesWithinBounds K
  copies_between l k u x wx h lk ku =
      let kk : k * weight x ≤ u * weight x = mul-le-mul_right (weight x) ku in
      let ll : l * weight x ≤ k * weight x = mul-le-mul_right (weight x) lk in
      let cl = copies_weight (weight x) l x (omega arith) (omega arith) in
      let ck = copies_weight (weight x) k x (omega arith) (omega arith) in
      let cu = copies_weight (weight x) u x (omega arith) (omega arith) in
      let top = larger_weight K (u * weight x) (copies K l x) (copies K u x) (omega arith) (omega arith) in
      ⊎_elim
      (λ a. at_most_trans L _ (copies K u x) _ (omega arith) (copies_up k u x h ku a) (larger_right L _ _ (omega arith)))
      (λ a. at_most_trans L _ (copies K l x) _ (omega arith) (copies_down l k x (omega arith) lk a) (larger_left L _ _ (omega arith)))
      (at_most_total L none x (omega (arith, L.none_weight)))
