-- Sums over the whole numbers below n. The premises are on `weights n f`, a sum that is linear at each step of an induction, so that
-- `omega` carries it; numerals come in once, by `weights_le`. Assumes nothing.
use Rattle.std.specs.Prelude.{◌≡◌, ℕ, zero, suc, ◌+◌, ◌*◌, ◌<◌, ◌≤◌, Bool, true, false, cond, ◌⊎◌, ◌==◌, ◌≢◌}
use Rattle.std.proofs.Math.Path.{refl, sym, ap, ap₂}
use Rattle.std.proofs.Common.{◌∙◌, inl}
use Rattle.std.proofs.Math.Logic.{inr}
use Rattle.std.proofs.Math.Numerals.{add-one}
use native.Mathlib.Omega.{arith}
use Rattle.std.proofs.lemmas.Bool.{cases_eq, eq-eqb, ne_eqb, cond-true, cond-false}
use Rattle.amounts.specs.Kind.{Kind, Lawful, law_limit, AtMost}
use Rattle.amounts.specs.Sums.{sum_below, weights}
use Rattle.amounts.proofs.Order.{unit_left, none_twice, plus_turn, plus_swap, minus_none, minus_plus, plus_at_most}
use Rattle.amounts.proofs.Numbers.{sum_n_le, sum_n_same, sum_n_mono, sum_n_one, sum_n_first}

module _ {V : Type 0} (K : Kind V) where
  open K use {plus, weight}

  -- ---- weights
  pub weights_le : (m n : ℕ) (f : ℕ → V) → ((i : ℕ) → i < n → weight (f i) ≤ m) → weights K n f ≤ n * m
  weights_le m n f h = sum_n_le m n (λ i. weight (f i)) h

  pub weights_same : (n : ℕ) (f g : ℕ → V) → ((i : ℕ) → i < n → f i ≡ g i) → weights K n f ≡ weights K n g
  weights_same n f g e = sum_n_same n (λ i. weight (f i)) (λ i. weight (g i)) (λ i l. ap weight (e i l))

  -- one summand weighs at most what all weigh
  pub weights_one : (n i : ℕ) (f : ℕ → V) → i < n → weight (f i) ≤ weights K n f
  weights_one n i f l = sum_n_one n i (λ i. weight (f i)) l

  -- ---- sums with no premise
  pub sum_same : (n : ℕ) (f g : ℕ → V) → ((i : ℕ) → i < n → f i ≡ g i) → sum_below K n f ≡ sum_below K n g
  unfolding sum_below
  sum_same zero f g e = refl
  sum_same (suc n) f g e = ap₂ plus (sum_same n f g (λ i l. e i (omega arith))) (e n (omega arith))

  -- a loop's step
  pub sum_more : (n : ℕ) (f : ℕ → V) → plus (sum_below K n f) (f n) ≡ sum_below K (n + 1) f
  unfolding sum_below
  sum_more n f = rw add-one refl

module _ {V : Type 0} {K : Kind V} (L : Lawful K) where
  open K use {none, plus, minus, weight}

  pub weights_none : (n : ℕ) → weights K n (λ _. none) ≡ 0
  weights_none zero = refl
  weights_none (suc n) = omega (arith, weights_none n, L.none_weight)

  pub weights_plus : (n : ℕ) (f g : ℕ → V) → weights K n f + weights K n g ≤ law_limit → weights K n (λ i. plus (f i) (g i)) ≤ weights K n f + weights K n g
  weights_plus zero f g h = omega arith
  weights_plus (suc n) f g h = omega (arith, weights_plus n f g (omega arith), L.plus_weight (f n) (g n) (omega arith))

  pub weights_minus : (n : ℕ) (f : ℕ → V) → weights K n f ≤ law_limit → weights K n (λ i. minus (f i)) ≡ weights K n f
  weights_minus zero f h = refl
  weights_minus (suc n) f h = omega (arith, weights_minus n f (omega arith), L.minus_weight (f n) (omega arith))

  -- what counts where a test passes weighs at most what all weigh
  pub weights_when : (n : ℕ) (t : ℕ → Bool) (f : ℕ → V) → weights K n (λ i. cond (t i) (f i) none) ≤ weights K n f
  weights_when n t f = sum_n_mono n (λ i. weight (cond (t i) (f i) none)) (λ i. weight (f i)) (λ i l. one (t i) (f i))
    where
      one : (b : Bool) (x : V) → weight (cond b x none) ≤ weight x
      one true x = omega arith
      one false x = omega (arith, L.none_weight)

  pub sum_weight : (n : ℕ) (f : ℕ → V) → weights K n f ≤ law_limit → weight (sum_below K n f) ≤ weights K n f
  unfolding sum_below
  sum_weight zero f h = omega (arith, L.none_weight)
  sum_weight (suc n) f h = let i = sum_weight n f (omega arith) in omega (arith, L.plus_weight (sum_below K n f) (f n) (omega arith))

  pub sum_none : (n : ℕ) (f : ℕ → V) → ((i : ℕ) → i < n → f i ≡ none) → sum_below K n f ≡ none
  unfolding sum_below
  sum_none zero f e = refl
  sum_none (suc n) f e = ap₂ plus (sum_none n f (λ i l. e i (omega arith))) (e n (omega arith)) ∙ none_twice L

  -- the sum of pointwise sums
  pub sum_plus : (n : ℕ) (f g : ℕ → V) → weights K n f + weights K n g ≤ law_limit → sum_below K n (λ i. plus (f i) (g i)) ≡ plus (sum_below K n f) (sum_below K n g)
  unfolding sum_below
  sum_plus zero f g h = sym (none_twice L)
  sum_plus (suc n) f g h =
      let a = sum_weight n f (omega arith) in
      let b = sum_weight n g (omega arith) in
      ap (λ u. plus u (plus (f n) (g n))) (sum_plus n f g (omega arith)) ∙ plus_swap L (sum_below K n f) (sum_below K n g) (f n) (g n) (omega arith)

  -- the sum of opposites
  pub sum_minus : (n : ℕ) (f : ℕ → V) → 3 * weights K n f ≤ law_limit → sum_below K n (λ i. minus (f i)) ≡ minus (sum_below K n f)
  unfolding sum_below
  sum_minus zero f h = sym (minus_none L)
  sum_minus (suc n) f h =
      let a = sum_weight n f (omega arith) in
      ap (λ u. plus u (minus (f n))) (sum_minus n f (omega arith)) ∙ sym (minus_plus L (sum_below K n f) (f n) (omega arith))

  -- the first summand taken out
  pub sum_first : (n : ℕ) (f : ℕ → V) → weights K (suc n) f ≤ law_limit → sum_below K (suc n) f ≡ plus (f 0) (sum_below K n (λ i. f (suc i)))
  unfolding sum_below
  sum_first zero f h = L.comm none (f 0) (omega (arith, L.none_weight))
  sum_first (suc n) f h =
      let e = sum_n_first n (λ i. weight (f i)) in
      let a = sum_weight n (λ i. f (suc i)) (omega arith) in
      ap (λ u. plus u (f (suc n))) (sum_first n f (omega arith)) ∙ L.assoc (f 0) (sum_below K n (λ i. f (suc i))) (f (suc n)) (omega arith)

  -- pointwise at most: the sums too
  pub sum_at_most : (n : ℕ) (f g : ℕ → V) → 2 * (weights K n f + weights K n g) ≤ law_limit → ((i : ℕ) → i < n → AtMost K (f i) (g i)) → AtMost K (sum_below K n f) (sum_below K n g)
  unfolding sum_below
  sum_at_most zero f g h le = inr refl
  sum_at_most (suc n) f g h le =
      let a = sum_weight n f (omega arith) in
      let b = sum_weight n g (omega arith) in
      plus_at_most L (sum_below K n f) (sum_below K n g) (f n) (g n) (omega arith) (sum_at_most n f g (omega arith) (λ i l. le i (omega arith))) (le n (omega arith))

  -- of a sum in which only the place j counts, f j is left
  pub sum_pick : (n j : ℕ) (f : ℕ → V) → j < n → weight (f j) ≤ law_limit → sum_below K n (λ i. cond (j == i) (f i) none) ≡ f j
  unfolding sum_below
  sum_pick zero j f l h = absurd (omega arith)
  sum_pick (suc n) j f l h = go (λ k. sum_pick n j f k h) (cases_eq j n)
    where
      go : (j < n → sum_below K n (λ i. cond (j == i) (f i) none) ≡ f j) → (j ≡ n) ⊎ (j ≢ n) → plus (sum_below K n (λ i. cond (j == i) (f i) none)) (cond (j == n) (f n) none) ≡ f j
      go ih (inl e) =
          ap₂ plus (sum_none n _ (λ i k. cond-false (j == i) (f i) none (ne_eqb j i (omega arith)))) (cond-true (j == n) (f n) none (eq-eqb j n e) ∙ ap f (sym e)) ∙ unit_left L (f j) h
      go ih (inr d) = ap₂ plus (ih (omega arith)) (cond-false (j == n) (f n) none (ne_eqb j n d)) ∙ L.unit (f j) h

  -- a sum that is none but at the place j is what stands there
  pub sum_only : (n j : ℕ) (f : ℕ → V) → j < n → weight (f j) ≤ law_limit → ((i : ℕ) → i < n → (i ≢ j) → f i ≡ none) → sum_below K n f ≡ f j
  sum_only n j f l h others = sum_same K n f (λ i. cond (j == i) (f i) none) (λ i k. go i k (cases_eq j i)) ∙ sum_pick n j f l h
    where
      go : (i : ℕ) → i < n → (j ≡ i) ⊎ (j ≢ i) → f i ≡ cond (j == i) (f i) none
      go i k (inl e) = sym (cond-true (j == i) (f i) none (eq-eqb j i e))
      go i k (inr d) = others i k (λ e. d (sym e)) ∙ sym (cond-false (j == i) (f i) none (ne_eqb j i d))

  -- a sum in two parts: below m, and the n from m on
  pub sum_append : (m n : ℕ) (f : ℕ → V) → weights K m f + weights K n (λ i. f (m + i)) ≤ law_limit → sum_below K (m + n) f ≡ plus (sum_below K m f) (sum_below K n (λ i. f (m + i)))
  unfolding sum_below
  sum_append m zero f h =
      let e : m + 0 ≡ m = omega arith in
      rw e (sym (L.unit (sum_below K m f) (omega (arith, sum_weight m f (omega arith)))))
  sum_append m (suc n) f h =
      let e : m + suc n ≡ suc (m + n) = omega arith in
      let a = sum_weight m f (omega arith) in
      let b = sum_weight n (λ i. f (m + i)) (omega arith) in
      rw e (ap (λ u. plus u (f (m + n))) (sum_append m n f (omega arith)) ∙ L.assoc (sum_below K m f) (sum_below K n (λ i. f (m + i))) (f (m + n)) (omega arith))

  -- two sums that differ in one place
  pub sum_set : (n j : ℕ) (f g : ℕ → V) → j < n → weights K n f + weight (g j) ≤ law_limit → weights K n g + weight (f j) ≤ law_limit → ((i : ℕ) → i < n → (i ≢ j) → f i ≡ g i) → plus (sum_below K n f) (g j) ≡ plus (sum_below K n g) (f j)
  unfolding sum_below
  sum_set zero j f g l hf hg e = absurd (omega arith)
  sum_set (suc n) j f g l hf hg e = go (cases_eq n j) (λ k. sum_set n j f g k (omega arith) (omega arith) (λ i m d. e i (omega arith) d))
    where
      go : (n ≡ j) ⊎ (n ≢ j) → (j < n → plus (sum_below K n f) (g j) ≡ plus (sum_below K n g) (f j)) → plus (plus (sum_below K n f) (f n)) (g j) ≡ plus (plus (sum_below K n g) (g n)) (f j)
      go (inl d) ih =
          let w = sum_weight n g (omega arith) in
          let u = ap (λ i. weight (g i)) d in
          ap₂ (λ s x. plus (plus s x) (g j)) (sum_same K n f g (λ i m. e i (omega arith) (λ z. omega arith))) (ap f d)
          ∙ plus_turn L (sum_below K n g) (f j) (g j) (omega arith)
          ∙ ap (λ x. plus (plus (sum_below K n g) x) (f j)) (ap g (sym d))
      go (inr d) ih =
          let a = sum_weight n f (omega arith) in
          let b = sum_weight n g (omega arith) in
          let u = ap weight (e n (omega arith) d) in
          plus_turn L (sum_below K n f) (f n) (g j) (omega arith)
          ∙ ap₂ plus (ih (omega arith)) (e n (omega arith) d)
          ∙ plus_turn L (sum_below K n g) (f j) (g n) (omega arith)
