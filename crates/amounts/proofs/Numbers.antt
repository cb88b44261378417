-- Sums of numbers below n, and how many of them pass a test. Assumes nothing.
use Rattle.std.specs.Prelude.{◌≡◌, ℕ, zero, suc, ◌+◌, ◌*◌, ◌<◌, ◌≤◌, Bool, true, false, cond, ◌⊎◌, ◌==◌, ◌≢◌, refl}
use Rattle.std.proofs.Common.{sym, ap, ap₂, ◌∙◌, inl, inr, arith}
use Rattle.std.proofs.lemmas.Bool.{cases_eq, eq-eqb, ne_eqb, cond-true, cond-false}
use Rattle.amounts.specs.Sums.{sum_n, bit, tally}

pub sum_n_le : (m n : ℕ) (g : ℕ → ℕ) → ((i : ℕ) → i < n → g i ≤ m) → sum_n n g ≤ n * m
sum_n_le m zero g h = omega arith
sum_n_le m (suc n) g h = omega (arith, sum_n_le m n g (λ i l. h i (omega arith)), h n (omega arith))

pub sum_n_mono : (n : ℕ) (f g : ℕ → ℕ) → ((i : ℕ) → i < n → f i ≤ g i) → sum_n n f ≤ sum_n n g
sum_n_mono zero f g h = omega arith
sum_n_mono (suc n) f g h = omega (arith, sum_n_mono n f g (λ i l. h i (omega arith)), h n (omega arith))

pub sum_n_same : (n : ℕ) (f g : ℕ → ℕ) → ((i : ℕ) → i < n → f i ≡ g i) → sum_n n f ≡ sum_n n g
sum_n_same zero f g e = refl
sum_n_same (suc n) f g e = ap₂ ◌+◌ (sum_n_same n f g (λ i l. e i (omega arith))) (e n (omega arith))

pub sum_n_plus : (n : ℕ) (f g : ℕ → ℕ) → sum_n n (λ i. f i + g i) ≡ sum_n n f + sum_n n g
sum_n_plus zero f g = refl
sum_n_plus (suc n) f g = omega (arith, sum_n_plus n f g)

-- one summand is at most the sum
pub sum_n_one : (n i : ℕ) (g : ℕ → ℕ) → i < n → g i ≤ sum_n n g
sum_n_one zero i g l = absurd (omega arith)
sum_n_one (suc n) i g l = go (cases_eq i n) (λ k. sum_n_one n i g k)
  where
    go : (i ≡ n) ⊎ (i ≢ n) → (i < n → g i ≤ sum_n n g) → g i ≤ sum_n n g + g n
    go (inl e) ih = omega (arith, ap g e)
    go (inr d) ih = omega (arith, ih (omega arith))

-- a sum is zero exactly where each summand is
pub sum_n_zero_each : (n : ℕ) (g : ℕ → ℕ) → sum_n n g ≡ 0 → (i : ℕ) → i < n → g i ≡ 0
sum_n_zero_each n g h i l = omega (arith, sum_n_one n i g l)

pub sum_n_each_zero : (n : ℕ) (g : ℕ → ℕ) → ((i : ℕ) → i < n → g i ≡ 0) → sum_n n g ≡ 0
sum_n_each_zero zero g h = refl
sum_n_each_zero (suc n) g h = omega (arith, sum_n_each_zero n g (λ i l. h i (omega arith)), h n (omega arith))

-- the first summand taken out
pub sum_n_first : (n : ℕ) (g : ℕ → ℕ) → sum_n (suc n) g ≡ g 0 + sum_n n (λ i. g (suc i))
sum_n_first zero g = omega arith
sum_n_first (suc n) g = omega (arith, sum_n_first n g)

-- a double sum may be taken in either order
pub sum_n_exchange : (m n : ℕ) (f : ℕ → ℕ → ℕ) → sum_n m (λ i. sum_n n (f i)) ≡ sum_n n (λ j. sum_n m (λ i. f i j))
sum_n_exchange zero n f = sym (sum_n_each_zero n (λ _. 0) (λ j l. refl))
sum_n_exchange (suc m) n f = ap (λ k. k + sum_n n (f m)) (sum_n_exchange m n f) ∙ sym (sum_n_plus n (λ j. sum_n m (λ i. f i j)) (f m))

-- two sums that differ in one place
pub sum_n_set : (n j : ℕ) (f g : ℕ → ℕ) → j < n → ((i : ℕ) → i < n → (i ≢ j) → f i ≡ g i) → sum_n n f + g j ≡ sum_n n g + f j
sum_n_set zero j f g l e = absurd (omega arith)
sum_n_set (suc n) j f g l e = go (cases_eq n j) (λ k. sum_n_set n j f g k (λ i m d. e i (omega arith) d))
  where
    go : (n ≡ j) ⊎ (n ≢ j) → (j < n → sum_n n f + g j ≡ sum_n n g + f j) → sum_n n f + f n + g j ≡ sum_n n g + g n + f j
    go (inl d) ih = omega (arith, sum_n_same n f g (λ i m. e i (omega arith) (λ z. omega arith)), ap f d, ap g d)
    go (inr d) ih = omega (arith, ih (omega arith), e n (omega arith) d)

-- a sum that is zero but at the place j is what stands there
pub sum_n_only : (n j : ℕ) (g : ℕ → ℕ) → j < n → ((i : ℕ) → i < n → (i ≢ j) → g i ≡ 0) → sum_n n g ≡ g j
sum_n_only n j g l e = omega (arith, sum_n_set n j g (λ _. 0) l e, sum_n_each_zero n (λ _. 0) (λ i k. refl))

-- ---- how many pass
pub tally_more : (n : ℕ) (t : ℕ → Bool) → tally (suc n) t ≡ tally n t + bit (t n)
unfolding tally
tally_more n t = go (t n)
  where
    go : (b : Bool) → cond b (suc (tally n t)) (tally n t) ≡ tally n t + bit b
    go true = omega arith
    go false = omega arith

-- as many as pass, one by one
pub tally_sum : (n : ℕ) (t : ℕ → Bool) → tally n t ≡ sum_n n (λ i. bit (t i))
unfolding tally
tally_sum zero t = refl
tally_sum (suc n) t = tally_more n t ∙ ap (λ k. k + bit (t n)) (tally_sum n t)

pub bit_le : (b : Bool) → bit b ≤ 1
bit_le true = omega arith
bit_le false = omega arith

pub tally_le : (n : ℕ) (t : ℕ → Bool) → tally n t ≤ n
tally_le n t = omega (arith, tally_sum n t, sum_n_le 1 n (λ i. bit (t i)) (λ i l. bit_le (t i)))

pub tally_same : (n : ℕ) (s t : ℕ → Bool) → ((i : ℕ) → i < n → s i ≡ t i) → tally n s ≡ tally n t
tally_same n s t e = tally_sum n s ∙ sum_n_same n (λ i. bit (s i)) (λ i. bit (t i)) (λ i l. ap bit (e i l)) ∙ sym (tally_sum n t)

-- tests that differ in one place
pub tally_set : (n j : ℕ) (s t : ℕ → Bool) → j < n → ((i : ℕ) → i < n → (i ≢ j) → s i ≡ t i) → tally n s + bit (t j) ≡ tally n t + bit (s j)
tally_set n j s t l e = omega (arith, tally_sum n s, tally_sum n t, sum_n_set n j (λ i. bit (s i)) (λ i. bit (t i)) l (λ i k d. ap bit (e i k d)))

-- one that passes counts, and one that fails is missing
pub tally_has : (n j : ℕ) (t : ℕ → Bool) → j < n → bit (t j) ≤ tally n t
tally_has n j t l = omega (arith, tally_sum n t, sum_n_one n j (λ i. bit (t i)) l)

pub tally_miss : (n j : ℕ) (t : ℕ → Bool) → j < n → t j ≡ false → tally n t < n
tally_miss n j t l e =
    let a = tally_set n j (λ i. cond (i == j) true (t i)) t l (λ i _ d. cond-false (i == j) true (t i) (ne_eqb i j d)) in
    let b = tally_le n (λ i. cond (i == j) true (t i)) in
    omega (arith, ap bit e, ap bit (cond-true (j == j) true (t j) (eq-eqb j j refl)))
