-- Sums over tables of m rows of n. The premises are on `weighs m n f`; numerals come in once, by `weighs_le`. Assumes nothing.
use Rattle.std.specs.Prelude.{◌≡◌, ℕ, zero, suc, ◌+◌, ◌*◌, ◌<◌, ◌≤◌, Bool, true, false, cond, ◌&&◌, ◌⊎◌, ◌≢◌}
use Rattle.std.proofs.Math.Path.{refl, sym, ap, ap₂}
use Rattle.std.proofs.Common.{◌∙◌, inl, arith}
use Rattle.std.proofs.Math.Logic.{inr}
use Rattle.std.proofs.lemmas.Bool.{cases_eq}
use Rattle.amounts.specs.Kind.{Kind, Lawful, law_limit, AtMost}
use Rattle.amounts.specs.Sums.{sum_below, weights, table_sum, weighs}
use Rattle.amounts.specs.Promises.{TableByRowsOrColumns}
use Rattle.amounts.proofs.Order.{none_twice, plus_turn, plus_swap, minus_none, minus_plus, plus_at_most}
use Rattle.amounts.proofs.Numbers.{sum_n_le, sum_n_same, sum_n_exchange}
use Rattle.amounts.proofs.Sums.{weights_le, weights_same, weights_none, weights_plus, sum_weight, sum_same, sum_none, sum_plus, sum_minus, sum_at_most, sum_set}

module _ {V : Type 0} (K : Kind V) where
  pub weighs_le : (k m n : ℕ) (f : ℕ → ℕ → V) → ((i j : ℕ) → i < m → j < n → K.weight (f i j) ≤ k) → weighs K m n f ≤ m * (n * k)
  weighs_le k m n f h = sum_n_le (n * k) m (λ i. weights K n (f i)) (λ i p. weights_le K k n (f i) (λ j q. h i j p q))

  pub weighs_same : (m n : ℕ) (f g : ℕ → ℕ → V) → ((i j : ℕ) → i < m → j < n → f i j ≡ g i j) → weighs K m n f ≡ weighs K m n g
  weighs_same m n f g e = sum_n_same m (λ i. weights K n (f i)) (λ i. weights K n (g i)) (λ i p. weights_same K n (f i) (g i) (λ j q. e i j p q))

  -- a table and its mirror image weigh the same
  pub weighs_exchange : (m n : ℕ) (f : ℕ → ℕ → V) → weighs K m n f ≡ weighs K n m (λ j i. f i j)
  weighs_exchange m n f = sum_n_exchange m n (λ i j. K.weight (f i j))

  pub table_same : (m n : ℕ) (f g : ℕ → ℕ → V) → ((i j : ℕ) → i < m → j < n → f i j ≡ g i j) → table_sum K m n f ≡ table_sum K m n g
  unfolding table_sum
  table_same m n f g e = sum_same K m _ _ (λ i p. sum_same K n (f i) (g i) (λ j q. e i j p q))

module _ {V : Type 0} {K : Kind V} (L : Lawful K) where
  open K use {none, plus, minus, weight}

  pub table_weight : (m n : ℕ) (f : ℕ → ℕ → V) → weighs K m n f ≤ law_limit → weight (table_sum K m n f) ≤ weighs K m n f
  unfolding table_sum sum_below
  table_weight zero n f h = omega (arith, L.none_weight)
  table_weight (suc m) n f h =
      let i = table_weight m n f (omega arith) in
      let r = sum_weight L n (f m) (omega arith) in
      omega (arith, L.plus_weight (table_sum K m n f) (sum_below K n (f m)) (omega arith))

  pub table_none : (m n : ℕ) (f : ℕ → ℕ → V) → ((i j : ℕ) → i < m → j < n → f i j ≡ none) → table_sum K m n f ≡ none
  unfolding table_sum
  table_none m n f e = sum_none L m _ (λ i p. sum_none L n (f i) (λ j q. e i j p q))

  pub table_plus : (m n : ℕ) (f g : ℕ → ℕ → V) → weighs K m n f + weighs K m n g ≤ law_limit → table_sum K m n (λ i j. plus (f i j) (g i j)) ≡ plus (table_sum K m n f) (table_sum K m n g)
  unfolding table_sum sum_below
  table_plus zero n f g h = sym (none_twice L)
  table_plus (suc m) n f g h =
      let a = table_weight m n f (omega arith) in
      let b = table_weight m n g (omega arith) in
      let c = sum_weight L n (f m) (omega arith) in
      let d = sum_weight L n (g m) (omega arith) in
      ap₂ plus (table_plus m n f g (omega arith)) (sum_plus L n (f m) (g m) (omega arith)) ∙ plus_swap L (table_sum K m n f) (table_sum K m n g) (sum_below K n (f m)) (sum_below K n (g m)) (omega arith)

  pub table_minus : (m n : ℕ) (f : ℕ → ℕ → V) → 3 * weighs K m n f ≤ law_limit → table_sum K m n (λ i j. minus (f i j)) ≡ minus (table_sum K m n f)
  unfolding table_sum sum_below
  table_minus zero n f h = sym (minus_none L)
  table_minus (suc m) n f h =
      let a = table_weight m n f (omega arith) in
      let c = sum_weight L n (f m) (omega arith) in
      ap₂ plus (table_minus m n f (omega arith)) (sum_minus L n (f m) (omega arith)) ∙ sym (minus_plus L (table_sum K m n f) (sum_below K n (f m)) (omega arith))

  pub table_at_most : (m n : ℕ) (f g : ℕ → ℕ → V) → 2 * (weighs K m n f + weighs K m n g) ≤ law_limit → ((i j : ℕ) → i < m → j < n → AtMost K (f i j) (g i j)) → AtMost K (table_sum K m n f) (table_sum K m n g)
  unfolding table_sum sum_below
  table_at_most zero n f g h le = inr refl
  table_at_most (suc m) n f g h le =
      let a = table_weight m n f (omega arith) in
      let b = table_weight m n g (omega arith) in
      let c = sum_weight L n (f m) (omega arith) in
      let d = sum_weight L n (g m) (omega arith) in
      plus_at_most L (table_sum K m n f) (table_sum K m n g) (sum_below K n (f m)) (sum_below K n (g m)) (omega arith) (table_at_most m n f g (omega arith) (λ i j p q. le i j (omega arith) q)) (sum_at_most L n (f m) (g m) (omega arith) (λ j q. le m j (omega arith) q))

  -- the sums of the columns weigh no more than the entries
  pub columns_weight : (m n : ℕ) (f : ℕ → ℕ → V) → weighs K m n f ≤ law_limit → weights K n (λ j. sum_below K m (λ i. f i j)) ≤ weighs K m n f
  unfolding sum_below
  columns_weight zero n f h = omega (arith, weights_none L n)
  columns_weight (suc m) n f h =
      let i = columns_weight m n f (omega arith) in
      omega (arith, weights_plus L n (λ j. sum_below K m (λ i. f i j)) (f m) (omega arith))

  -- nor do the sums of the rows
  pub rows_weight : (m n : ℕ) (f : ℕ → ℕ → V) → weighs K m n f ≤ law_limit → weights K m (λ i. sum_below K n (f i)) ≤ weighs K m n f
  rows_weight zero n f h = omega arith
  rows_weight (suc m) n f h = omega (arith, rows_weight m n f (omega arith), sum_weight L n (f m) (omega arith))

  -- a double sum may be taken in either order
  pub table_exchange : TableByRowsOrColumns K
  unfolding table_sum sum_below
  table_exchange zero n f h = sym (sum_none L n (λ _. none) (λ i l. refl))
  table_exchange (suc m) n f h =
      let c = columns_weight m n f (omega arith) in
      ap (λ u. plus u (sum_below K n (f m))) (table_exchange m n f (omega arith)) ∙ sym (sum_plus L n (λ j. sum_below K m (λ i. f i j)) (f m) (omega arith))

  -- a row of which all that passes a test counts, or nothing
  pub row_when : (n : ℕ) (s : Bool) (t : ℕ → Bool) (f : ℕ → V) → sum_below K n (λ j. cond (s && t j) (f j) none) ≡ cond s (sum_below K n (λ j. cond (t j) (f j) none)) none
  row_when n true t f = refl
  row_when n false t f = sum_none L n _ (λ i l. refl)

  -- two tables that differ in one place
  pub table_set : (m n i₀ j₀ : ℕ) (f g : ℕ → ℕ → V) → i₀ < m → j₀ < n → weighs K m n f + weight (g i₀ j₀) ≤ law_limit → weighs K m n g + weight (f i₀ j₀) ≤ law_limit → ((i j : ℕ) → i < m → j < n → ((i ≡ i₀) × (j ≡ j₀) → ⊥) → f i j ≡ g i j) →
      plus (table_sum K m n f) (g i₀ j₀) ≡ plus (table_sum K m n g) (f i₀ j₀)
  unfolding table_sum sum_below
  table_set zero n i₀ j₀ f g li lj hf hg e = absurd (omega arith)
  table_set (suc m) n i₀ j₀ f g li lj hf hg e =
      go (cases_eq m i₀) (λ k. table_set m n i₀ j₀ f g k lj (omega arith) (omega arith) (λ i j p q d. e i j (omega arith) q d))
    where
      go : (m ≡ i₀) ⊎ (m ≢ i₀) → (i₀ < m → plus (table_sum K m n f) (g i₀ j₀) ≡ plus (table_sum K m n g) (f i₀ j₀)) → plus (plus (table_sum K m n f) (sum_below K n (f m))) (g i₀ j₀) ≡ plus (plus (table_sum K m n g) (sum_below K n (g m))) (f i₀ j₀)
      go (inl d) ih =
          let above : table_sum K m n f ≡ table_sum K m n g = table_same K m n f g (λ i j p q. e i j (omega arith) q (λ z. omega (arith, z.0))) in
          let u = ap (λ i. weight (f i j₀)) d in
          let v = ap (λ i. weight (g i j₀)) d in
          let tf = table_weight m n f (omega arith) in
          let tg = table_weight m n g (omega arith) in
          let same_weight = ap weight above in
          let rf = sum_weight L n (f m) (omega arith) in
          let rg = sum_weight L n (g m) (omega arith) in
          let row = sum_set L n j₀ (f m) (g m) lj (omega arith) (omega arith) (λ j q c. e m j (omega arith) q (λ z. c z.1)) in
          ap (λ t. plus (plus t (sum_below K n (f m))) (g i₀ j₀)) above
          ∙ L.assoc (table_sum K m n g) (sum_below K n (f m)) (g i₀ j₀) (omega arith)
          ∙ ap (plus (table_sum K m n g)) (ap (λ i. plus (sum_below K n (f m)) (g i j₀)) (sym d) ∙ row ∙ ap (λ i. plus (sum_below K n (g m)) (f i j₀)) d)
          ∙ sym (L.assoc (table_sum K m n g) (sum_below K n (g m)) (f i₀ j₀) (omega arith))
      go (inr d) ih =
          let tf = table_weight m n f (omega arith) in
          let tg = table_weight m n g (omega arith) in
          let rf = sum_weight L n (f m) (omega arith) in
          let rg = sum_weight L n (g m) (omega arith) in
          plus_turn L (table_sum K m n f) (sum_below K n (f m)) (g i₀ j₀) (omega arith)
          ∙ ap₂ plus (ih (omega arith)) (sum_same K n (f m) (g m) (λ j q. e m j (omega arith) q (λ z. d z.0)))
          ∙ plus_turn L (table_sum K m n g) (f i₀ j₀) (sum_below K n (g m)) (omega arith)
