-- Sums of amounts: over the whole numbers below n, over tables and lists, and of copies. Assumes nothing.
use Rattle.std.specs.Prelude.{ℕ, zero, suc, ◌+◌, Bool, true, false, cond, List, length, slice_index_or}
use Rattle.amounts.specs.Kind.{Kind}

-- g 0 + g 1 + .. + g (n - 1), of numbers
abbrev pub sum_n : ℕ → (ℕ → ℕ) → ℕ
sum_n zero g = 0
sum_n (suc n) g = sum_n n g + g n

-- 1 where a test passes, and else 0
abbrev pub bit : Bool → ℕ
bit true = 1
bit false = 0

-- how many i below n pass the test
unfoldable pub tally : ℕ → (ℕ → Bool) → ℕ
tally zero t = 0
tally (suc n) t = cond (t n) (suc (tally n t)) (tally n t)

module _ {V : Type 0} (K : Kind V) where
  -- f 0 + f 1 + .. + f (n - 1)
  unfoldable pub sum_below : ℕ → (ℕ → V) → V
  sum_below zero f = K.none
  sum_below (suc n) f = K.plus (sum_below n f) (f n)

  -- what f 0, f 1, .., f (n - 1) weigh together
  abbrev pub weights : ℕ → (ℕ → V) → ℕ
  weights n f = sum_n n (λ i. K.weight (f i))

  -- the sum of a table of m rows of n, row by row
  unfoldable pub table_sum : ℕ → ℕ → (ℕ → ℕ → V) → V
  table_sum m n f = sum_below m (λ i. sum_below n (f i))

  -- what the entries of a table weigh together
  abbrev pub weighs : ℕ → ℕ → (ℕ → ℕ → V) → ℕ
  weighs m n f = sum_n m (λ i. weights n (f i))

  -- the sum of k copies of x
  unfoldable pub copies : ℕ → V → V
  copies zero x = K.none
  copies (suc k) x = K.plus (copies k x) x

  -- what stands at place i of a list, and nothing past its end
  abbrev pub item : List V → ℕ → V
  item xs i = slice_index_or xs i K.none

  -- the sum of a list, from its first to its last
  abbrev pub total : List V → V
  total xs = sum_below (length xs) (item xs)

  -- what the amounts of a list weigh together
  abbrev pub load : List V → ℕ
  load xs = weights (length xs) (item xs)
