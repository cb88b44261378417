-- The theorems on amounts that the crates above rest on, over any kind. Assumes nothing.
use Rattle.std.specs.Prelude.{◌≡◌, ℕ, ◌+◌, ◌*◌, ◌<◌, ◌≤◌, List, length}
use mathlib.Core.List.{Permᴰ}
use Rattle.amounts.specs.Kind.{Kind, Lawful, law_limit, AtMost, larger}
use Rattle.amounts.specs.Sums.{table_sum, weighs, copies, item, total, load}
use Rattle.amounts.specs.Models.{ranked_kind}

module _ {V : Type 0} (K : Kind V) where
  -- in whatever order light amounts come, their total is the same
  abbrev pub PermutationKeepsTotal : Type 0
  PermutationKeepsTotal = (xs ys : List V) → Permᴰ xs ys → load K xs ≤ law_limit → total K xs ≡ total K ys

  -- of two lists of one length: where each amount of the first is at most the one of the second at its place, so are the totals
  abbrev pub OrderCarriesToTotals : Type 0
  OrderCarriesToTotals = (xs ys : List V) → length xs ≡ length ys → 2 * (load K xs + load K ys) ≤ law_limit →
      ((i : ℕ) → i < length xs → AtMost K (item K xs i) (item K ys i)) → AtMost K (total K xs) (total K ys)

  -- a light table of m rows of n comes to one sum, by rows and by columns
  abbrev pub TableByRowsOrColumns : Type 0
  TableByRowsOrColumns = (m n : ℕ) (f : ℕ → ℕ → V) → weighs K m n f ≤ law_limit → table_sum K m n f ≡ table_sum K n m (λ j i. f i j)

  -- a number of copies from lower to upper comes to at most the larger of lower and of upper copies
  abbrev pub CopiesWithinBounds : Type 0
  CopiesWithinBounds = (lower k upper : ℕ) (x : V) → K.weight x ≤ law_limit → 3 * (upper * K.weight x) ≤ law_limit → lower ≤ k → k ≤ upper →
      AtMost K (copies K k x) (larger K (copies K lower x) (copies K upper x))

-- two kinds that keep the laws keep them when they are ranked
abbrev pub RankedKeepsLaws : Type 0 → Type 0 → Type 0
RankedKeepsLaws V W = (K : Kind V) (M : Kind W) → Lawful K → Lawful M → Lawful (ranked_kind K M)
