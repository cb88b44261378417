-- What every source keeps: its numbers are within their limits, and a pair outside them is shut.
use Rattle.std.specs.Prelude.{◌≡◌, ℕ, ◌≤◌, ◌⊎◌, None, Option}

pub record InRange {S Q : Type 0} (count weeks : S → ℕ) (table : S → ℕ → ℕ → Option Q) : Type 0 where
  pub some_book : (s : S) → 1 ≤ count s
  pub few_books : (s : S) → count s ≤ 120
  pub some_week : (s : S) → 1 ≤ weeks s
  pub few_weeks : (s : S) → weeks s ≤ 16
  pub outside : (s : S) (b w : ℕ) → (count s ≤ b) ⊎ (weeks s ≤ w) → table s b w ≡ None
