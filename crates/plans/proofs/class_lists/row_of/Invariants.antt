use Rattle.std.proofs.Common.{◌≡◌, ℕ, ◌<◌, ◌≤◌, length, get_or}
use Rattle.plans.proofs.class_lists.row_of.Given as goal

-- the numbers so far stand in the row, and zeros behind them
abbrev pub invariant-loop-place : goal.invariant-loop-place
invariant-loop-place g l =
    ((i : ℕ) → i < l.place → get_or l.row i 0 ≡ get_or l.numbers i 0)
    × ((i : ℕ) → l.place ≤ i → get_or l.row i 0 ≡ 0)
    × (length l.row ≡ g.row.N)
