-- A source with every quote counted no coins. Assumes nothing.
use Rattle.std.proofs.Common.{ap}
use Rattle.std.specs.Prelude.{ℕ, pos, Option}
use Rattle.amounts.specs.declared.money.Money.{Money}
use Rattle.amounts.specs.Models.{money}
use Rattle.sources.specs.Meaning.{InRange}
use Rattle.plans.specs.Sheets.{counted}

-- the quotes of a table, each counted no coins
abbrev pub freed : {Q : Type 0} → (ℕ → ℕ → Option Q) → ℕ → ℕ → Option Money
freed quote b w = counted (money (pos 0)) (quote b w)

-- the numbers are as below, and what is shut there stays shut
pub free_ranges : {S F Q : Type 0} {count weeks : S → ℕ} {table : S → ℕ → ℕ → Option Q} → InRange count weeks table → (below : F → S)
    → InRange (λ f. count (below f)) (λ f. weeks (below f)) (λ f. freed (table (below f)))
free_ranges ranges below = record {
  some_book = λ f. ranges.some_book (below f);
  few_books = λ f. ranges.few_books (below f);
  some_week = λ f. ranges.some_week (below f);
  few_weeks = λ f. ranges.few_weeks (below f);
  outside = λ f b w h. ap (counted (money (pos 0))) (ranges.outside (below f) b w h);
}
