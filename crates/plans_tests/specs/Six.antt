-- The quotes of three books at two weekends, in coins. Assumes nothing.
use Rattle.std.specs.Prelude.{◌≡◌, ℕ, ◌+◌, ◌*◌, ◌≤◌, false, cond, ◌&&◌, ◌⊎◌, List, pos, Some, None, Option, nat_lt, slice_index}
use Rattle.std.proofs.Common.{inl, inr, arith, le-ltb}
use Rattle.std.proofs.lemmas.Bool.{and_left, and_right, cond-false}
use Rattle.amounts.specs.declared.money.Money.{Money}
use Rattle.amounts.specs.Models.{money}
use Rattle.sources.specs.Meaning.{InRange}

-- so many coins, and shut at none
abbrev pub coined : ℕ → Option Money
coined n = cond (nat_lt 0 n) (Some (money (pos n))) None

abbrev pub six_quote : List ℕ → ℕ → ℕ → Option Money
six_quote coins b w = cond (nat_lt b 3 && nat_lt w 2) (coined (slice_index coins (b * 2 + w))) None

pub six_outside : (coins : List ℕ) (b w : ℕ) → (3 ≤ b) ⊎ (2 ≤ w) → six_quote coins b w ≡ None
six_outside coins b w out = cond-false (nat_lt b 3 && nat_lt w 2) (coined (slice_index coins (b * 2 + w))) None (shut out)
  where
    shut : (3 ≤ b) ⊎ (2 ≤ w) → (nat_lt b 3 && nat_lt w 2) ≡ false
    shut (inl h) = and_left (nat_lt b 3) (nat_lt w 2) (le-ltb b 3 h)
    shut (inr h) = and_right (nat_lt b 3) (nat_lt w 2) (le-ltb w 2 h)

pub six_ranges : {S : Type 0} (coins : S → List ℕ) → InRange (λ (s : S). 3) (λ s. 2) (λ s. six_quote (coins s))
six_ranges coins = record {
  some_book = λ s. omega arith;
  few_books = λ s. omega arith;
  some_week = λ s. omega arith;
  few_weeks = λ s. omega arith;
  outside = λ s b w. six_outside (coins s) b w;
}
