-- What a tariff by spans means.
use Rattle.std.specs.Prelude.{ℕ, ◌-◌, Bool, cond, ◌&&◌, List, Some, None, Option, nat_le, nat_lt}
use Rattle.amounts.specs.Kind.{Kind}
use Rattle.amounts.specs.Sums.{copies}
use Rattle.std.specs.List.{slice_get}
use Rattle.sources.specs.declared.span_tariff.Span.{Span}

-- a span of m weekends that does not run backward, ends within them, and is light enough for every wait, opens those from first to last
unfoldable pub span_opens : ℕ → ℕ → ℕ → ℕ → ℕ → ℕ → Bool
span_opens first last m base step w = nat_le first last && nat_lt last m && nat_le base 500000000 && nat_le step 4000000 && nat_le first w && nat_le w last

-- the base, and a step for each weekend from the first to this one
unfoldable pub span_quote : {X : Type 0} → Kind X → ℕ → ℕ → Span X → Option X
span_quote K m w s =
    cond (span_opens s.first s.last m (K.weight s.base) (K.weight s.step) w) (Some (K.plus s.base (copies K (w - s.first) s.step))) None

-- what a book's span quotes, if it has one
abbrev pub quote_of : {X : Type 0} → Kind X → ℕ → ℕ → Option (Span X) → Option X
quote_of K m w None = None
quote_of K m w (Some s) = span_quote K m w s

-- the pair (b, w) of a tariff of n books and m weekends
unfoldable pub span_pair : {X : Type 0} → Kind X → List (Span X) → ℕ → ℕ → ℕ → ℕ → Option X
span_pair K spans n m b w = cond (nat_lt b n && nat_lt w m) (quote_of K m w (slice_get spans b)) None
