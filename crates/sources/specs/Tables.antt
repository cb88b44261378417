-- What a lent table of quotes means.
use Rattle.std.specs.Prelude.{ℕ, ◌+◌, ◌*◌, ◌/◌, ◌%◌, ◌^◌, min, max, Bool, cond, ◌&&◌, List, Some, None, Option, ◌==◌, nat_le, nat_lt, slice_index}
use Rattle.std.specs.List.{slice_get}

-- a count taken as the nearer end of 1 to top, where it lies outside
abbrev pub clamped : ℕ → ℕ → ℕ
clamped top n = max 1 (min top n)

-- bit k of a word
abbrev pub bit_at : ℕ → ℕ → Bool
bit_at word k = word / 2 ^ k % 2 == 1

-- an amount of weight at most 10^9
abbrev pub light_only : {X : Type 0} → (X → ℕ) → Option X → Option X
light_only weight None = None
light_only weight (Some x) = cond (nat_le (weight x) 1000000000) (Some x) None

-- the pair (b, w) is one of n books and m weekends, and the book's word opens the weekend
abbrev pub word_opens : List ℕ → ℕ → ℕ → ℕ → ℕ → Bool
word_opens words n m b w = nat_lt b n && nat_lt w m && bit_at (slice_index words b) w

-- the pair (b, w) of a table of n books and m weekends
unfoldable pub table_pair : {X : Type 0} → (X → ℕ) → List X → List ℕ → ℕ → ℕ → ℕ → ℕ → Option X
table_pair weight quotes words n m b w =
    cond (word_opens words n m b w) (light_only weight (slice_get quotes (b * m + w))) None
