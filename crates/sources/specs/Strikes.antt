-- Struck pairs: one word for each book, bit w of which says that weekend w is struck.
use Rattle.std.specs.Prelude.{◌≡◌, ℕ, ◌^◌, Bool, cond, ◌&&◌, List, None, Option, ◌==◌, bit_or, bit_xor, nat_lt, slice_index, slice_set}
use Rattle.sources.specs.Tables.{bit_at}

-- the pair (b, w) is struck
abbrev pub struck_at : List ℕ → ℕ → ℕ → Bool
struck_at words b w = bit_at (slice_index words b) w

-- what is left of a table under struck pairs
unfoldable pub struck_out : {X : Type 0} → (ℕ → ℕ → Option X) → List ℕ → ℕ → ℕ → Option X
struck_out below words b w = cond (struck_at words b w) None (below b w)

-- the words with one pair struck; a pair that has no place in them changes nothing
abbrev pub with_pair : List ℕ → ℕ → ℕ → List ℕ
with_pair words b w = cond (nat_lt b 120 && nat_lt w 16) (slice_set words b (bit_or (slice_index words b) (2 ^ w))) words

-- the words with one strike lifted
abbrev pub without_pair : List ℕ → ℕ → ℕ → List ℕ
without_pair words b w = cond (nat_lt b 120 && nat_lt w 16) (slice_set words b (bit_xor (bit_or (slice_index words b) (2 ^ w)) (2 ^ w))) words

-- the pair (b, w) is v afterwards, and every other pair is as it was
pub record OnlyAt (before after : List ℕ) (b w : ℕ) (v : Bool) : Type 0 where
  pub each : (i k : ℕ) → struck_at after i k ≡ cond (i == b && k == w) v (struck_at before i k)
