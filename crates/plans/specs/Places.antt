-- A list of numbers, read by place. Assumes nothing.
use Rattle.std.specs.Prelude.{ℕ, List, slice_index}

-- the number at a place, and 0 past the end
abbrev pub at : List ℕ → ℕ → ℕ
at xs i = slice_index xs i
