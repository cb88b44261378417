-- What may follow: the order of the letters, and the order of bounds and quotes.
use Rattle.std.specs.Prelude.{ℕ, Bool, ◌&&◌, ◌||◌, ◌==◌, nat_le, nat_lt}
use Rattle.planfile.specs.declared.progress.Stage.{Stage}
use Rattle.planfile.specs.declared.progress.Stage.TheVariants.{Start, Class, Weekend, Book, Bound, Quote, Limit}
use Rattle.planfile.specs.declared.progress.Place.{Place}
use Rattle.planfile.specs.declared.progress.Progress.{Progress}

-- the stages in the order in which a file goes through them
abbrev pub rank : Stage → ℕ
rank Start = 0
rank Class = 1
rank Weekend = 2
rank Book = 3
rank Bound = 4
rank Quote = 5
rank Limit = 6

unfoldable pub within : ℕ → ℕ → Stage → Bool
within low high s = nat_le low (rank s) && nat_le (rank s) high

abbrev pub place : ℕ → ℕ → Place
place a b = record { row = a; column = b }

-- by row, and in one row by column
unfoldable pub before : Place → Place → Bool
before p q = nat_lt p.row q.row || (p.row == q.row && nat_lt p.column q.column)

abbrev pub start : Progress
start = record { stage = Start; classes = 0; weekends = 0; books = 0; bounds = 0; quotes = 0; next_bound = place 0 0; next_quote = place 0 0 }
