-- The refusals of the board layer, by number.
use Rattle.std.specs.Prelude.{ℕ, Some, None, Ok, Err, Option, Result}
use Rattle.board.specs.declared.refusal.Refusal.{Refusal}
use Rattle.board.specs.declared.refusal.Refusal.TheVariants.{Range, Unknown, Crossed, Heavy, Short, Shut, NotStruck}

abbrev pub number : Refusal → ℕ
number Range = 3
number Unknown = 5
number Crossed = 6
number Heavy = 7
number Short = 8
number Shut = 9
number NotStruck = 10

-- the answer of a call that changes the board, by what is wrong with it
abbrev pub answered : Option Refusal → Result (Unit {0}) Refusal
answered None = Ok tt
answered (Some r) = Err r
