-- The refusals of the file layer, by number.
use Rattle.std.specs.Prelude.{ℕ}
use Rattle.planfile.specs.declared.refusal.Refusal.{Refusal}
use Rattle.planfile.specs.declared.refusal.Refusal.TheVariants.{Size, Letter, Number, Padding, Bounds, Weight, Sheet}
use Rattle.planfile.specs.declared.refusal.Spot.{Spot}
use Rattle.planfile.specs.declared.refusal.Fault.{Fault}

-- 5 is a fault of calls on a board, and never told of a file
abbrev pub number_of : Refusal → ℕ
number_of Size = 1
number_of Letter = 2
number_of Number = 3
number_of Padding = 4
number_of Bounds = 6
number_of Weight = 7
number_of Sheet = 8

-- a refusal told at this byte of a record
abbrev pub spot : Refusal → ℕ → Spot
spot n at = record { refusal = n; byte = at }

-- a refusal told at this record and byte
abbrev pub fault : Refusal → ℕ → ℕ → Fault
fault n i at = record { refusal = n; «record» = i; byte = at }

-- a refusal inside the record i
abbrev pub fault_at : ℕ → Spot → Fault
fault_at i s = fault s.refusal i s.byte
