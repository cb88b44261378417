-- Text on a lent sheet of bytes, and the lines of a report. Every line ends with byte 10.
use Rattle.std.specs.Prelude.{◌≡◌, ℕ, ◌+◌, ◌/◌, ◌≤◌, cond, List, [], ◌∷◌, ◌++◌, length, take, drop, Ok, Err, codes, decimal, Result, nat_lt}
use Rattle.planfile.specs.declared.pen.Pen.{Pen}
use Rattle.planfile.specs.declared.progress.FileKind.TheVariants.{Money}
use Rattle.planfile.specs.declared.reader.Counts.{Counts}
use Rattle.planfile.specs.declared.refusal.Fault.{Fault}
use Rattle.planfile.specs.declared.refusal.Refusal.TheVariants.{Sheet}
use Rattle.planfile.specs.Refusals.{number_of, fault}
use Rattle.planfile.specs.Description.{Description}
use Rattle.planfile.specs.Reading.{counts_of, read_file}

-- the sheet with these bytes from place `at` on, and the rest as it was
unfoldable pub overwritten : List ℕ → ℕ → List ℕ → List ℕ
overwritten sheet at bs = take at sheet ++ (bs ++ drop (at + length bs) sheet)

-- a call wrote these bytes at place `at`, and answered the place behind them
pub record Wrote (sheet : List ℕ) (at : ℕ) (bs after : List ℕ) (next : ℕ) : Type 0 where
  pub bytes : after ≡ overwritten sheet at bs
  pub end : next ≡ at + length bs
  pub room : next ≤ length sheet
  pub long : length after ≡ length sheet

-- a pen wrote these bytes, and stands behind them on the same sheet
pub record Writes (before : Pen) (bs : List ℕ) (after : Pen) : Type 0 where
  pub same : after.sheet.ghost_name ≡ before.sheet.ghost_name
  pub wrote : Wrote before.sheet.now before.at bs after.sheet.now after.at

-- `refused 3 record 5 byte 2`
unfoldable pub fault_line : Fault → List ℕ
fault_line f =
    (codes "refused " ++ decimal (number_of f.refusal)) ++ ((codes " record " ++ decimal f.«record») ++ ((codes " byte " ++ decimal f.byte) ++ (10 ∷ [])))

-- `accepted 17 records`
unfoldable pub accepted_line : ℕ → List ℕ
accepted_line n = (codes "accepted " ++ decimal n) ++ (codes " records" ++ (10 ∷ []))

-- `classes 2 weekends 2 books 3 bounds 3 quotes 6`
unfoldable pub counts_line : Counts → List ℕ
counts_line c =
    (codes "classes " ++ decimal c.classes) ++ ((codes " weekends " ++ decimal c.weekends) ++ ((codes " books " ++ decimal c.books)
    ++ ((codes " bounds " ++ decimal c.bounds) ++ ((codes " quotes " ++ decimal c.quotes) ++ (10 ∷ [])))))

-- what a report says of a file with so many records
abbrev pub report_text : ℕ → Result Description Fault → List ℕ
report_text n (Ok d) = accepted_line n ++ counts_line (counts_of d)
report_text n (Err f) = fault_line f

-- the report of a money file
unfoldable pub report : List ℕ → List ℕ
report bs = report_text (length bs / 16) (read_file Money bs)

-- what a report answers over a sheet of this length: how many bytes it wrote, or that the sheet is too short
abbrev pub report_answer : List ℕ → ℕ → Result ℕ Fault
report_answer bs room = cond (nat_lt room 16384) (Err (fault Sheet 0 0)) (Ok (length (report bs)))

-- what the sheet then holds: the report in front and the rest as it was, or all as it was
abbrev pub report_sheet : List ℕ → List ℕ → List ℕ
report_sheet bs sheet = cond (nat_lt (length sheet) 16384) sheet (overwritten sheet 0 (report bs))
