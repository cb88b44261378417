-- What reading a file answers: the first fault, or what the file describes.
use Rattle.std.specs.Prelude.{ℕ, ◌+◌, ◌/◌, ◌%◌, Bool, cond, not, ◌||◌, List, [], ◌∷◌, map, length, take, drop, Ok, Err, Result, ◌==◌, nat_lt, slice_index, slice_index_or}
use Rattle.std.specs.Simd.{first_chunks}
use Rattle.planfile.specs.declared.progress.FileKind.{FileKind}
use Rattle.planfile.specs.declared.progress.Progress.{Progress}
use Rattle.planfile.specs.declared.reader.Bound.{Bound}
use Rattle.planfile.specs.declared.reader.Quote.{Quote}
use Rattle.planfile.specs.declared.reader.Counts.{Counts}
use Rattle.planfile.specs.declared.reader.PlanFile.{PlanFile}
use Rattle.planfile.specs.declared.refusal.Fault.{Fault}
use Rattle.planfile.specs.declared.refusal.Refusal.TheVariants.{Size, Letter}
use Rattle.planfile.specs.Refusals.{fault, fault_at}
use Rattle.planfile.specs.Fields.{price_of}
use Rattle.planfile.specs.Progress.{rank, start}
use Rattle.planfile.specs.Records.{Step, stepped}
use Rattle.planfile.specs.Description.{Description}

-- the records of a file
abbrev pub records : List ℕ → List (List ℕ)
records bs = first_chunks 16 (length bs / 16) bs

-- a file ends after its limit
abbrev pub finished : ℕ → Progress → Result Progress Fault
finished i p = cond (rank p.stage == 6) (Ok p) (Err (fault Letter i 0))

-- what comes of the record i: its fault, or what follows
abbrev pub turned : ℕ → (Progress → Result Progress Fault) → Step → Result Progress Fault
turned i next (Ok q) = next q
turned i next (Err s) = Err (fault_at i s)

-- the records from number i on: the first that is faulty decides
unfoldable pub walked : FileKind → ℕ → Progress → List (List ℕ) → Result Progress Fault
walked k i p [] = finished i p
walked k i p (r ∷ rs) = turned i (λ q. walked k (i + 1) q rs) (stepped k p r)

-- what stands in the records of each kind
abbrev pub second_number : List ℕ → ℕ
second_number r = slice_index r 2

abbrev pub bound_of : List ℕ → Bound
bound_of r = record { weekend = slice_index r 1; class = slice_index r 2; lower = slice_index r 3; upper = slice_index r 4 }

abbrev pub quote_of : List ℕ → Quote
quote_of r = record { book = slice_index r 1; weekend = slice_index r 2; price = price_of r }

-- how many records stand before the limit
abbrev pub body : Progress → ℕ
body p = p.classes + p.weekends + p.books + p.bounds + p.quotes

-- the records of a sound file, taken apart by how many there are of each kind
unfoldable pub sectioned : Progress → List (List ℕ) → Description
sectioned p rs = record {
  parents = map second_number (take p.classes rs);
  weekends = p.weekends;
  classes = map second_number (take p.books (drop (p.classes + p.weekends) rs));
  bounds = map bound_of (take p.bounds (drop (p.classes + p.weekends + p.books) rs));
  quotes = map quote_of (take p.quotes (drop (p.classes + p.weekends + p.books + p.bounds) rs));
  limit = price_of (slice_index_or rs (body p) []);
}

abbrev pub describing : List (List ℕ) → Result Progress Fault → Result Description Fault
describing rs (Ok p) = Ok (sectioned p rs)
describing rs (Err f) = Err f

-- how many there are of each
abbrev pub counts_of : Description → Counts
counts_of d = record { classes = length d.parents; weekends = d.weekends; books = length d.classes; bounds = length d.bounds; quotes = length d.quotes }

-- empty, no whole number of records, or over 2,193 of them
unfoldable pub bad_size : List ℕ → Bool
bad_size bs = length bs == 0 || not (length bs % 16 == 0) || nat_lt 35088 (length bs)

unfoldable pub read_file : FileKind → List ℕ → Result Description Fault
read_file k bs = cond (bad_size bs) (Err (fault Size 0 0)) (describing (records bs) (walked k 0 start (records bs)))

-- what an accepted file's records, as they are handed out, describe
abbrev pub described : PlanFile → Description
described f = record {
  parents = map second_number f.classes.now;
  weekends = f.weekends;
  classes = map second_number f.books.now;
  bounds = map bound_of f.bounds.now;
  quotes = map quote_of f.quotes.now;
  limit = f.limit;
}

abbrev pub answered : Result PlanFile Fault → Result Description Fault
answered (Ok f) = Ok (described f)
answered (Err e) = Err e
