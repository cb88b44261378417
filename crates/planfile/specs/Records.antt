-- The six kinds of record: the first fault of each, or what the file has come to with it.
-- Within a record the letter is looked at first, then the bytes that must be zero, then the numbers, bounds and weights.
use Rattle.std.specs.Prelude.{ℕ, ◌+◌, max, Bool, cond, not, ◌&&◌, List, take, drop, Some, None, Ok, Err, Result, ◌==◌, nat_le, nat_lt, slice_index, unsigned_abs}
use Rattle.planfile.specs.declared.fields.Price.{Price}
use Rattle.planfile.specs.declared.progress.FileKind.{FileKind}
use Rattle.planfile.specs.declared.progress.Progress.{Progress}
use Rattle.planfile.specs.declared.progress.Stage.TheVariants.{Class, Weekend, Book, Bound, Quote, Limit}
use Rattle.planfile.specs.declared.refusal.Refusal.{Refusal}
use Rattle.planfile.specs.declared.refusal.Refusal.TheVariants.{Letter, Number, Padding, Bounds, Weight}
use Rattle.planfile.specs.declared.refusal.Spot.{Spot}
use Rattle.planfile.specs.Refusals.{spot}
use Rattle.planfile.specs.Fields.{nonzero, price_of, spare_bytes}
use Rattle.planfile.specs.Progress.{within, before, place}

abbrev pub Step : Type 0
Step = Result Progress Spot

-- this refusal at this byte where the test holds, else what follows
abbrev pub refuse : {X : Type 0} → Refusal → ℕ → Bool → Result X Spot → Result X Spot
refuse n at test rest = cond test (Err (spot n at)) rest

-- a refusal at the first byte from place k on that is not zero
abbrev pub zeros : {X : Type 0} → ℕ → List ℕ → Result X Spot → Result X Spot
zeros k bs rest = elim (nonzero k bs) [ None ↦ rest | Some at ↦ Err (spot Padding at) ]

-- what the file has come to with one record more of each kind
abbrev pub with_class : Progress → ℕ → Progress
with_class p class = record p { stage = Class; classes = class + 1 }

abbrev pub with_weekend : Progress → ℕ → Progress
with_weekend p weekend = record p { stage = Weekend; weekends = weekend + 1 }

abbrev pub with_book : Progress → ℕ → Progress
with_book p book = record p { stage = Book; books = book + 1 }

abbrev pub with_bound : Progress → ℕ → ℕ → Progress
with_bound p weekend class = record p { stage = Bound; bounds = p.bounds + 1; next_bound = place weekend (class + 1) }

abbrev pub with_quote : Progress → ℕ → ℕ → Progress
with_quote p book weekend = record p { stage = Quote; quotes = p.quotes + 1; next_quote = place book (weekend + 1) }

abbrev pub with_limit : Progress → Progress
with_limit p = record p { stage = Limit }

-- one class more: its number counts up from 0, and its parent is a class before it (class 0 is its own)
abbrev pub class_record : Progress → ℕ → ℕ → List ℕ → Step
class_record p class parent rest =
    refuse Letter 0 (not (within 0 1 p.stage))
    (zeros 3 rest
    (refuse Number 1 (not (class == p.classes && nat_lt class 8))
    (refuse Number 2 (not (nat_lt parent (max class 1)))
    (Ok (with_class p class)))))

abbrev pub weekend_record : Progress → ℕ → List ℕ → Step
weekend_record p weekend rest =
    refuse Letter 0 (not (within 1 2 p.stage))
    (zeros 2 rest
    (refuse Number 1 (not (weekend == p.weekends && nat_lt weekend 16))
    (Ok (with_weekend p weekend))))

abbrev pub book_record : Progress → ℕ → ℕ → List ℕ → Step
book_record p book class rest =
    refuse Letter 0 (not (within 2 3 p.stage))
    (zeros 3 rest
    (refuse Number 1 (not (book == p.books && nat_lt book 120))
    (refuse Number 2 (not (nat_lt class p.classes))
    (Ok (with_book p book)))))

-- bounds rise by (weekend, class)
abbrev pub bound_record : Progress → ℕ → ℕ → ℕ → ℕ → List ℕ → Step
bound_record p weekend class lower upper rest =
    refuse Letter 0 (not (within 3 4 p.stage))
    (zeros 5 rest
    (refuse Number 1 (not (nat_lt weekend p.weekends))
    (refuse Number 1 (before (place weekend class) p.next_bound)
    (refuse Number 2 (not (nat_lt class p.classes))
    (refuse Bounds 3 (not (nat_le lower upper && nat_le upper 120))
    (Ok (with_bound p weekend class)))))))

-- quotes rise by (book, weekend), and each part weighs at most 10^9
abbrev pub quote_record : Progress → ℕ → ℕ → List ℕ → Price → Step
quote_record p book weekend spare price =
    refuse Letter 0 (not (within 3 5 p.stage))
    (zeros 3 spare
    (refuse Number 1 (not (nat_lt book p.books))
    (refuse Number 1 (before (place book weekend) p.next_quote)
    (refuse Number 2 (not (nat_lt weekend p.weekends))
    (refuse Weight 4 (nat_lt 1000000000 (unsigned_abs price.strain))
    (refuse Weight 8 (nat_lt 1000000000 (unsigned_abs price.money))
    (Ok (with_quote p book weekend))))))))

-- the limit weighs at most 10^12, which its strain of 32 bits never exceeds
abbrev pub limit_record : Progress → List ℕ → Price → Step
limit_record p spare price =
    refuse Letter 0 (not (within 3 5 p.stage))
    (zeros 1 spare
    (refuse Weight 8 (nat_lt 1000000000000 (unsigned_abs price.money))
    (Ok (with_limit p))))

-- where the numbers of each kind stand
unfoldable pub class_line : Progress → List ℕ → Step
class_line p r = class_record p (slice_index r 1) (slice_index r 2) (drop 3 r)

unfoldable pub weekend_line : Progress → List ℕ → Step
weekend_line p r = weekend_record p (slice_index r 1) (drop 2 r)

unfoldable pub book_line : Progress → List ℕ → Step
book_line p r = book_record p (slice_index r 1) (slice_index r 2) (drop 3 r)

unfoldable pub bound_line : Progress → List ℕ → Step
bound_line p r = bound_record p (slice_index r 1) (slice_index r 2) (slice_index r 3) (slice_index r 4) (drop 5 r)

unfoldable pub quote_line : FileKind → Progress → List ℕ → Step
quote_line k p r = quote_record p (slice_index r 1) (slice_index r 2) (take (spare_bytes k) (drop 3 r)) (price_of r)

unfoldable pub limit_line : FileKind → Progress → List ℕ → Step
limit_line k p r = limit_record p (take (spare_bytes k + 2) (drop 1 r)) (price_of r)

-- one record, by its letter: C, W, B, N, Q or L
abbrev pub by_letter : ℕ → FileKind → Progress → List ℕ → Step
by_letter letter k p r =
    cond (letter == 67) (class_line p r)
    (cond (letter == 87) (weekend_line p r)
    (cond (letter == 66) (book_line p r)
    (cond (letter == 78) (bound_line p r)
    (cond (letter == 81) (quote_line k p r)
    (cond (letter == 76) (limit_line k p r)
    (Err (spot Letter 0)))))))

unfoldable pub stepped : FileKind → Progress → List ℕ → Step
stepped k p r = by_letter (slice_index r 0) k p r
