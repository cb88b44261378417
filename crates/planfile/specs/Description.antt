-- What a plan file describes, and how a description is laid out in bytes.
-- A reader must believe this page and the numbers in it; everything else about the file is proved against it.
use Rattle.std.specs.Prelude.{◌≡◌, ℕ, zero, suc, ◌+◌, ◌/◌, ◌%◌, ◌<◌, ◌≤◌, max, ◌⊎◌, List, [], ◌∷◌, ◌++◌, map, length, replicate, pos, FitsSigned, unsigned_abs}
use Rattle.std.specs.Int.{w32, w64, cast_unsigned}
use Rattle.std.specs.List.{flat_map, AllByRecursion}
use Rattle.planfile.specs.declared.fields.Price.{Price}
use Rattle.planfile.specs.declared.progress.FileKind.{FileKind}
use Rattle.planfile.specs.declared.progress.FileKind.TheVariants.{Money, Ranked}
use Rattle.planfile.specs.declared.reader.Bound.{Bound}
use Rattle.planfile.specs.declared.reader.Quote.{Quote}

pub record Description : Type 0 where
  -- the parent of each class, from class 0 on
  pub parents : List ℕ
  pub weekends : ℕ
  -- the class of each book, from book 0 on
  pub classes : List ℕ
  pub bounds : List Bound
  pub quotes : List Quote
  pub limit : Price

-- k bytes of a number, the low byte first
abbrev pub low_first : ℕ → ℕ → List ℕ
low_first zero n = []
low_first (suc k) n = (n % 256) ∷ low_first k (n / 256)

-- strain in four bytes and money in eight, in two's complement
abbrev pub price_bytes : Price → List ℕ
price_bytes p = low_first 4 (cast_unsigned w32 p.strain) ++ low_first 8 (cast_unsigned w64 p.money)

-- the record of each kind: its letter (C, W, B, N, Q, L), its numbers, and zeros up to 16 bytes
abbrev pub class_row : ℕ → ℕ → List ℕ
class_row class parent = 67 ∷ class ∷ parent ∷ replicate 13 0

abbrev pub weekend_row : ℕ → List ℕ
weekend_row weekend = 87 ∷ weekend ∷ replicate 14 0

abbrev pub book_row : ℕ → ℕ → List ℕ
book_row book class = 66 ∷ book ∷ class ∷ replicate 13 0

abbrev pub bound_row : Bound → List ℕ
bound_row b = 78 ∷ b.weekend ∷ b.class ∷ b.lower ∷ b.upper ∷ replicate 11 0

abbrev pub quote_row : Quote → List ℕ
quote_row q = 81 ∷ q.book ∷ q.weekend ∷ 0 ∷ price_bytes q.price

abbrev pub limit_row : Price → List ℕ
limit_row p = 76 ∷ 0 ∷ 0 ∷ 0 ∷ price_bytes p

-- the records of numbered things, from number n on
abbrev pub numbered : (ℕ → ℕ → List ℕ) → ℕ → List ℕ → List (List ℕ)
numbered row n [] = []
numbered row n (x ∷ xs) = row n x ∷ numbered row (n + 1) xs

-- the records of k weekends, from number n on
abbrev pub weekend_rows : ℕ → ℕ → List (List ℕ)
weekend_rows n zero = []
weekend_rows n (suc k) = weekend_row n ∷ weekend_rows (n + 1) k

-- classes, weekends, books, bounds, quotes, and last the limit
abbrev pub rows : Description → List (List ℕ)
rows d =
    numbered class_row 0 d.parents ++ (weekend_rows 0 d.weekends ++ (numbered book_row 0 d.classes
    ++ (map bound_row d.bounds ++ (map quote_row d.quotes ++ (limit_row d.limit ∷ [])))))

unfoldable pub layout : Description → List ℕ
layout d = flat_map (λ r. r) (rows d)

-- (a, b) stands before (c, e)
abbrev pub Before : ℕ → ℕ → ℕ → ℕ → Type 0
Before a b c e = (a < c) ⊎ ((a ≡ c) × (b < e))

-- by f, and among equals by g, each stands before all that follow it
abbrev pub Rising : {X : Type 0} → (X → ℕ) → (X → ℕ) → List X → Type 0
Rising f g [] = Unit {0}
Rising f g (x ∷ xs) = AllByRecursion (λ y. Before (f x) (g x) (f y) (g y)) xs × Rising f g xs

-- class n has a parent before it, and class 0 itself; the same of those that follow
abbrev pub Parents : ℕ → List ℕ → Type 0
Parents n [] = Unit {0}
Parents n (x ∷ xs) = (x < max n 1) × Parents (n + 1) xs

-- there is no strain in a money file
abbrev pub Fitting : FileKind → Price → Type 0
Fitting Money p = p.strain ≡ pos 0
Fitting Ranked p = FitsSigned w32 p.strain

-- a bound of a file with so many weekends and classes
pub record BoundStands (weekends classes : ℕ) (b : Bound) : Type 0 where
  pub weekend : b.weekend < weekends
  pub class : b.class < classes
  pub ordered : b.lower ≤ b.upper
  pub most : b.upper ≤ 120

-- a quote of a file with so many books and weekends
pub record QuoteStands (k : FileKind) (books weekends : ℕ) (q : Quote) : Type 0 where
  pub book : q.book < books
  pub weekend : q.weekend < weekends
  pub strain : unsigned_abs q.price.strain ≤ 1000000000
  pub money : unsigned_abs q.price.money ≤ 1000000000
  pub fitting : Fitting k q.price

-- a description that a file of this kind may give
pub record Proper (k : FileKind) (d : Description) : Type 0 where
  pub some_class : 1 ≤ length d.parents
  pub few_classes : length d.parents ≤ 8
  pub parents : Parents 0 d.parents
  pub some_weekend : 1 ≤ d.weekends
  pub few_weekends : d.weekends ≤ 16
  pub some_book : 1 ≤ length d.classes
  pub few_books : length d.classes ≤ 120
  pub classes : AllByRecursion (λ c. c < length d.parents) d.classes
  pub bounds : AllByRecursion (BoundStands d.weekends (length d.parents)) d.bounds
  pub bounds_rise : Rising (λ b. b.weekend) (λ b. b.class) d.bounds
  pub quotes : AllByRecursion (QuoteStands k (length d.classes) d.weekends) d.quotes
  pub quotes_rise : Rising (λ q. q.book) (λ q. q.weekend) d.quotes
  pub limit : unsigned_abs d.limit.money ≤ 1000000000000
  pub limit_fitting : Fitting k d.limit
