-- What a sheet of entries, one for each weekend and class, shows of a problem. Assumes nothing.
use Rattle.std.specs.Prelude.{ℕ, zero, suc, ◌+◌, ◌*◌, Bool, true, false, not, ◌&&◌, ◌||◌, List, ℤ, pos, is_some, Some, None, Option}
use Rattle.std.specs.Ordering.{is_lt}
use Rattle.amounts.specs.Kind.{Kind, larger}
use Rattle.amounts.specs.Sums.{sum_below, table_sum, copies, item}
use Rattle.amounts.specs.Least.{least_of, or_none}
use Rattle.amounts.specs.Models.{integers}
use Rattle.plans.specs.Problem.{Problem}

-- each i below n passes the test
unfoldable pub each_below : ℕ → (ℕ → Bool) → Bool
each_below zero t = true
each_below (suc n) t = t n && each_below n t

-- some i below n passes the test
unfoldable pub some_below : ℕ → (ℕ → Bool) → Bool
some_below zero t = false
some_below (suc n) t = t n || some_below n t

-- has a book with these quotes an open weekend?
abbrev pub goes : {V : Type 0} → ℕ → (ℕ → Option V) → Bool
goes weekends quote = some_below weekends (λ w. is_some (quote w))

-- has some book no open weekend?
unfoldable pub stranded : {V : Type 0} → ℕ → ℕ → (ℕ → ℕ → Option V) → Bool
stranded books weekends quote = some_below books (λ b. not (goes weekends (quote b)))

module _ {V : Type 0} (K : Kind V) where
  -- what stands at the class x and at every class above it, added up, where so many steps lead to class 0 at most
  unfoldable pub upward : (ℕ → ℕ) → (ℕ → V) → ℕ → ℕ → V
  upward parent entry zero x = entry x
  upward parent entry (suc steps) zero = entry 0
  upward parent entry (suc steps) (suc c) = K.plus (entry (suc c)) (upward parent entry steps (parent (suc c)))

  -- a sheet's entry for weekend w and class c stands at place w * classes + c; what is missing counts nothing, and later places are not read
  abbrev pub entries : ℕ → List V → ℕ → ℕ → V
  entries classes sheet w c = item K sheet (w * classes + c)

  -- the smallest quote plus toll of a book among its open weekends, if it has one
  abbrev pub smallest : ℕ → (ℕ → Option V) → (ℕ → V) → Option V
  smallest weekends quote tolls = least_of K weekends (λ w. is_some (quote w)) (λ w. K.plus (or_none K (quote w)) (tolls w))

  -- the greater of lower times the entry and upper times the entry
  abbrev pub ceiling_of : ℕ → ℕ → V → V
  ceiling_of lower upper entry = larger K (copies K lower entry) (copies K upper entry)

  module _ (B : Problem V) (e : ℕ → ℕ → V) where
    -- the toll of b at w: the entries of w for the book's class and for every class above
    unfoldable pub toll : ℕ → ℕ → V
    toll b w = upward B.parent (e w) (B.class b) (B.class b)

    -- quote plus toll
    abbrev pub cost : ℕ → ℕ → V
    cost b w = K.plus (or_none K (B.quote b w)) (toll b w)

    -- the least that b can cost
    unfoldable pub cheapest : ℕ → Option V
    cheapest b = smallest B.weekends (B.quote b) (toll b)

    -- the most that can be paid for an entry
    abbrev pub ceiling : ℕ → ℕ → V
    ceiling w c = ceiling_of (B.lower w c) (B.upper w c) (e w c)

    -- what the books cost at least, less what the bounds can take back
    unfoldable pub floor : V
    floor = K.plus (sum_below K B.books (λ b. or_none K (cheapest b))) (K.minus (table_sum K B.weekends B.classes ceiling))

    -- a book has no open weekend, or the floor exceeds the limit
    unfoldable pub accepts : Bool
    accepts = stranded B.books B.weekends B.quote || is_lt (K.cmp B.limit floor)

  -- what the toll check says of a sheet
  abbrev pub toll_accepts : Problem V → List V → Bool
  toll_accepts B sheet = accepts B (entries B.classes sheet)

-- an open pair counted x, whatever its quote
abbrev pub counted : {V W : Type 0} → W → Option V → Option W
counted x None = None
counted x (Some quote) = Some x

-- the same problem in other amounts: every quote counted x, and limit x
abbrev pub recounted : {V W : Type 0} → Problem V → W → Problem W
recounted B x = record {
  books = B.books;
  weekends = B.weekends;
  classes = B.classes;
  parent = B.parent;
  class = B.class;
  lower = B.lower;
  upper = B.upper;
  quote = λ b w. counted x (B.quote b w);
  limit = x;
}

-- the same problem with every quote counted 0, and limit 0
abbrev pub heads : {V : Type 0} → Problem V → Problem ℤ
heads B = recounted B (pos 0)

-- what the head check says of a sheet: the toll check, with every quote counted 0 and limit 0
abbrev pub head_accepts : {V : Type 0} → Problem V → List ℤ → Bool
head_accepts B sheet = toll_accepts integers (heads B) sheet
