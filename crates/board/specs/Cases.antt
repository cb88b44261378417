-- The worked cases: small boards, the calls that make them, and what is claimed of each, as one table. Assumes nothing.
use Rattle.std.specs.Prelude.{ℕ, Bool, true, false, not, ◌&&◌, ◌||◌, T, List, [], ◌∷◌, length, ℤ, pos, negsuc, is_some, Ok, Err, Option, Result, ◌==◌, slice_index_or}
use Rattle.std.specs.Ordering.{is_eq}
use Rattle.std.specs.List.{slice_get}
use Rattle.amounts.specs.Kind.{Kind}
use Rattle.amounts.specs.Models.{money, money_kind, ranked, ranked_kind, integers}
use Rattle.amounts.specs.declared.money.Money.{Money}
use Rattle.amounts.specs.declared.ranked.Ranked.{Ranked}
use Rattle.plans.specs.Posed.{Meaning}
use Rattle.plans.specs.Problem.{Problem, total}
use Rattle.plans.specs.Sheets.{each_below, entries, floor, heads}
use Rattle.plans.specs.Trials.{Answer, best, no_plan, dear, sends, is_within, kept_at, best_answer}
use Rattle.board.specs.declared.refusal.Refusal.{Refusal}
use Rattle.board.specs.Questions.{toll_check, head_check}
use Rattle.board.specs.Standing.{Standing, Step, strike, roster, bounds, limit, fault, stepped, opened, made_by}

-- ---- what a case can claim of the problem that its calls make
pub data Claim (V : Type 0) : Type 0 where
  -- the best plans come to this total, and one of them sends the books to these weekends
  best_plan : V → List ℕ → Claim V
  -- the question for the best plan is refused with this number
  refused : ℕ → Claim V
  -- for each book, the weekends to which some plan within the limit sends it
  kept_pairs : List (List ℕ) → Claim V
  -- the floor of a toll sheet, and what the toll check says of the sheet
  toll_floor : List V → V → Claim V
  toll_says : List V → Bool → Claim V
  -- the floor of a head sheet, and what the head check says of the sheet
  head_floor : List ℤ → ℤ → Claim V
  head_says : List ℤ → Bool → Claim V

-- are two answers of yes or no the same?
abbrev pub alike : Bool → Bool → Bool
alike true b = b
alike false b = not b

-- does the number stand in the list?
abbrev pub among : ℕ → List ℕ → Bool
among w [] = false
among w (x ∷ xs) = w == x || among w xs

-- a check takes the sheet, and says this of it
abbrev pub says : Result Bool Refusal → Bool → Bool
says (Ok said) b = alike said b
says (Err r) b = false

-- the number under which the question for the best plan is refused: 12 where there is no plan, 13 where every plan exceeds the limit
abbrev pub has_number : {V : Type 0} → Answer V → ℕ → Bool
has_number (best t) n = false
has_number no_plan n = n == 12
has_number dear n = n == 13

module _ {V : Type 0} (K : Kind V) where
  abbrev pub has_total : Answer V → V → Bool
  has_total (best s) t = is_eq (K.cmp s t)
  has_total no_plan t = false
  has_total dear t = false

  unfoldable pub holds : Problem V → Claim V → Bool
  holds B (best_plan t ws) =
      has_total (best_answer K B) t && length ws == B.books && is_within K B (sends ws) && is_eq (K.cmp (total K B (sends ws)) t)
  holds B (refused n) = has_number (best_answer K B) n
  holds B (kept_pairs kept) = each_below B.books (λ b. each_below B.weekends (λ w. alike (kept_at K B b w) (among w (slice_index_or kept b []))))
  holds B (toll_floor sheet t) = is_eq (K.cmp (floor K B (entries K B.classes sheet)) t)
  holds B (toll_says sheet said) = says (toll_check K B sheet) said
  holds B (head_floor sheet t) = is_eq (integers.cmp (floor integers (heads B) (entries integers B.classes sheet)) t)
  holds B (head_says sheet said) = says (head_check B sheet) said

  -- no call of the list is refused
  unfoldable pub all_taken : Meaning V → Standing V → List (Step V) → Bool
  all_taken M st [] = true
  all_taken M st (s ∷ ss) = not (is_some (fault M K st s)) && all_taken M (stepped M K st s) ss

  -- the calls are all taken on the opened board, and the claim holds of the problem that they make of it
  unfoldable pub right_of : Meaning V → List (Step V) → Claim V → Bool
  right_of M steps claim = all_taken M (opened M K) steps && holds (made_by M K steps) claim

-- ---- cases
-- two sums of money, the first of them ranked before the second
abbrev pub Ranks : Type 0
Ranks = Ranked Money Money

-- what the source says, the calls, and the claim
pub data Case : Type 0 where
  in_money : Meaning Money → List (Step Money) → Claim Money → Case
  in_ranks : Meaning Ranks → List (Step Ranks) → Claim Ranks → Case

unfoldable pub right : Case → Bool
right (in_money M steps claim) = right_of money_kind M steps claim
right (in_ranks M steps claim) = right_of (ranked_kind money_kind money_kind) M steps claim

unfoldable pub all_right : List Case → Bool
all_right [] = true
all_right (x ∷ xs) = right x && all_right xs

-- ---- the boards
abbrev pub coins : ℕ → Money
coins n = money (pos n)

abbrev pub rank : ℕ → ℕ → Ranks
rank m n = ranked (coins m) (coins n)

-- the quotes of a table, a row for each book; a pair without a place there is shut
abbrev pub rows : {V : Type 0} → List (List V) → ℕ → ℕ → Option V
rows table b w = slice_get (slice_index_or table b []) w

-- board Z: three books, two weekends
abbrev pub board_z : Meaning Money
board_z = record {
  books = 3;
  weekends = 2;
  quote = rows ((coins 4 ∷ coins 1 ∷ []) ∷ (coins 2 ∷ coins 3 ∷ []) ∷ (coins 1 ∷ coins 5 ∷ []) ∷ []);
}

-- the calls that set up board Z, the last of them a limit, and then more calls. Class 1 stands under class 0; books 0 and 1 are in class 0,
-- book 2 in class 1. Of class 0, which has all three, 1 to 2 go to each weekend; of class 1, 0 to 3 to weekend 0 and just 1 to weekend 1
abbrev pub z_with : ℕ → List (Step Money) → List (Step Money)
z_with most more =
    roster (0 ∷ 0 ∷ []) (0 ∷ 0 ∷ 1 ∷ []) ∷ bounds 0 0 1 2 ∷ bounds 1 0 1 2 ∷ bounds 1 1 1 1 ∷ bounds 0 1 0 3 ∷ limit (coins most) ∷ more

-- two books, two weekends, one class, quotes in ranks
abbrev pub duo : Meaning Ranks
duo = record {
  books = 2;
  weekends = 2;
  quote = rows ((rank 0 9 ∷ rank 1 1 ∷ []) ∷ (rank 0 9 ∷ rank 1 2 ∷ []) ∷ []);
}

-- of all books at most one goes to weekend 0; the limit is (2, 0)
abbrev pub duo_calls : List (Step Ranks)
duo_calls = bounds 0 0 0 1 ∷ bounds 1 0 0 2 ∷ limit (rank 2 0) ∷ []

-- ---- sheets of board Z: an entry for weekend 0 and class 0, for (0, 1), (1, 0) and (1, 1)
abbrev pub z_tolls : ℤ → ℤ → ℤ → ℤ → List Money
z_tolls a b c d = money a ∷ money b ∷ money c ∷ money d ∷ []

abbrev pub z_heads : ℤ → ℤ → ℤ → ℤ → List ℤ
z_heads a b c d = a ∷ b ∷ c ∷ d ∷ []

-- ---- the table
abbrev pub cases : List Case
cases =
    -- 1: at limit 8 the best total is 8, by sending books 0 and 2 to weekend 1 and book 1 to weekend 0
    in_money board_z (z_with 8 []) (best_plan (coins 8) (1 ∷ 0 ∷ 1 ∷ []))
    -- 2: at limit 7 there still are plans, but each exceeds the limit
    ∷ in_money board_z (z_with 7 []) (refused 13)
    -- 3: -4 for weekend 1 and class 1 shows that each plan comes to 8 or more: the sheet is accepted at limit 7, but not at 8
    ∷ in_money board_z (z_with 7 []) (toll_floor (z_tolls (pos 0) (pos 0) (pos 0) (negsuc 3)) (coins 8))
    ∷ in_money board_z (z_with 7 []) (toll_says (z_tolls (pos 0) (pos 0) (pos 0) (negsuc 3)) true)
    ∷ in_money board_z (z_with 8 []) (toll_says (z_tolls (pos 0) (pos 0) (pos 0) (negsuc 3)) false)
    -- 4: at limit 8 only one plan is left
    ∷ in_money board_z (z_with 8 []) (kept_pairs ((1 ∷ []) ∷ (0 ∷ []) ∷ (1 ∷ []) ∷ []))
    -- 5: at limit 11 book 0 can go to weekend 0 too
    ∷ in_money board_z (z_with 11 []) (kept_pairs ((0 ∷ 1 ∷ []) ∷ (0 ∷ []) ∷ (1 ∷ []) ∷ []))
    -- 6: at limit 12 book 1 can go to weekend 1 too; book 2 never goes to weekend 0
    ∷ in_money board_z (z_with 12 []) (kept_pairs ((0 ∷ 1 ∷ []) ∷ (0 ∷ 1 ∷ []) ∷ (1 ∷ []) ∷ []))
    -- 7: where all three books must go to weekend 0, and one of them to weekend 1, there is no plan
    ∷ in_money board_z (z_with 8 (bounds 0 0 3 3 ∷ [])) (refused 12)
    -- 8: and a head sheet shows that, with a floor of 1: -1 for weekend 0 and class 0, and for weekend 1 and class 1
    ∷ in_money board_z (z_with 8 (bounds 0 0 3 3 ∷ [])) (head_floor (z_heads (negsuc 0) (pos 0) (pos 0) (negsuc 0)) (pos 1))
    ∷ in_money board_z (z_with 8 (bounds 0 0 3 3 ∷ [])) (head_says (z_heads (negsuc 0) (pos 0) (pos 0) (negsuc 0)) true)
    -- 9: where both pairs of book 2 are struck, a head sheet of zeros is accepted: the book has nowhere to go
    ∷ in_money board_z (z_with 8 (strike 2 0 ∷ strike 2 1 ∷ [])) (head_says (z_heads (pos 0) (pos 0) (pos 0) (pos 0)) true)
    -- 10: in ranks: at most one book can go to weekend 0, and both at weekend 1 exceed the limit; book 1 at weekend 0 makes (1, 10), book 0
    -- there would make (1, 11)
    ∷ in_ranks duo duo_calls (best_plan (rank 1 10) (1 ∷ 0 ∷ []))
    -- 11: of an entry above zero the upper bound is taken back from the floor: 1 for weekend 1 and class 0, at most twice
    ∷ in_money board_z (z_with 8 []) (toll_floor (z_tolls (pos 0) (pos 0) (pos 1) (pos 0)) (coins 3))
    -- 12: of an entry below zero the lower bound is: -1 there, at least once
    ∷ in_money board_z (z_with 8 []) (toll_floor (z_tolls (pos 0) (pos 0) (negsuc 0) (pos 0)) (coins 4))
    ∷ []

-- every worked case is right
abbrev pub CasesStand : Type 0
CasesStand = T (all_right cases)
