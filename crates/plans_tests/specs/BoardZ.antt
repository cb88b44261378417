-- Board Z, with the answers that trying every assignment gives. Assumes nothing.
use Rattle.std.specs.Prelude.{ℕ, zero, suc, Bool, true, false, not, ◌&&◌, T, List, [], ◌∷◌, ℤ, pos, negsuc, slice_index, slice_index_or}
use Rattle.std.specs.Ordering.{is_eq}
use Rattle.amounts.specs.declared.money.Money.{Money}
use Rattle.amounts.specs.Models.{compare_z, money, money_kind, integers}
use Rattle.plans.specs.Problem.{Problem}
use Rattle.plans.specs.Sheets.{each_below, entries, floor, toll_accepts, heads, head_accepts}
use Rattle.plans.specs.Trials.{Answer, best, no_plan, dear, sends, is_within, kept_at, best_answer}
use Rattle.plans_tests.specs.Six.{six_quote}

-- class 1 is under class 0; books 0 and 1 are in class 0, book 2 in class 1. The members at (weekend, class) are
-- from least_at_00 to most_at_00 at (0, 0), 1 to 2 at (1, 0), 0 to 3 at (0, 1), and 1 at (1, 1)
abbrev pub board_z : List ℕ → ℕ → ℕ → ℕ → Problem Money
board_z coins least_at_00 most_at_00 limit = record {
  books = 3;
  weekends = 2;
  classes = 2;
  parent = λ c. 0;
  class = get_or' (0 ∷ 0 ∷ 1 ∷ []);
  lower = λ w. get_or' (row w (least_at_00 ∷ 0 ∷ []) (1 ∷ 1 ∷ []));
  upper = λ w. get_or' (row w (most_at_00 ∷ 3 ∷ []) (2 ∷ 1 ∷ []));
  quote = six_quote coins;
  limit = money (pos limit);
}
  where
    get_or' : List ℕ → ℕ → ℕ
    get_or' xs i = slice_index xs i

    row : ℕ → List ℕ → List ℕ → List ℕ
    row zero xs ys = xs
    row (suc w) xs ys = ys

-- the quotes of books 0, 1 and 2 at weekends 0 and 1
abbrev pub coins : List ℕ
coins = 4 ∷ 1 ∷ 2 ∷ 3 ∷ 1 ∷ 5 ∷ []

abbrev pub is_best : Answer Money → ℤ → Bool
is_best (best t) z = is_eq (compare_z t.value z)
is_best no_plan z = false
is_best dear z = false

abbrev pub is_no_plan : Answer Money → Bool
is_no_plan (best t) = false
is_no_plan no_plan = true
is_no_plan dear = false

abbrev pub is_dear : Answer Money → Bool
is_dear (best t) = false
is_dear no_plan = false
is_dear dear = true

abbrev pub alike : Bool → Bool → Bool
alike true b = b
alike false b = not b

-- exactly these pairs are kept: a list of tests for each book
abbrev pub keeps : Problem Money → List (List Bool) → Bool
keeps B kept = each_below B.books (λ b. each_below B.weekends (λ w. alike (kept_at money_kind B b w) (slice_index_or (slice_index_or kept b []) w false)))

-- a sheet of coins, as toll sheet
abbrev pub tolls : ℤ → ℤ → ℤ → ℤ → List Money
tolls a b c d = money a ∷ money b ∷ money c ∷ money d ∷ []

abbrev pub has_floor : Problem Money → List Money → ℤ → Bool
has_floor B sheet z = is_eq (compare_z (floor money_kind B (entries money_kind 2 sheet)).value z)

abbrev pub has_head_floor : Problem Money → List ℤ → ℤ → Bool
has_head_floor B sheet z = is_eq (compare_z (floor integers (heads B) (entries integers 2 sheet)) z)

abbrev pub BoardZ : Type 0
BoardZ =
    -- the best total is 8, and any lower limit is too low
    T (is_best (best_answer money_kind (board_z coins 1 2 8)) (pos 8) && is_dear (best_answer money_kind (board_z coins 1 2 7)))
    × T (is_within money_kind (board_z coins 1 2 8) (sends (1 ∷ 0 ∷ 1 ∷ [])))
    -- which pairs some plan within the limit has, at limits 8, 11 and 12
    × T (keeps (board_z coins 1 2 8) ((false ∷ true ∷ []) ∷ (true ∷ false ∷ []) ∷ (false ∷ true ∷ []) ∷ []))
    × T (keeps (board_z coins 1 2 11) ((true ∷ true ∷ []) ∷ (true ∷ false ∷ []) ∷ (false ∷ true ∷ []) ∷ []))
    × T (keeps (board_z coins 1 2 12) ((true ∷ true ∷ []) ∷ (true ∷ true ∷ []) ∷ (false ∷ true ∷ []) ∷ []))
    -- the toll sheet with -4 at (1, 1) has floor 8: it shows that no plan is within 7
    × T (has_floor (board_z coins 1 2 7) (tolls (pos 0) (pos 0) (pos 0) (negsuc 3)) (pos 8))
    × T (toll_accepts money_kind (board_z coins 1 2 7) (tolls (pos 0) (pos 0) (pos 0) (negsuc 3)))
    × T (not (toll_accepts money_kind (board_z coins 1 2 8) (tolls (pos 0) (pos 0) (pos 0) (negsuc 3))))
    -- an upper bound counts for an entry above 0, and a lower one for an entry below 0
    × T (has_floor (board_z coins 1 2 8) (tolls (pos 0) (pos 0) (pos 1) (pos 0)) (pos 3))
    × T (has_floor (board_z coins 1 2 8) (tolls (pos 0) (pos 0) (negsuc 0) (pos 0)) (pos 4))
    -- with 3 to 3 at (0, 0) there is no plan, and a head sheet shows it
    × T (is_no_plan (best_answer money_kind (board_z coins 3 3 8)))
    × T (has_head_floor (board_z coins 3 3 8) (negsuc 0 ∷ pos 0 ∷ pos 0 ∷ negsuc 0 ∷ []) (pos 1))
    × T (head_accepts (board_z coins 3 3 8) (negsuc 0 ∷ pos 0 ∷ pos 0 ∷ negsuc 0 ∷ []))
    -- a book with no open weekend: every sheet shows it
    × T (head_accepts (board_z (4 ∷ 1 ∷ 2 ∷ 3 ∷ 0 ∷ 0 ∷ []) 1 2 8) [])
