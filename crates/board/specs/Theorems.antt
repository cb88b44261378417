-- What is shown of every run of calls, over one kind of amounts. Assumes nothing.
use Rattle.std.specs.Prelude.{◌≡◌, ℕ, ◌^◌, ◌<◌, ◌≤◌, true, List, ℤ, IfSome, Ok, ◌≢◌}
use Rattle.amounts.specs.Kind.{Kind}
use Rattle.plans.specs.Places.{at}
use Rattle.plans.specs.Posed.{Meaning}
use Rattle.plans.specs.Problem.{Problem, Plan, Possible}
use Rattle.plans.specs.Rosters.{Shape}
use Rattle.plans.specs.Theorems.{Sound}
use Rattle.board.specs.Questions.{toll_check, head_check}
use Rattle.board.specs.Standing.{Step, made_by}

-- the classes are 1 to 8, class 0 is its own parent, the parent of any other has a smaller number, and each of 120 books is in one of the classes;
-- what is past the classes has parent 0
pub record Rostered (s : Shape) : Type 0 where
  pub some : 1 ≤ s.classes
  pub few : s.classes ≤ 8
  pub root : at s.parents 0 ≡ 0
  pub above : (c : ℕ) → 0 < c → c < s.classes → at s.parents c < c
  pub homed : (b : ℕ) → b < 120 → at s.homes b < s.classes
  pub past : (c : ℕ) → s.classes ≤ c → at s.parents c ≡ 0

-- for any weekend and class the lower bound is at most the upper, and that at most 120
abbrev pub Straight : {V : Type 0} → Problem V → Type 0
Straight B = (w c : ℕ) → (B.lower w c ≤ B.upper w c) × (B.upper w c ≤ 120)

module _ {V : Type 0} (K : Kind V) where
  -- a source has 1 to 120 books and 1 to 16 weekends, and each quote is light
  pub record Fair (source : Meaning V) : Type 0 where
    pub some_book : 1 ≤ source.books
    pub few_books : source.books ≤ 120
    pub some_weekend : 1 ≤ source.weekends
    pub few_weekends : source.weekends ≤ 16
    pub light : (b w : ℕ) → b < source.books → w < source.weekends → IfSome (source.quote b w) (λ x. K.weight x ≤ 10 ^ 9)

  -- no lower bound exceeds its upper bound
  abbrev pub Uncrossed : Problem V → Type 0
  Uncrossed B = (w c : ℕ) → w < B.weekends → c < B.classes → B.lower w c ≤ B.upper w c

  -- whatever calls are sent to an opened board, in whatever order and refused ones among them, the problem that they make of it is sound
  abbrev pub RunsSound : Type 0
  RunsSound = (source : Meaning V) → Fair source → (calls : List (Step V)) → Sound K (made_by source K calls)

  -- and no bounds cross
  abbrev pub RunsUncrossed : Type 0
  RunsUncrossed = (source : Meaning V) → Fair source → (calls : List (Step V)) → Uncrossed (made_by source K calls)

  -- where there is a plan within the limit the toll check says yes of no sheet, and where there is any plan neither does the head check
  pub record NeverWrong (B : Problem V) : Type 0 where
    pub toll : Possible K B → (sheet : List V) → toll_check K B sheet ≢ Ok true
    pub head : (p : ℕ → ℕ) → Plan B p → (sheet : List ℤ) → head_check B sheet ≢ Ok true

  -- this holds of every problem that calls make of an opened board
  abbrev pub RunsNeverWrong : Type 0
  RunsNeverWrong = (source : Meaning V) → Fair source → (calls : List (Step V)) → NeverWrong (made_by source K calls)
