-- Rosters: the classes as lists keep them, and which lists make one. Assumes nothing.
use Rattle.std.specs.Prelude.{◌≡◌, ℕ, ◌+◌, ◌-◌, ◌<◌, ◌≤◌, min, max, Bool, true, cond, ◌&&◌, List, [], ◌∷◌, ◌++◌, length, take, replicate, Ok, Err, Result, nat_le, nat_lt}
use Rattle.plans.specs.declared.class_lists.RosterFault.{RosterFault}
use Rattle.plans.specs.declared.class_lists.RosterFault.TheVariants.{Short, NoRoster}
use Rattle.plans.specs.declared.class_tree.Roster.{Roster}
use Rattle.plans.specs.Places.{at}

-- what a roster holds: how many classes, the parent of each of up to 8, and the class of each of up to 120 books
pub record Shape : Type 0 where
  pub classes : ℕ
  pub parents : List ℕ
  pub homes : List ℕ

-- a roster as what it holds
abbrev pub shape : Roster → Shape
shape r = record { classes = r.classes; parents = r.parents; homes = r.homes }

-- what reading a roster answers, with the roster as what it holds
abbrev pub shaped : Result Roster RosterFault → Result Shape RosterFault
shaped (Ok r) = Ok (shape r)
shaped (Err f) = Err f

-- does the rest of a list, from place i on, pass a test of place and number?
abbrev pub passes : (ℕ → ℕ → Bool) → ℕ → List ℕ → Bool
passes t i [] = true
passes t i (x ∷ xs) = t i x && passes t (i + 1) xs

-- the parent of class 0 is 0, and that of any other class is smaller than the class
abbrev pub parent_fits : ℕ → ℕ → Bool
parent_fits c p = nat_lt p (max 1 c)

-- the class of a book is one of so many classes
abbrev pub class_fits : ℕ → ℕ → ℕ → Bool
class_fits classes b c = nat_lt c classes

-- the list, with zeros behind it up to n places
abbrev pub padded : ℕ → List ℕ → List ℕ
padded n xs = xs ++ replicate (n - length xs) 0

-- do the parents of 1 to 8 classes stand in the list?
abbrev pub parents_fit : List ℕ → Bool
parents_fit parents = nat_le 1 (length parents) && nat_le (length parents) 8 && passes parent_fits 0 parents

-- the roster of so many books (of 120 at most). Fewer classes than books decides first, and only the classes of these books are read
abbrev pub roster_of : ℕ → List ℕ → List ℕ → Result Shape RosterFault
roster_of books parents classes =
    cond (nat_lt (length classes) (min books 120)) (Err Short)
    (cond (parents_fit parents && passes (class_fits (length parents)) 0 (take (min books 120) classes))
    (Ok (record { classes = length parents; parents = padded 8 parents; homes = padded 120 (take (min books 120) classes) }))
    (Err NoRoster))

-- two lists make a roster of n books: entry c of the parents is the parent of class c, and entry b of the classes is the class of book b
pub record MakesRoster (n : ℕ) (parents classes : List ℕ) : Type 0 where
  pub enough : n ≤ length classes
  pub some : 1 ≤ length parents
  pub few : length parents ≤ 8
  pub root : at parents 0 ≡ 0
  pub above : (c : ℕ) → 0 < c → c < length parents → at parents c < c
  pub classed : (b : ℕ) → b < n → at classes b < length parents

-- what a roster of n books holds is what the lists say
pub record Holds (n : ℕ) (parents classes : List ℕ) (s : Shape) : Type 0 where
  pub count : s.classes ≡ length parents
  pub parent : (c : ℕ) → c < length parents → at s.parents c ≡ at parents c
  pub class : (b : ℕ) → b < n → at s.homes b ≡ at classes b

-- a roster is read from exactly the lists that make one, and holds what they say; the answer is `Short` exactly for too few classes
pub record RosterRead (books : ℕ) (parents classes : List ℕ) : Type 0 where
  pub made : (s : Shape) → roster_of books parents classes ≡ Ok s → MakesRoster (min books 120) parents classes × Holds (min books 120) parents classes s
  pub makes : MakesRoster (min books 120) parents classes → (s : Shape) × (roster_of books parents classes ≡ Ok s)
  pub short : (roster_of books parents classes ≡ Err Short → length classes < min books 120) × (length classes < min books 120 → roster_of books parents classes ≡ Err Short)
