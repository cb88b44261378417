-- What is shown of problems and sheets, over one kind of amounts. Assumes nothing.
use Rattle.std.specs.Prelude.{◌≡◌, ℕ, ◌*◌, ◌^◌, ◌<◌, ◌≤◌, true, cond, ◌⊎◌, List, ℤ, IfSome, ◌≢◌}
use Rattle.amounts.specs.Kind.{Kind, AtMost}
use Rattle.amounts.specs.Sums.{sum_below, table_sum, copies, item}
use Rattle.plans.specs.declared.class_tree.Roster.{Roster}
use Rattle.plans.specs.declared.bound_table.Bounds.{Bounds}
use Rattle.plans.specs.Places.{at}
use Rattle.plans.specs.Rosters.{Shape}
use Rattle.plans.specs.Posed.{Meaning, problem_held, problem, assignment_total, held_count, assignment_count}
use Rattle.plans.specs.Problem.{Problem, Plan, NoPlan, member, iterated, count, is_open, total, Within, Possible, Kept, Least, Dear}
use Rattle.plans.specs.Sheets.{toll, cost, ceiling, floor, toll_accepts, head_accepts}
use Rattle.plans.specs.Trials.{is_plan, is_within, kept_at, best_answer, best, no_plan, dear}

-- one to eight classes: class 0 is its own parent, the parent of each other has a smaller number, and every book is in one of them
pub record Rooted (held : Shape) : Type 0 where
  pub some : 1 ≤ held.classes
  pub few : held.classes ≤ 8
  pub root : at held.parents 0 ≡ 0
  pub above : (c : ℕ) → 0 < c → c < held.classes → at held.parents c < c
  pub classed : (b : ℕ) → b < 120 → at held.homes b < held.classes

-- each of two statements gives the other
abbrev pub Iff : Type 0 → Type 0 → Type 0
Iff P Q = (P → Q) × (Q → P)

module _ {V : Type 0} (K : Kind V) where
  -- every number is in its range, every class but 0 has a parent with a smaller number, and quotes and limit are light
  pub record Sound (B : Problem V) : Type 0 where
    pub books : B.books ≤ 120
    pub weekends : B.weekends ≤ 16
    pub classes : B.classes ≤ 8
    pub root : B.parent 0 ≡ 0
    pub above : (c : ℕ) → 0 < c → c < B.classes → B.parent c < c
    pub classed : (b : ℕ) → b < B.books → B.class b < B.classes
    pub lowers : (w c : ℕ) → w < B.weekends → c < B.classes → B.lower w c ≤ 120
    pub uppers : (w c : ℕ) → w < B.weekends → c < B.classes → B.upper w c ≤ 120
    pub quotes : (b w : ℕ) → b < B.books → w < B.weekends → IfSome (B.quote b w) (λ x. K.weight x ≤ 10 ^ 9)
    pub limit : K.weight B.limit ≤ 10 ^ 12

  -- each entry of a toll sheet is light
  abbrev pub Light : Problem V → (ℕ → ℕ → V) → Type 0
  Light B e = (w c : ℕ) → w < B.weekends → c < B.classes → K.weight (e w c) ≤ 10 ^ 12

  -- the same of a sheet as it is lent: of its first places, one for each weekend and class
  abbrev pub LightSheet : Problem V → List V → Type 0
  LightSheet B sheet = (i : ℕ) → i < B.weekends * B.classes → K.weight (item K sheet i) ≤ 10 ^ 12

  -- what a source, classes, bounds and a limit put is sound. Of the classes this asks just what a roster has to keep of those that are there
  abbrev pub HeldSound : Type 0
  HeldSound = (source : Meaning V) (held : Shape) (bounds : Bounds) (limit : V) → Rooted held → source.books ≤ 120 → source.weekends ≤ 16 →
      ((b w : ℕ) → b < source.books → w < source.weekends → IfSome (source.quote b w) (λ x. K.weight x ≤ 10 ^ 9)) → K.weight limit ≤ 10 ^ 12 →
      Sound (problem_held source held bounds limit)

  -- the same of a roster: the numbers of rosters and bounds are in range by their types
  abbrev pub PosedSound : Type 0
  PosedSound = (source : Meaning V) (roster : Roster) (bounds : Bounds) (limit : V) → source.books ≤ 120 → source.weekends ≤ 16 →
      ((b w : ℕ) → b < source.books → w < source.weekends → IfSome (source.quote b w) (λ x. K.weight x ≤ 10 ^ 9)) → K.weight limit ≤ 10 ^ 12 →
      Sound (problem source roster bounds limit)

  -- and no lower bound of it is above its upper bound, whatever the classes
  abbrev pub HeldStraight : Type 0
  HeldStraight = (source : Meaning V) (held : Shape) (bounds : Bounds) (limit : V) (w c : ℕ) → (problem_held source held bounds limit).lower w c ≤ (problem_held source held bounds limit).upper w c

  abbrev pub PosedStraight : Type 0
  PosedStraight = (source : Meaning V) (roster : Roster) (bounds : Bounds) (limit : V) (w c : ℕ) → (problem source roster bounds limit).lower w c ≤ (problem source roster bounds limit).upper w c

  -- what is added up and counted for a list of weekends is the total and the counts of that assignment
  abbrev pub HeldAssigned : Type 0
  HeldAssigned = (source : Meaning V) (held : Shape) (bounds : Bounds) (limit : V) (assignment : List ℕ) →
      (total K (problem_held source held bounds limit) (at assignment) ≡ assignment_total K source assignment)
      × ((w c : ℕ) → count (problem_held source held bounds limit) (at assignment) w c ≡ held_count held source.books assignment w c)

  abbrev pub AssignedIs : Type 0
  AssignedIs = (source : Meaning V) (roster : Roster) (bounds : Bounds) (limit : V) (assignment : List ℕ) →
      (total K (problem source roster bounds limit) (at assignment) ≡ assignment_total K source assignment)
      × ((w c : ℕ) → count (problem source roster bounds limit) (at assignment) w c ≡ assignment_count roster source.books assignment w c)

  -- ---- members, tolls, and both counted
  -- b is a member of c exactly if c is met some number of parents above the class of b
  abbrev pub MemberIs : Type 0
  MemberIs = (B : Problem V) (b c : ℕ) → Sound B → b < B.books → Iff (member B b c ≡ true) ((k : ℕ) × (iterated B.parent k (B.class b) ≡ c))

  -- a toll is the sum of the entries for the classes that the book is a member of
  abbrev pub TollByMembers : Type 0
  TollByMembers = (B : Problem V) (e : ℕ → ℕ → V) (b w : ℕ) → Sound B → Light B e → b < B.books → w < B.weekends →
      toll K B e b w ≡ sum_below K B.classes (λ c. cond (member B b c) (e w c) K.none)

  -- double counting: the tolls that are paid come to one sum, book by book and entry by entry, each as often as it is paid
  abbrev pub DoubleCounting : Type 0
  DoubleCounting = (B : Problem V) (e : ℕ → ℕ → V) (p : ℕ → ℕ) → Sound B → Light B e → ((b : ℕ) → b < B.books → p b < B.weekends) →
      sum_below K B.books (λ b. toll K B e b (p b)) ≡ table_sum K B.weekends B.classes (λ w c. copies K (count B p w c) (e w c))

  -- ---- duality
  -- the floor of a light sheet is at most the total of each plan
  abbrev pub WeakDuality : Type 0
  WeakDuality = (B : Problem V) (e : ℕ → ℕ → V) (p : ℕ → ℕ) → Sound B → Light B e → Plan B p → AtMost K (floor K B e) (total K B p)

  -- the plan sends each book where it costs least, and what it pays for an entry is the most that the bounds allow
  pub record Tight (B : Problem V) (e : ℕ → ℕ → V) (p : ℕ → ℕ) : Type 0 where
    pub cheapest : (b w : ℕ) → b < B.books → w < B.weekends → is_open B b w ≡ true → AtMost K (cost K B e b (p b)) (cost K B e b w)
    pub full : (w c : ℕ) → w < B.weekends → c < B.classes → copies K (count B p w c) (e w c) ≡ ceiling K B e w c

  -- of a tight plan the floor is the total
  abbrev pub StrongDuality : Type 0
  StrongDuality = (B : Problem V) (e : ℕ → ℕ → V) (p : ℕ → ℕ) → Sound B → Light B e → Plan B p → Tight B e p → floor K B e ≡ total K B p

  -- ---- both checks
  -- where there is a plan within the limit, the toll check accepts no light sheet
  abbrev pub TollCheckSound : Type 0
  TollCheckSound = (B : Problem V) → Sound B → Possible K B → (sheet : List V) → LightSheet B sheet → toll_accepts K B sheet ≢ true

  -- where there is a plan at all, the head check accepts no sheet
  abbrev pub HeadCheckSound : Type 0
  HeadCheckSound = (B : Problem V) → Sound B → (p : ℕ → ℕ) → Plan B p → (sheet : List ℤ) → head_accepts B sheet ≢ true

  -- ---- the computed answers are the related ones
  -- the test for a plan
  abbrev pub PlanIs : Type 0
  PlanIs = (B : Problem V) (p : ℕ → ℕ) → Iff (is_plan B p ≡ true) (Plan B p)

  -- the test for a plan within the limit
  abbrev pub WithinIs : Type 0
  WithinIs = (B : Problem V) (p : ℕ → ℕ) → Sound B → Iff (is_within K B p ≡ true) (Within K B p)

  -- the test whether some plan within the limit sends b to w
  abbrev pub KeptIs : Type 0
  KeptIs = (B : Problem V) (b w : ℕ) → Sound B → b < B.books → Iff (kept_at K B b w ≡ true) (Kept K B b w)

  -- each answer, and what it says
  pub record BestIs (B : Problem V) : Type 0 where
    pub best_says : (t : V) → Iff (best_answer K B ≡ best t) ((p : ℕ → ℕ) × Least K B t p)
    pub no_plan_says : Iff (best_answer K B ≡ no_plan) (NoPlan B)
    pub dear_says : Iff (best_answer K B ≡ dear) (Dear K B)

  -- there is a plan within the limit, or no plan, or only dear ones
  abbrev pub OneOfThree : Problem V → Type 0
  OneOfThree B = Possible K B ⊎ (NoPlan B ⊎ Dear K B)
