-- What it is to have solved a problem. Assumes nothing.
use Rattle.std.specs.Prelude.{◌≡◌, ℕ, ◌<◌, ◌≤◌, true, List, Ok, Err, Result}
use Rattle.amounts.specs.declared.money.Money.{Money}
use Rattle.amounts.specs.declared.ranked.Ranked.{Ranked}
use Rattle.amounts.specs.Kind.{Kind, AtMost}
use Rattle.plans.specs.Places.{at}
use Rattle.plans.specs.Problem.{Problem, is_open}
use Rattle.plans.specs.Sheets.{stranded}
use Rattle.solver.specs.declared.state.State.{State}
use Rattle.solver.specs.declared.unsolved.Unsolved.{Unsolved}
use Rattle.solver.specs.declared.unsolved.Unsolved.TheVariants.{Stranded, Short}
use Rattle.solver.specs.Soft.{soft_kind, score}
use Rattle.solver.specs.Residual.{Inside}
use Rattle.solver.specs.Search.{nodes}
use Rattle.solver.specs.Flows.{Shown}
use Rattle.solver.specs.Held.{word_at, ShownIn}
use Rattle.solver.specs.States.{words_of}

module _ {V : Type 0} (K : Kind V) (B : Problem V) where
  -- p sends each book to a weekend where it is open; no such assignment has fewer violations, or as many and a smaller total; and there are labels that show it
  pub record LeastAssignment (p : ℕ → ℕ) : Type 0 where
    pub inside : Inside B (is_open B) p
    pub least : (q : ℕ → ℕ) → Inside B (is_open B) q → AtMost (soft_kind K) (score K B p) (score K B q)
    pub shown : (l : ℕ → Ranked Money V) × (f : ℕ → ℕ) × Shown K B (is_open B) l p f

  -- each answer, and when it is right, for a work sheet of so many places
  abbrev pub SolutionRight : ℕ → Result (List ℕ) Unsolved → Type 0
  SolutionRight places (Ok sent) = (1024 ≤ places) × LeastAssignment (at sent)
  SolutionRight places (Err Stranded) = (1024 ≤ places) × (stranded B.books B.weekends B.quote ≡ true)
  SolutionRight places (Err Short) = places < 1024

  -- the labels l show the state least among all assignments: each book may go wherever it is open; and no label is more than zero
  pub record SolvedIn (state : State) (l : ℕ → Ranked Money V) : Type 0 where
    pub held : ShownIn K B state l
    pub words : (b x : ℕ) → b < B.books → word_at (words_of state) b x ≡ is_open B b x
    pub low : (v : ℕ) → v < nodes → AtMost (soft_kind K) (l v) (soft_kind K).none
