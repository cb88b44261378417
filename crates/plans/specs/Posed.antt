-- The problem that a source, a roster, bounds and a limit put. Assumes nothing.
use Rattle.std.specs.Prelude.{ℕ, Bool, ◌&&◌, List, Option, ◌==◌}
use Rattle.amounts.specs.Kind.{Kind}
use Rattle.amounts.specs.Least.{or_none}
use Rattle.amounts.specs.Sums.{sum_below, tally}
use Rattle.sources.specs.declared.meaning.Source.{Ghosts}
use Rattle.plans.specs.declared.class_tree.Roster.{Roster}
use Rattle.plans.specs.declared.bound_table.Bounds.{Bounds}
use Rattle.plans.specs.declared.setting.Setting.{Setting}
use Rattle.plans.specs.Places.{at}
use Rattle.plans.specs.Bounding.{bound_at}
use Rattle.plans.specs.Rosters.{Shape, shape}
use Rattle.plans.specs.Problem.{Problem, climbs}
use Rattle.plans.specs.Sheets.{upward, entries, ceiling_of}

-- what a source says: how many books and weekends, and the quote of each pair that is open
pub record Meaning (V : Type 0) : Type 0 where
  pub books : ℕ
  pub weekends : ℕ
  pub quote : ℕ → ℕ → Option V

-- the same, of a source in code
abbrev pub meaning : {S V : Type 0} → Ghosts S V → S → Meaning V
meaning source s = record { books = source.count s; weekends = source.weeks s; quote = source.table s }

-- the problem that they put together with classes as lists keep them: what stands behind the parents in use is no class, and may be anything
abbrev pub problem_held : {V : Type 0} → Meaning V → Shape → Bounds → V → Problem V
problem_held source held bounds limit = record {
  books = source.books;
  weekends = source.weekends;
  classes = held.classes;
  parent = at held.parents;
  class = at held.homes;
  lower = λ w c. (bound_at bounds.table w c).lower;
  upper = λ w c. (bound_at bounds.table w c).upper;
  quote = source.quote;
  limit = limit;
}

-- the same with a roster
abbrev pub problem : {V : Type 0} → Meaning V → Roster → Bounds → V → Problem V
problem source roster bounds limit = problem_held source (shape roster) bounds limit

-- the problem that a setting puts, with a limit
abbrev pub put : {S V : Type 0} → Ghosts S V → Setting S → V → Problem V
put source s limit = problem (meaning source s.source.now) s.roster.now s.bounds.now limit

module _ {V : Type 0} (K : Kind V) where
  -- the toll of a book at a weekend, by a roster and a sheet
  abbrev pub roster_toll : Roster → List V → ℕ → ℕ → V
  roster_toll roster sheet b w = upward K (at roster.parents) (entries K roster.classes sheet w) (at roster.homes b) (at roster.homes b)

  -- the most that can be paid for the entry of a weekend and a class
  abbrev pub bounds_ceiling : ℕ → Bounds → List V → ℕ → ℕ → V
  bounds_ceiling classes bounds sheet w c = ceiling_of K (bound_at bounds.table w c).lower (bound_at bounds.table w c).upper (entries K classes sheet w c)

  -- what an assignment comes to, where place b of a list is the weekend of book b
  abbrev pub assignment_total : Meaning V → List ℕ → V
  assignment_total source assignment = sum_below K source.books (λ b. or_none K (source.quote b (at assignment b)))

-- is the book a member of the class?
abbrev pub is_member : Roster → ℕ → ℕ → Bool
is_member roster b c = climbs (at roster.parents) (at roster.homes b) (at roster.homes b) c

-- how many of the first books are members of the class and sent to the weekend
abbrev pub held_count : Shape → ℕ → List ℕ → ℕ → ℕ → ℕ
held_count held books assignment w c = tally books (λ b. (at assignment b == w) && climbs (at held.parents) (at held.homes b) (at held.homes b) c)

-- the same of a roster
abbrev pub assignment_count : Roster → ℕ → List ℕ → ℕ → ℕ → ℕ
assignment_count roster books assignment w c = tally books (λ b. (at assignment b == w) && is_member roster b c)
