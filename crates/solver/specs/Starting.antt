-- The assignment that a search starts from: each book at one open weekend, from which it may not be moved. Assumes nothing.
use Rattle.std.specs.Prelude.{◌≡◌, ℕ, ◌<◌, true, false, is_some, Some, None, Option}
use Rattle.plans.specs.declared.class_tree.Roster.{Roster}
use Rattle.plans.specs.Places.{at}
use Rattle.plans.specs.Posed.{Meaning, assignment_count}
use Rattle.plans.specs.Sheets.{goes}
use Rattle.solver.specs.declared.choices.Choice.{Choice}
use Rattle.solver.specs.declared.state.State.{State}
use Rattle.solver.specs.Residual.{node}
use Rattle.solver.specs.Held.{word_at}
use Rattle.solver.specs.States.{sent_of, words_of}

-- of the weekends below n of a book with these quotes: none is open, or one that is open is found
abbrev pub Found : {V X : Type 0} → (ℕ → Option V) → ℕ → Option (Choice X) → Type 0
Found quotes n None = goes n quotes ≡ false
Found quotes n (Some o) = (o.place < n) × (is_some (quotes o.place) ≡ true)

-- the books below n are sent, and no other is counted
pub record Placed {V : Type 0} (source : Meaning V) (roster : Roster) (n : ℕ) (s : State) : Type 0 where
  pub sent : (b : ℕ) → b < n → at (sent_of s) b < source.weekends
  pub meets : (b : ℕ) → b < n → is_some (source.quote b (at (sent_of s) b)) ≡ true
  -- no word has another weekend than that of its book
  pub fixed : (b x : ℕ) → word_at (words_of s) b x ≡ true → x ≡ at (sent_of s) b
  pub own : (b : ℕ) → b < n → word_at (words_of s) b (at (sent_of s) b) ≡ true
  pub counts : (w c : ℕ) → w < 16 → c < 8 → at s.counts (node w c) ≡ assignment_count roster n (sent_of s) w c

-- all books are sent
abbrev pub Begun : {V : Type 0} → Meaning V → Roster → State → Type 0
Begun source roster s = Placed source roster source.books s
