-- One book is taken to other weekends: where its search starts, and when it may stay. Assumes nothing.
use Rattle.std.specs.Prelude.{◌≡◌, ℕ, ◌^◌, ◌<◌, ◌≤◌, Bool, true, None}
use Rattle.std.specs.Ordering.{is_le}
use Rattle.amounts.specs.declared.money.Money.{Money}
use Rattle.amounts.specs.declared.ranked.Ranked.{Ranked}
use Rattle.amounts.specs.Kind.{Kind, AtMost}
use Rattle.sources.specs.Tables.{bit_at}
use Rattle.plans.specs.Places.{at}
use Rattle.plans.specs.Problem.{Problem}
use Rattle.plans.specs.Theorems.{Sound}
use Rattle.solver.specs.declared.state.State.{State}
use Rattle.solver.specs.Soft.{soft_kind, softened}
use Rattle.solver.specs.Residual.{node, quoted, moving, LightLabels}
use Rattle.solver.specs.Search.{nodes}
use Rattle.solver.specs.Flows.{StartsAt}
use Rattle.solver.specs.Held.{Memory, old_of, new_of, seen_of, rank_of, via_of}
use Rattle.solver.specs.States.{sent_of}

module _ {V : Type 0} (K : Kind V) (B : Problem V) where
  -- a search is to start from the class of the book b at the weekends of the word `into`, at each with the book's quote for a first label; nothing is settled yet
  pub record Started (before after : Memory V) (b into : ℕ) : Type 0 where
    pub old : old_of K after ≡ old_of K before
    pub starts : StartsAt (soft_kind K) (softened B) (seen_of after) (new_of K after) (B.class b) (bit_at into) (quoted (soft_kind K) (softened B) b)
    pub late : (v : ℕ) → nodes ≤ rank_of after v
    pub fresh : (v : ℕ) → via_of after v ≡ None
    pub light : ((x : ℕ) → x < B.weekends → (soft_kind K).weight (quoted (soft_kind K) (softened B) b x) ≤ 10 ^ 9) → (v : ℕ) → (soft_kind K).weight (new_of K after v) ≤ 10 ^ 9

  -- does the label l grow by at most the cost along the move of the book b to x?
  abbrev pub stays_by : State → (ℕ → Ranked Money V) → ℕ → ℕ → Bool
  stays_by state l b x = is_le ((soft_kind K).cmp (l (node x (B.class b))) ((soft_kind K).plus (l (node (at (sent_of state) b) (B.class b))) (moving (soft_kind K) (softened B) b (at (sent_of state) b) x)))

  -- the book b may stay where it is, though it may go to the weekends of the word `into`: along no move there the label grows by more than the cost
  pub record Stays (state : State) (l : ℕ → Ranked Money V) (b into : ℕ) : Type 0 where
    pub own : bit_at into (at (sent_of state) b) ≡ true
    pub moved : Sound K B → LightLabels (soft_kind K) (softened B) l → (x : ℕ) → x < B.weekends → bit_at into x ≡ true →
        AtMost (soft_kind K) (l (node x (B.class b))) ((soft_kind K).plus (l (node (at (sent_of state) b) (B.class b))) (moving (soft_kind K) (softened B) b (at (sent_of state) b) x))
