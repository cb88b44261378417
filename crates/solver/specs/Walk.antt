-- The walk that takes a book to its new place: back along the arcs by which a search reached the nodes. Assumes nothing.
use Rattle.std.specs.Prelude.{◌≡◌, ℕ, ◌<◌, ◌≤◌, Bool, true, cond, Some, None, Option, ◌==◌}
use Rattle.amounts.specs.Kind.{Kind}
use Rattle.amounts.specs.Sums.{sum_below, table_sum}
use Rattle.solver.specs.declared.arcs.Arc.{Arc}
use Rattle.plans.specs.Problem.{Problem}
use Rattle.solver.specs.Search.{FromClass}
use Rattle.solver.specs.Residual.{node, Charges, Holed, Live, head, tail, quoted, arc_cost, Valid}

module _ {V : Type 0} (K : Kind V) (B : Problem V) where
  -- the quotes of all books but b
  unfoldable pub other_quotes : ℕ → (ℕ → ℕ) → V
  other_quotes b p = sum_below K B.books (λ j. cond (j == b) K.none (quoted K B j (p j)))

  module _ (X : Charges V) where
    -- the charges for the counts
    unfoldable pub charged : (ℕ → ℕ) → V
    charged f = table_sum K B.weekends B.classes (λ w c. X.price w c (f (node w c)))

    -- what all but the book b cost
    abbrev pub spent : ℕ → (ℕ → ℕ) → (ℕ → ℕ) → V
    spent b p f = K.plus (other_quotes b p) (charged f)

-- A search started from the nodes of the class k at the weekends of `into`, at x with the label begin x. It left labels l, and gave each node a rank, the
-- earlier the smaller.
module _ {V : Type 0} (K : Kind V) (B : Problem V) (X : Charges V) (word : ℕ → ℕ → Bool) (k : ℕ) (into : ℕ → Bool) (begin : ℕ → V) (l : ℕ → V) (rank : ℕ → ℕ) where
  -- the node v was a start, or the arc by which it was reached comes from a node of smaller rank and is tight: along it the label grows by just the cost
  abbrev pub Reached : (ℕ → ℕ) → (ℕ → ℕ) → ℕ → Option Arc → Type 0
  Reached p f v None = FromClass B k into begin v (l v)
  Reached p f v (Some a) = Live B word a × (v ≡ head B a) × (rank (tail B p a) < rank v) × (l v ≡ K.plus (l (tail B p a)) (arc_cost K B X p f a))

  -- the book b is taken out, and the hole is at v; `via` has the arc by which each node was reached
  pub record Walking (via : ℕ → Option Arc) (b : ℕ) (p f : ℕ → ℕ) (v : ℕ) : Type 0 where
    pub holed : Holed B p f b v
    pub valid : Valid K B X word l p f
    pub sent : (j : ℕ) → j < B.books → p j < B.weekends
    pub meets : (j : ℕ) → j < B.books → word j (p j) ≡ true
    pub under : rank v ≤ rank (node (p b) (B.class b))
    pub ahead : (u : ℕ) → rank u ≤ rank v → Reached p f u (via u)
