-- The residual graph of an assignment: nodes, arcs, labels, and when labels are valid. Assumes nothing.
use Rattle.std.specs.Prelude.{◌≡◌, ℕ, zero, suc, ◌+◌, ◌*◌, ◌/◌, ◌%◌, ◌^◌, ◌<◌, ◌≤◌, Bool, true, ◌&&◌, ◌==◌, ◌≢◌}
use Rattle.amounts.specs.Kind.{Kind, AtMost}
use Rattle.amounts.specs.Sums.{table_sum, bit}
use Rattle.amounts.specs.Least.{or_none}
use Rattle.solver.specs.declared.arcs.Arc.{Arc}
use Rattle.solver.specs.declared.arcs.Arc.TheVariants.{Rise, Fall, Move}
use Rattle.plans.specs.Problem.{Problem, climbs, member, count, total}
use Rattle.solver.specs.Soft.{Convex}
use Rattle.plans.specs.Theorems.{Sound}

-- The graph shows how an assignment can change. It has a node for each weekend and class, and one more, the sink. From each node an arc leads up to the
-- node above, at the cost of the rise (one more is counted at the node), and an arc leads from there down to it, at the cost of the fall (one fewer is
-- counted). Where a book may move to another weekend, an arc leads from the node of its weekend and class to the node of the other weekend and its
-- class, at the cost of the difference of the quotes.

-- the node of the class c at the weekend w: each weekend has room for 8 classes, however many there are
abbrev pub node : ℕ → ℕ → ℕ
node w c = w * 8 + c

-- the node above all
abbrev pub sink : ℕ
sink = 128

-- the node above that of w and c: the parent's, and the sink above class 0
unfoldable pub above : (ℕ → ℕ) → ℕ → ℕ → ℕ
above parent w zero = sink
above parent w (suc c) = node w (parent (suc c))

-- what is charged for m members of c at w; the rise to m + 1, and the fall to m - 1
pub record Charges (V : Type 0) : Type 0 where
  pub price : ℕ → ℕ → ℕ → V
  pub rise : ℕ → ℕ → ℕ → V
  pub fall : ℕ → ℕ → ℕ → V

-- f counts the assignment p, node by node
abbrev pub Counts : {V : Type 0} → Problem V → (ℕ → ℕ) → (ℕ → ℕ) → Type 0
Counts B p f = (w c : ℕ) → w < B.weekends → c < B.classes → f (node w c) ≡ count B p w c

-- would a book at the node v count at w and c? It would at its own weekend, for its class and for every class above; at the sink it counts nowhere
unfoldable pub covers : (ℕ → ℕ) → ℕ → ℕ → ℕ → Bool
covers parent v w c = v / 8 == w && climbs parent (v % 8) (v % 8) c

-- The hole. f counts the assignment p, but with the book b taken from its weekend and put at the node v: there the hole is, for b or another book to fill
abbrev pub Holed : {V : Type 0} → Problem V → (ℕ → ℕ) → (ℕ → ℕ) → ℕ → ℕ → Type 0
Holed B p f b v = (w c : ℕ) → w < B.weekends → c < B.classes → f (node w c) + bit (p b == w && member B b c) ≡ count B p w c + bit (covers B.parent v w c)

-- q sends the books as p does, but for j
abbrev pub ButFor : {V : Type 0} → Problem V → ℕ → (ℕ → ℕ) → (ℕ → ℕ) → Type 0
ButFor B j p q = (i : ℕ) → i < B.books → (i ≢ j) → q i ≡ p i

-- g counts as f does, but at the node n
abbrev pub ButAt : ℕ → (ℕ → ℕ) → (ℕ → ℕ) → Type 0
ButAt n f g = (v : ℕ) → (v ≢ n) → g v ≡ f v

-- The word of a book says to which weekends it may be sent. p sends each book to a weekend of its word
pub record Inside {V : Type 0} (B : Problem V) (word : ℕ → ℕ → Bool) (p : ℕ → ℕ) : Type 0 where
  pub sent : (b : ℕ) → b < B.books → p b < B.weekends
  pub meets : (b : ℕ) → b < B.books → word b (p b) ≡ true

module _ {V : Type 0} (B : Problem V) where
  -- the arcs that there are: a book moves inside its word
  abbrev pub Live : (ℕ → ℕ → Bool) → Arc → Type 0
  Live word (Rise w c) = (w < B.weekends) × (c < B.classes)
  Live word (Fall w c) = (w < B.weekends) × (c < B.classes)
  Live word (Move j x) = (j < B.books) × (x < B.weekends) × (word j x ≡ true)

  -- the node that an arc leads to
  abbrev pub head : Arc → ℕ
  head (Rise w c) = above B.parent w c
  head (Fall w c) = node w c
  head (Move j x) = node x (B.class j)

  -- the node that it leads from, where p is the assignment
  abbrev pub tail : (ℕ → ℕ) → Arc → ℕ
  tail p (Rise w c) = node w c
  tail p (Fall w c) = above B.parent w c
  tail p (Move j x) = node (p j) (B.class j)

module _ {V : Type 0} (K : Kind V) (B : Problem V) where
  -- the quote of an open pair, and nothing for one that is shut
  abbrev pub quoted : ℕ → ℕ → V
  quoted b w = or_none K (B.quote b w)

  -- the cost of moving the book b from y to x
  abbrev pub moving : ℕ → ℕ → ℕ → V
  moving b y x = K.plus (quoted b x) (K.minus (quoted b y))

  -- A label is an amount at a node; labels are light enough that their differences are light entries of a sheet
  abbrev pub LightLabels : (ℕ → V) → Type 0
  LightLabels l = (v : ℕ) → K.weight (l v) ≤ 26 * 10 ^ 10

  module _ (X : Charges V) where
    -- the charges of each weekend and class are convex
    abbrev pub ConvexCharges : Type 0
    ConvexCharges = (w c : ℕ) → w < B.weekends → c < B.classes → Convex K 120 (10 ^ 13) (X.price w c) (X.rise w c) (X.fall w c)

    -- a problem and charges that are light enough for a search
    pub record Fits : Type 0 where
      pub sound : Sound K B
      pub convex : ConvexCharges
      pub rises : (w c m : ℕ) → w < B.weekends → c < B.classes → K.weight (X.rise w c m) ≤ 2 * 10 ^ 9
      pub falls : (w c m : ℕ) → w < B.weekends → c < B.classes → K.weight (X.fall w c m) ≤ 2 * 10 ^ 9

    -- the cost of an arc, where p is the assignment and f counts it
    abbrev pub arc_cost : (ℕ → ℕ) → (ℕ → ℕ) → Arc → V
    arc_cost p f (Rise w c) = X.rise w c (f (node w c))
    arc_cost p f (Fall w c) = X.fall w c (f (node w c))
    arc_cost p f (Move j x) = moving j (p j) x

    -- Labels are valid for an assignment p and its counts f if along no arc the label grows by more than the cost
    pub record Valid (word : ℕ → ℕ → Bool) (l : ℕ → V) (p f : ℕ → ℕ) : Type 0 where
      -- along the arcs up
      pub rising : (w c : ℕ) → w < B.weekends → c < B.classes → AtMost K (l (above B.parent w c)) (K.plus (l (node w c)) (X.rise w c (f (node w c))))
      -- along the arcs down
      pub falling : (w c : ℕ) → w < B.weekends → c < B.classes → AtMost K (l (node w c)) (K.plus (l (above B.parent w c)) (X.fall w c (f (node w c))))
      -- along the moves of the books
      pub moved : (b x : ℕ) → b < B.books → x < B.weekends → word b x ≡ true → AtMost K (l (node x (B.class b))) (K.plus (l (node (p b) (B.class b))) (moving b (p b) x))

    -- the quotes of an assignment and the charges for its counts
    unfoldable pub whole : (ℕ → ℕ) → V
    whole p = K.plus (total K B p) (table_sum K B.weekends B.classes (λ w c. X.price w c (count B p w c)))
