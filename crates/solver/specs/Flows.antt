-- What is shown of soft bounds and labels, over one kind of amounts. Assumes nothing.
use Rattle.std.specs.Prelude.{◌≡◌, ℕ, suc, ◌+◌, ◌*◌, ◌^◌, ◌<◌, ◌≤◌, Bool, true, Some, None, Option, ◌≢◌}
use Rattle.amounts.specs.declared.money.Money.{Money}
use Rattle.amounts.specs.declared.ranked.Ranked.{Ranked}
use Rattle.amounts.specs.Kind.{Kind, law_limit, AtMost}
use Rattle.amounts.specs.Sums.{copies}
use Rattle.solver.specs.declared.arcs.Arc.{Arc}
use Rattle.solver.specs.declared.arcs.Arc.TheVariants.{Rise, Fall, Move}
use Rattle.plans.specs.Problem.{Problem, Plan, NoPlan, is_open, total}
use Rattle.solver.specs.Soft.{fine, rise, fall, soft_kind, violation, Convex, softened, violations, score}
use Rattle.solver.specs.Walk.{Walking}
use Rattle.solver.specs.Search.{nodes, FromOrigins, FromClass, Searchable, Before, Searching, Last, Seeks, stage, stages, Staged}
use Rattle.solver.specs.Residual.{Live, head, tail, quoted, arc_cost, Fits, node, above, Charges, Counts, Holed, ButFor, ButAt, Inside, LightLabels, ConvexCharges, Valid, whole}
use Rattle.plans.specs.Theorems.{Sound}

module _ {V : Type 0} (K : Kind V) where
  -- the prices of soft bounds, in violations, are convex
  abbrev pub SoftConvex : Type 0
  SoftConvex = (lower upper : ℕ) → lower ≤ upper → lower ≤ 120 →
      Convex (soft_kind K) 120 121 (fine (soft_kind K) (violation K) lower upper) (rise (soft_kind K) (violation K) lower upper) (fall (soft_kind K) (violation K) lower upper)

  -- an entry between the last step and the next is a subgradient of convex prices: price f - f e is at most price m - m e, for each m
  abbrev pub Subgradient : Type 0
  Subgradient = (top heavy : ℕ) (price rise fall : ℕ → V) → Convex K top heavy price rise fall → (e : V) (big : ℕ) → K.weight e ≤ big → 8 * (heavy + suc top * big) ≤ law_limit → (f m : ℕ) → f ≤ top → m ≤ top →
      AtMost K e (rise f) → AtMost K K.none (K.plus e (fall f)) → AtMost K (K.plus (price f) (copies K m e)) (K.plus (price m) (copies K f e))

  -- whatever the charges, if they are convex: valid labels make an assignment least among all that are inside the words
  abbrev pub LeastByLabels : Type 0
  LeastByLabels = (B : Problem V) (X : Charges V) → Sound K B → ConvexCharges K B X → (word : ℕ → ℕ → Bool) (l : ℕ → V) (p f q : ℕ → ℕ) →
      LightLabels K B l → Inside B word p → Counts B p f → Valid K B X word l p f → Inside B word q → AtMost K (whole K B X p) (whole K B X q)

  -- the charges for broken bounds, in violations
  abbrev pub soft_charges : Problem V → Charges (Ranked Money V)
  soft_charges B = record {
    price = λ w c. fine (soft_kind K) (violation K) (B.lower w c) (B.upper w c);
    rise = λ w c. rise (soft_kind K) (violation K) (B.lower w c) (B.upper w c);
    fall = λ w c. fall (soft_kind K) (violation K) (B.lower w c) (B.upper w c);
  }

  -- no two bounds cross
  abbrev pub Straight : Problem V → Type 0
  Straight B = (w c : ℕ) → w < B.weekends → c < B.classes → B.lower w c ≤ B.upper w c

  -- the labels l, violations first, are light, and valid for p, which is inside the words
  pub record Shown (B : Problem V) (word : ℕ → ℕ → Bool) (l : ℕ → Ranked Money V) (p f : ℕ → ℕ) : Type 0 where
    pub light : LightLabels (soft_kind K) (softened B) l
    pub inside : Inside B word p
    pub counts : Counts B p f
    pub valid : Valid (soft_kind K) (softened B) (soft_charges B) word l p f

  -- under soft bounds: what is shown by labels is least in violations, and then in total, among all assignments that are inside the words
  abbrev pub LeastInScore : Type 0
  LeastInScore = (B : Problem V) → Sound K B → Straight B → (word : ℕ → ℕ → Bool) (l : ℕ → Ranked Money V) (p f q : ℕ → ℕ) → Shown B word l p f → Inside B word q → AtMost (soft_kind K) (score K B p) (score K B q)

  -- an assignment has no violation exactly if it keeps within all bounds; so where each book may go wherever it is open, what is shown by labels is a
  -- least plan, or there is no plan
  pub record Settles (B : Problem V) (p : ℕ → ℕ) : Type 0 where
    pub none_broken : violations B p ≡ 0 → Plan B p
    pub least_plan : violations B p ≡ 0 → (q : ℕ → ℕ) → Plan B q → AtMost K (total K B p) (total K B q)
    pub no_plan : (violations B p ≢ 0) → NoPlan B

  abbrev pub LabelsSettle : Type 0
  LabelsSettle = (B : Problem V) → Sound K B → Straight B → (l : ℕ → Ranked Money V) (p f : ℕ → ℕ) → Shown B (is_open B) l p f → Settles B p

  -- the hole, from the moment that b is taken out until it is put in again
  pub record HoleKept (B : Problem V) : Type 0 where
    -- where b is taken out there is a hole
    pub begins : (p f : ℕ → ℕ) (b : ℕ) → b < B.books → Counts B p f → Holed B p f b (node (p b) (B.class b))
    -- a book j that is moved into the hole leaves the hole where it was
    pub moves : (p q f : ℕ → ℕ) (b j x : ℕ) → b < B.books → j < B.books → (j ≢ b) → Holed B p f b (node x (B.class j)) → q j ≡ x → ButFor B j p q → Holed B q f b (node (p j) (B.class j))
    -- one more at w and c takes the hole there from the node above
    pub comes_down : (p f g : ℕ → ℕ) (b w c : ℕ) → c < B.classes → Holed B p f b (above B.parent w c) → g (node w c) ≡ suc (f (node w c)) → ButAt (node w c) f g → Holed B p g b (node w c)
    -- one fewer at w and c takes the hole from there to the node above
    pub goes_up : (p f g : ℕ → ℕ) (b w c : ℕ) → c < B.classes → Holed B p f b (node w c) → f (node w c) ≡ suc (g (node w c)) → ButAt (node w c) f g → Holed B p g b (above B.parent w c)
    -- where the hole is, at least one is counted
    pub counted : (p f : ℕ → ℕ) (b w c : ℕ) → b < B.books → w < B.weekends → c < B.classes → Holed B p f b (node w c) → 1 ≤ f (node w c)
    -- no count passes the number of books, and below the hole there is room for one more
    pub few : (p f : ℕ → ℕ) (b v w c : ℕ) → b < B.books → w < B.weekends → c < B.classes → Holed B p f b v → f (node w c) ≤ 120
    pub room : (p f : ℕ → ℕ) (b w c : ℕ) → b < B.books → w < B.weekends → c < B.classes → Holed B p f b (above B.parent w c) → f (node w c) < 120
    -- b put into the hole fills it
    pub ends : (p q f : ℕ → ℕ) (b x : ℕ) → b < B.books → Holed B p f b (node x (B.class b)) → q b ≡ x → ButFor B b p q → Counts B q f

  abbrev pub Hole : Type 0
  Hole = (B : Problem V) → Sound K B → HoleKept B

  -- soft bounds are light enough for a search
  abbrev pub SoftFits : Type 0
  SoftFits = (B : Problem V) → Sound K B → Straight B → Fits (soft_kind K) (softened B) (soft_charges B)

  -- e is an entry for w and c between the last step and the next, and the label there is that of the node above less e
  pub record Stepped (B : Problem V) (X : Charges V) (l : ℕ → V) (f : ℕ → ℕ) (w c : ℕ) (e : V) : Type 0 where
    pub label : l (node w c) ≡ K.plus (l (above B.parent w c)) (K.minus e)
    pub light : K.weight e ≤ 2 * 10 ^ 9
    pub next : AtMost K e (X.rise w c (f (node w c)))
    pub last : AtMost K K.none (K.plus e (X.fall w c (f (node w c))))

  -- where no book may move, labels are valid if they step so: a search may start from there
  abbrev pub ColdValid : Type 0
  ColdValid = (B : Problem V) (X : Charges V) → Fits K B X → (word : ℕ → ℕ → Bool) (l : ℕ → V) (e : ℕ → ℕ → V) (p f : ℕ → ℕ) → LightLabels K B l → ((b : ℕ) → b < B.books → p b < B.weekends) → ((b x : ℕ) → word b x ≡ true → x ≡ p b) →
      ((w c : ℕ) → w < B.weekends → c < B.classes → Stepped B X l f w c (e w c)) → Valid K B X word l p f

  -- the steps of a search keep its invariant
  module _ (B : Problem V) (X : Charges V) (word : ℕ → ℕ → Bool) (Start : ℕ → V → Type 0) (p f : ℕ → ℕ) (pot : ℕ → V) where
    -- u was settled last, and its arcs before stage s are taken
    pub record Taking (t : ℕ) (d : ℕ → V) (seen : ℕ → Bool) (rank : ℕ → ℕ) (via : ℕ → Option Arc) (u s : ℕ) : Type 0 where
      pub settled : rank u < nodes
      pub last : Last K B X word Start p f pot d rank u
      pub searching : Searching K B X word Start p f pot (Staged B word p rank u s) t d seen rank via

    -- what the arc a offers to the node that it leads to
    abbrev pub offer : (ℕ → V) → Arc → V
    offer d a = K.plus (d (tail B p a)) (arc_cost K B X p f a)

    -- a is the arc of stage s out of u
    pub record Next (u s : ℕ) (a : Arc) : Type 0 where
      pub live : Live B word a
      pub from : tail B p a ≡ u
      pub at : stage a ≡ s

    pub record SearchKept : Type 0 where
      -- at first the starts are seen, and nothing is settled
      pub begins : (d : ℕ → V) (seen : ℕ → Bool) (rank : ℕ → ℕ) (via : ℕ → Option Arc) → ((v : ℕ) → nodes ≤ rank v) → ((v : ℕ) → via v ≡ None) →
          ((v : ℕ) → seen v ≡ true → Start v (d v)) → ((v : ℕ) (s : V) → Start v s → (seen v ≡ true) × AtMost K (d v) s) → ((v : ℕ) → K.weight (d v) ≤ 10 ^ 9) →
          Seeks K B X word Start p f pot 0 d seen rank via
      -- of the nodes that are seen and not settled, one with a least key is settled
      pub settles : (t : ℕ) (d : ℕ → V) (seen : ℕ → Bool) (rank rank' : ℕ → ℕ) (via : ℕ → Option Arc) (u : ℕ) → Seeks K B X word Start p f pot t d seen rank via →
          u < nodes → seen u ≡ true → nodes ≤ rank u → ((v : ℕ) → seen v ≡ true → nodes ≤ rank v → Before K B X word Start p f pot d u v) → rank' u ≡ t → ((v : ℕ) → (v ≢ u) → rank' v ≡ rank v) →
          (t < nodes) × Taking (suc t) d seen rank' via u 0
      -- u has no arc from stage s to before stage s'
      pub skips : (t : ℕ) (d : ℕ → V) (seen : ℕ → Bool) (rank : ℕ → ℕ) (via : ℕ → Option Arc) (u s s' : ℕ) → Taking t d seen rank via u s → ((a : Arc) → Live B word a → tail B p a ≡ u → s ≤ stage a → stage a < s' → ⊥) → Taking t d seen rank via u s'
      -- u has no arc of stage s
      pub skips_one : (t : ℕ) (d : ℕ → V) (seen : ℕ → Bool) (rank : ℕ → ℕ) (via : ℕ → Option Arc) (u s : ℕ) → Taking t d seen rank via u s → ((a : Arc) → Next u s a → ⊥) → Taking t d seen rank via u (suc s)
      -- a settled node is not improved
      pub no_better : (t : ℕ) (d : ℕ → V) (seen : ℕ → Bool) (rank : ℕ → ℕ) (via : ℕ → Option Arc) (u s : ℕ) (a : Arc) → Taking t d seen rank via u s → Next u s a → rank (head B a) < nodes → AtMost K (d (head B a)) (offer d a)
      -- the label where the arc leads is as good already
      pub keeps : (t : ℕ) (d : ℕ → V) (seen : ℕ → Bool) (rank : ℕ → ℕ) (via : ℕ → Option Arc) (u s : ℕ) (a : Arc) → Taking t d seen rank via u s → Next u s a → seen (head B a) ≡ true → AtMost K (d (head B a)) (offer d a) →
          Taking t d seen rank via u (suc s)
      -- the label where the arc leads is lowered, or given for the first time
      pub lowers : (t : ℕ) (d d' : ℕ → V) (seen seen' : ℕ → Bool) (rank : ℕ → ℕ) (via via' : ℕ → Option Arc) (u s : ℕ) (a : Arc) → Taking t d seen rank via u s → Next u s a → nodes ≤ rank (head B a) →
          (seen (head B a) ≡ true → AtMost K (offer d a) (d (head B a))) → d' (head B a) ≡ offer d a → seen' (head B a) ≡ true → via' (head B a) ≡ Some a →
          ((v : ℕ) → (v ≢ head B a) → (d' v ≡ d v) × (seen' v ≡ seen v) × (via' v ≡ via v)) → Taking t d' seen' rank via' u (suc s)
      -- all stages are past
      pub goes_on : (t : ℕ) (d : ℕ → V) (seen : ℕ → Bool) (rank : ℕ → ℕ) (via : ℕ → Option Arc) (u : ℕ) → Taking t d seen rank via u stages → Seeks K B X word Start p f pot t d seen rank via

  abbrev pub Search : Type 0
  Search = (B : Problem V) (X : Charges V) (word : ℕ → ℕ → Bool) (origin : ℕ → Bool) (begin : ℕ → V) (p f : ℕ → ℕ) (pot : ℕ → V) → Searchable K B X word (FromOrigins origin begin) p f pot → SearchKept B X word (FromOrigins origin begin) p f pot

  -- the steps of the walk of the book b: each undoes the arc by which the node of the hole was reached, and takes the hole to a node of smaller rank
  module _ (B : Problem V) (X : Charges V) (word : ℕ → ℕ → Bool) (into : ℕ → Bool) (begin l : ℕ → V) (rank : ℕ → ℕ) (via : ℕ → Option Arc) (b : ℕ) where
    -- underway, with the hole at v
    abbrev pub Underway : (ℕ → ℕ) → (ℕ → ℕ) → ℕ → Type 0
    Underway p f v = Walking K B X word (B.class b) into begin l rank via b p f v

    pub record WalkKept : Type 0 where
      -- an arc up is undone: one more at its node
      pub undoes_rise : (p f g : ℕ → ℕ) (v w c : ℕ) → Underway p f v → via v ≡ Some (Rise w c) → g (node w c) ≡ suc (f (node w c)) → ButAt (node w c) f g → Underway p g (node w c) × (rank (node w c) < rank v)
      -- an arc down is undone: one fewer at its node
      pub undoes_fall : (p f g : ℕ → ℕ) (v w c : ℕ) → Underway p f v → via v ≡ Some (Fall w c) → f (node w c) ≡ suc (g (node w c)) → ButAt (node w c) f g → Underway p g (above B.parent w c) × (rank (above B.parent w c) < rank v)
      -- a move is undone: the book j goes into the hole
      pub undoes_move : (p q f : ℕ → ℕ) (v j x : ℕ) → Underway p f v → via v ≡ Some (Move j x) → q j ≡ x → ButFor B j p q → Underway q f (node (p j) (B.class j)) × (rank (node (p j) (B.class j)) < rank v)
      -- the hole is at a start: b goes into it, the counts are those of the assignment, and the labels are valid for it with `into` for the word of b
      pub ends : (p q f : ℕ → ℕ) (v x : ℕ) (word' : ℕ → ℕ → Bool) → Underway p f v → via v ≡ None → v ≡ node x (B.class b) → q b ≡ x → ButFor B b p q →
          ((x : ℕ) → x < B.weekends → K.weight (begin x) ≤ 10 ^ 9) → ((x : ℕ) → x < B.weekends → into x ≡ true → AtMost K (l (node x (B.class b))) (begin x)) →
          ((x y : ℕ) → x < B.weekends → y < B.weekends → into x ≡ true → into y ≡ true → K.plus (begin x) (quoted K B b y) ≡ K.plus (begin y) (quoted K B b x)) →
          ((x : ℕ) → word' b x ≡ into x) → ((j x : ℕ) → (j ≢ b) → word' j x ≡ word j x) → Counts B q f × Inside B word' q × Valid K B X word' l q f

  abbrev pub Walk : Type 0
  Walk = (B : Problem V) (X : Charges V) (word : ℕ → ℕ → Bool) (into : ℕ → Bool) (begin l : ℕ → V) (rank : ℕ → ℕ) (via : ℕ → Option Arc) (b : ℕ) → Fits K B X → LightLabels K B l → b < B.books → WalkKept B X word into begin l rank via b

  -- where a search has ended, its labels are light and valid, and those of the starts have not grown
  pub record SearchDone (B : Problem V) (X : Charges V) (word : ℕ → ℕ → Bool) (origin : ℕ → Bool) (begin d : ℕ → V) (p f : ℕ → ℕ) : Type 0 where
    pub light : LightLabels K B d
    pub valid : Valid K B X word d p f
    pub starts : (v : ℕ) → v < nodes → origin v ≡ true → AtMost K (d v) (begin v)

  abbrev pub SearchEnds : Type 0
  SearchEnds = (B : Problem V) (X : Charges V) (word : ℕ → ℕ → Bool) (origin : ℕ → Bool) (begin : ℕ → V) (p f : ℕ → ℕ) (pot : ℕ → V) → Searchable K B X word (FromOrigins origin begin) p f pot →
      (w₀ c₀ : ℕ) → w₀ < B.weekends → c₀ < B.classes → origin (node w₀ c₀) ≡ true →
      (t : ℕ) (d : ℕ → V) (seen : ℕ → Bool) (rank : ℕ → ℕ) (via : ℕ → Option Arc) → Seeks K B X word (FromOrigins origin begin) p f pot t d seen rank via → ((v : ℕ) → seen v ≡ true → rank v < nodes) →
      SearchDone B X word origin begin d p f

  -- the origins are the nodes of the class k at the weekends of `into`, at x with the first label `first x`
  pub record StartsAt (B : Problem V) (origin : ℕ → Bool) (begin : ℕ → V) (k : ℕ) (into : ℕ → Bool) (first : ℕ → V) : Type 0 where
    pub only : (v : ℕ) → origin v ≡ true → FromClass B k into first v (begin v)
    pub each : (x : ℕ) → x < B.weekends → into x ≡ true → (origin (node x k) ≡ true) × (begin (node x k) ≡ first x)

  -- where a search from the class of b has ended, its labels are light and valid, those of the starts have not grown, and the walk of b may begin
  pub record SearchEnded (B : Problem V) (X : Charges V) (word : ℕ → ℕ → Bool) (into : ℕ → Bool) (begin d : ℕ → V) (rank : ℕ → ℕ) (via : ℕ → Option Arc) (p f : ℕ → ℕ) (b : ℕ) : Type 0 where
    pub light : LightLabels K B d
    pub valid : Valid K B X word d p f
    pub starts : (x : ℕ) → x < B.weekends → into x ≡ true → AtMost K (d (node x (B.class b))) (begin x)
    pub underway : Underway B X word into begin d rank via b p f (node (p b) (B.class b))

  abbrev pub WalkBegins : Type 0
  WalkBegins = (B : Problem V) (X : Charges V) (word : ℕ → ℕ → Bool) (b : ℕ) (origin into : ℕ → Bool) (begin first : ℕ → V) (p f : ℕ → ℕ) (pot : ℕ → V) → b < B.books → Inside B word p → Counts B p f → Searchable K B X word (FromOrigins origin begin) p f pot →
      StartsAt B origin begin (B.class b) into first → (x₀ : ℕ) → x₀ < B.weekends → into x₀ ≡ true →
      (t : ℕ) (d : ℕ → V) (seen : ℕ → Bool) (rank : ℕ → ℕ) (via : ℕ → Option Arc) → Seeks K B X word (FromOrigins origin begin) p f pot t d seen rank via → ((v : ℕ) → seen v ≡ true → rank v < nodes) →
      SearchEnded B X word into first d rank via p f b

  -- what a search from the class of b and the walk back give: an assignment with b at one of its new weekends
  pub record Reassigned (B : Problem V) (X : Charges V) (word : ℕ → ℕ → Bool) (begin d : ℕ → V) (p : ℕ → ℕ) (b : ℕ) : Type 0 where
    pub assignment : ℕ → ℕ
    pub counts : ℕ → ℕ
    pub counted : Counts B assignment counts
    pub inside : Inside B word assignment
    pub light : LightLabels K B d
    pub valid : Valid K B X word d assignment counts
    pub least : (q : ℕ → ℕ) → Inside B word q → AtMost K (whole K B X assignment) (whole K B X q)
    -- what it costs, by the labels: what p cost, and the label where b was less that where it is, and the quote where it is less that where it was
    pub costs : K.plus (K.plus (whole K B X assignment) (begin (assignment b))) (quoted K B b (p b)) ≡ K.plus (K.plus (whole K B X p) (d (node (p b) (B.class b)))) (quoted K B b (assignment b))

  -- Where the search from the class of b has ended, with first labels that differ as the quotes of b do, there is an assignment with b at a weekend of `into`
  -- and every other book inside its word. The labels that the search found are valid for it, so it is least; and the labels say what it costs
  abbrev pub Reassigns : Type 0
  Reassigns = (B : Problem V) (X : Charges V) (word : ℕ → ℕ → Bool) (b : ℕ) (origin into : ℕ → Bool) (begin first : ℕ → V) (p f : ℕ → ℕ) (pot : ℕ → V) → b < B.books → Inside B word p → Counts B p f → Searchable K B X word (FromOrigins origin begin) p f pot →
      StartsAt B origin begin (B.class b) into first →
      ((x y : ℕ) → x < B.weekends → y < B.weekends → into x ≡ true → into y ≡ true → K.plus (first x) (quoted K B b y) ≡ K.plus (first y) (quoted K B b x)) →
      (x₀ : ℕ) → x₀ < B.weekends → into x₀ ≡ true →
      (t : ℕ) (d : ℕ → V) (seen : ℕ → Bool) (rank : ℕ → ℕ) (via : ℕ → Option Arc) → Seeks K B X word (FromOrigins origin begin) p f pot t d seen rank via → ((v : ℕ) → seen v ≡ true → rank v < nodes) →
      (word' : ℕ → ℕ → Bool) → ((x : ℕ) → word' b x ≡ into x) → ((j x : ℕ) → (j ≢ b) → word' j x ≡ word j x) → Reassigned B X word' first d p b
