-- The search for least labels from some starts: what holds after each step. Assumes nothing.
use Rattle.std.specs.Prelude.{◌≡◌, ℕ, ◌+◌, ◌*◌, ◌^◌, ◌<◌, ◌≤◌, Bool, true, Some, None, Option, nat_lt}
use Rattle.amounts.specs.Kind.{Kind, AtMost}
use Rattle.amounts.specs.Sums.{tally}
use Rattle.solver.specs.declared.arcs.Arc.{Arc}
use Rattle.solver.specs.declared.arcs.Arc.TheVariants.{Rise, Fall, Move}
use Rattle.plans.specs.Problem.{Problem}
use Rattle.solver.specs.Residual.{node, Charges, Live, head, tail, arc_cost, LightLabels, Fits, Valid}

-- how many nodes there are; a node of this rank or more is not settled
abbrev pub nodes : ℕ
nodes = 129

-- The two ways in which starts are given: by any nodes that are origins, each with its first label; and by one class
module _ {V : Type 0} where
  -- v is an origin, and s its first label
  abbrev pub FromOrigins : (ℕ → Bool) → (ℕ → V) → ℕ → V → Type 0
  FromOrigins origin begin v s = (v < nodes) × (origin v ≡ true) × (s ≡ begin v)

  -- v is the node of the class k at a weekend x of `into`, and s is begin x
  abbrev pub FromClass : Problem V → ℕ → (ℕ → Bool) → (ℕ → V) → ℕ → V → Type 0
  FromClass B k into begin v s = (x : ℕ) × (x < B.weekends) × (into x ≡ true) × (v ≡ node x k) × (s ≡ begin x)

-- A search, where `Start v s` says that v is a start and s its first label, p is the assignment, f counts it, and `pot` are labels that are valid for it
module _ {V : Type 0} (K : Kind V) (B : Problem V) (X : Charges V) (word : ℕ → ℕ → Bool) (Start : ℕ → V → Type 0) (p f : ℕ → ℕ) (pot : ℕ → V) where
  -- what the search asks for
  pub record Searchable : Type 0 where
    pub fits : Fits K B X
    pub sent : (j : ℕ) → j < B.books → p j < B.weekends
    pub valid : Valid K B X word pot p f
    pub light : LightLabels K B pot
    pub begins : (v : ℕ) (s : V) → Start v s → K.weight s ≤ 10 ^ 9

  -- d u less pot u is the key of u, and it is at most that of v
  abbrev pub Before : (ℕ → V) → ℕ → ℕ → Type 0
  Before d u v = AtMost K (K.plus (d u) (pot v)) (K.plus (d v) (pot u))

  -- why d v is what it is: v is a start with its first label, or it was reached by an arc from a settled node
  abbrev pub Reason : (ℕ → V) → (ℕ → ℕ) → ℕ → Option Arc → Type 0
  Reason d rank v None = Start v (d v)
  Reason d rank v (Some a) = Live B word a × (head B a ≡ v) × (rank (tail B p a) < nodes) × (rank v < nodes → rank (tail B p a) < rank v) × (d v ≡ K.plus (d (tail B p a)) (arc_cost K B X p f a))

  -- t nodes are settled, and the arcs of Done are satisfied: along none of them the label d grows by more than the cost
  pub record Searching (Done : Arc → Type 0) (t : ℕ) (d : ℕ → V) (seen : ℕ → Bool) (rank : ℕ → ℕ) (via : ℕ → Option Arc) : Type 0 where
    pub counted : t ≡ tally nodes (λ v. nat_lt (rank v) nodes)
    pub ranked : (v : ℕ) → rank v < nodes → (rank v < t) × (seen v ≡ true)
    -- a settled node's key is at most that of each node that is seen but not settled
    pub order : (u v : ℕ) → rank u < nodes → seen v ≡ true → nodes ≤ rank v → Before d u v
    pub done : (a : Arc) → Done a → (rank (tail B p a) < nodes) × (seen (head B a) ≡ true) × AtMost K (d (head B a)) (K.plus (d (tail B p a)) (arc_cost K B X p f a)) × Live B word a
    pub reason : (v : ℕ) → seen v ≡ true → Reason d rank v (via v)
    pub starts : (v : ℕ) (s : V) → Start v s → (seen v ≡ true) × AtMost K (d v) s
    pub settled_light : (v : ℕ) → rank v < nodes → K.weight (d v) ≤ 10 ^ 9 + 2 * 10 ^ 9 * rank v
    pub light : (v : ℕ) → K.weight (d v) ≤ 10 ^ 9 + 2 * 10 ^ 9 * t

  -- no settled node has a greater key than u: so it is of the node settled last
  abbrev pub Last : (ℕ → V) → (ℕ → ℕ) → ℕ → Type 0
  Last d rank u = (y : ℕ) → rank y < nodes → Before d y u

  -- every arc out of a settled node is satisfied
  abbrev pub Seeks : ℕ → (ℕ → V) → (ℕ → Bool) → (ℕ → ℕ) → (ℕ → Option Arc) → Type 0
  Seeks t d seen rank via = Searching (λ a. Live B word a × (rank (tail B p a) < nodes)) t d seen rank via

-- the arcs out of a node in the order in which they are taken: up, then down by nodes, then the books by number and weekend
abbrev pub stage : Arc → ℕ
stage (Rise w c) = 0
stage (Fall w c) = 1 + node w c
stage (Move j x) = 129 + (j * 16 + x)

-- no arc has this stage or a later one
abbrev pub stages : ℕ
stages = 2049

-- the arcs out of settled nodes, but of those out of u only the ones before stage s
abbrev pub Staged : {V : Type 0} → Problem V → (ℕ → ℕ → Bool) → (ℕ → ℕ) → (ℕ → ℕ) → ℕ → ℕ → Arc → Type 0
Staged B word p rank u s a = Live B word a × (rank (tail B p a) < nodes) × (tail B p a ≡ u → stage a < s)
