-- What the arrays of the code hold: labels, a search, an assignment. Assumes nothing.
use Rattle.std.specs.Prelude.{◌≡◌, ℕ, ◌+◌, ◌*◌, ◌^◌, ◌<◌, ◌≤◌, Bool, true, false, cond, not, ◌&&◌, ◌||◌, List, pos, is_some, IfSome, Some, None, Option, ◌≢◌, nat_le, nat_lt, slice_index, slice_index_or, slice_set}
use Rattle.std.specs.Option.{unwrap_or}
use Rattle.std.specs.Ordering.{is_lt}
use Rattle.amounts.specs.declared.money.Money.{Money}
use Rattle.amounts.specs.declared.ranked.Ranked.{Ranked}
use Rattle.amounts.specs.Kind.{Kind, AtMost}
use Rattle.amounts.specs.Sums.{item}
use Rattle.amounts.specs.Models.{money, ranked}
use Rattle.sources.specs.Tables.{bit_at}
use Rattle.sources.specs.declared.meaning.Source.{Ghosts}
use Rattle.plans.specs.Places.{at}
use Rattle.plans.specs.Problem.{Problem}
use Rattle.plans.specs.Posed.{put}
use Rattle.plans.specs.declared.setting.Setting.{Setting}
use Rattle.solver.specs.declared.arcs.Arc.{Arc}
use Rattle.solver.specs.declared.labels.Labels.{Labels}
use Rattle.solver.specs.declared.marks.Mark.{Mark}
use Rattle.solver.specs.declared.nodes.Spot.{Spot}
use Rattle.solver.specs.declared.state.State.{State}
use Rattle.solver.specs.Soft.{soft_kind, softened}
use Rattle.solver.specs.Residual.{tail, quoted, Fits, arc_cost}
use Rattle.solver.specs.Search.{nodes, FromOrigins, Searchable, Seeks}
use Rattle.solver.specs.Flows.{soft_charges, Shown, Taking, SearchEnded}
use Rattle.solver.specs.States.{sent_of, words_of}

module _ {V : Type 0} (K : Kind V) where
  -- the label at a place: violations from one list, the amount from another
  abbrev pub label : List Money → List V → ℕ → Ranked Money V
  label heads sheet place = ranked (slice_index_or heads place (money (pos 0))) (item K sheet place)

  -- the labels of the nodes, from the place `base` on; past the nodes there is none
  unfoldable pub bank : ℕ → List Money → List V → ℕ → Ranked Money V
  bank base heads sheet v = cond (nat_lt v nodes) (label heads sheet (base + v)) (soft_kind K).none

-- the memory of a search: the labels, violations and amounts apart, and the marks of the nodes
pub record Memory (V : Type 0) : Type 0 where
  pub heads : List Money
  pub sheet : List V
  pub marks : List (Option Mark)

-- that of the table of the code
abbrev pub memory_of : {V : Type 0} → Labels V → Memory V
memory_of l = record { heads = l.heads; sheet = l.sheet.now; marks = l.marks }

-- the label x is written at a place
abbrev pub written : {V : Type 0} → Memory V → ℕ → Ranked Money V → Memory V
written m place x = record { heads = slice_set m.heads place x.first; sheet = slice_set m.sheet place x.second; marks = m.marks }

-- the node v is marked
abbrev pub marked : {V : Type 0} → Memory V → ℕ → Mark → Memory V
marked m v mark = record { heads = m.heads; sheet = m.sheet; marks = slice_set m.marks v (Some mark) }

module _ {V : Type 0} (K : Kind V) where
  -- the labels that are valid
  abbrev pub old_of : Memory V → ℕ → Ranked Money V
  old_of m = bank K 0 m.heads m.sheet

  -- the labels that the search is finding
  abbrev pub new_of : Memory V → ℕ → Ranked Money V
  new_of m = bank K nodes m.heads m.sheet

-- the rank that a mark tells; no node is settled without one
abbrev pub rank_in : Option Mark → ℕ
rank_in None = nodes
rank_in (Some mark) = unwrap_or mark.rank nodes

-- the arc that a mark tells
abbrev pub arc_in : Option Mark → Option Arc
arc_in None = None
arc_in (Some mark) = mark.arc

module _ {V : Type 0} where
  -- has the node a label?
  abbrev pub seen_of : Memory V → ℕ → Bool
  seen_of m v = is_some (slice_index_or m.marks v None)

  -- its place in the order of settling; past the nodes none is settled
  abbrev pub rank_of : Memory V → ℕ → ℕ
  rank_of m v = rank_in (slice_index_or m.marks v None)

  -- the arc by which it was reached
  abbrev pub via_of : Memory V → ℕ → Option Arc
  via_of m v = arc_in (slice_index_or m.marks v None)

  -- has it a label, and is not settled?
  abbrev pub open_of : Memory V → ℕ → Bool
  open_of m v = seen_of m v && nat_le nodes (rank_of m v)

  -- the node v is settled at the rank t, and nothing else changes
  pub record Settled (before after : Memory V) (v t : ℕ) : Type 0 where
    pub heads : after.heads ≡ before.heads
    pub sheet : after.sheet ≡ before.sheet
    pub rank : rank_of after v ≡ t
    pub ranks : (u : ℕ) → (u ≢ v) → rank_of after u ≡ rank_of before u
    pub seen : (u : ℕ) → seen_of after u ≡ seen_of before u
    pub via : (u : ℕ) → via_of after u ≡ via_of before u

module _ {V : Type 0} (K : Kind V) where
  -- the key of a node: its new label less its old one
  abbrev pub key_of : Memory V → ℕ → Ranked Money V
  key_of m v = (soft_kind K).plus (new_of K m v) ((soft_kind K).minus (old_of K m v))

  -- does the node v take the label x? Not if it is settled, or has one that is at least as small
  abbrev pub takes : Memory V → ℕ → Ranked Money V → Bool
  takes m v x = not (nat_lt (rank_of m v) nodes) && (not (seen_of m v) || is_lt ((soft_kind K).cmp x (new_of K m v)))

  -- old labels and ranks are as before
  pub record Kept (before after : Memory V) : Type 0 where
    pub old : old_of K after ≡ old_of K before
    pub ranks : rank_of after ≡ rank_of before

  -- what is known of the node u is as before
  pub record SameAt (before after : Memory V) (u : ℕ) : Type 0 where
    pub label : new_of K after u ≡ new_of K before u
    pub seen : seen_of after u ≡ seen_of before u
    pub via : via_of after u ≡ via_of before u

  -- the label x was offered to the node v by the arc a: v has taken it, or nothing has changed
  pub record Offered (before after : Memory V) (v : ℕ) (x : Ranked Money V) (a : Arc) : Type 0 where
    pub kept : Kept before after
    pub others : (u : ℕ) → (u ≢ v) → SameAt before after u
    pub left : takes before v x ≡ false → SameAt before after v
    pub taken : takes before v x ≡ true → (new_of K after v ≡ x) × (seen_of after v ≡ true) × (via_of after v ≡ Some a)

  -- every label is light
  abbrev pub LightNodes : (ℕ → Ranked Money V) → Type 0
  LightNodes l = (v : ℕ) → (soft_kind K).weight (l v) ≤ 26 * 10 ^ 10

  -- u has a label and is not settled, and where the labels are light no such node has a smaller key
  pub record NearestOpen (m : Memory V) (u : ℕ) : Type 0 where
    pub within : u < nodes
    pub is_open : open_of m u ≡ true
    pub least : LightNodes (old_of K m) → LightNodes (new_of K m) → (v : ℕ) → v < nodes → open_of m v ≡ true → AtMost (soft_kind K) (key_of m u) (key_of m v)

-- no node has a label and is not settled
abbrev pub NoneOpen : {V : Type 0} → Memory V → Type 0
NoneOpen m = (v : ℕ) → v < nodes → open_of m v ≡ false

-- the word of a book: may it go to the weekend x?
abbrev pub word_at : List ℕ → ℕ → ℕ → Bool
word_at words b x = bit_at (slice_index words b) x

-- the word of a book's row of quotes: it has the weekends where the book is open, and what is quoted below the weekend `weeks` is light
pub record WordOf {V : Type 0} (K : Kind V) (row : ℕ → Option V) (weeks : ℕ) (word : ℕ) : Type 0 where
  pub bits : (w : ℕ) → bit_at word w ≡ is_some (row w)
  pub light : (w : ℕ) → w < weeks → IfSome (row w) (λ x. K.weight x ≤ 10 ^ 9)

-- the problem of a setting, where no limit is looked at
abbrev pub posed_by : {S V : Type 0} → Ghosts S V → Kind V → Setting S → Problem V
posed_by source K s = put source s K.none

-- the spot is one of the problem's classes at one of its weekends
abbrev pub Stands : {V : Type 0} → Problem V → Spot → Type 0
Stands B spot = (spot.weekend < B.weekends) × (spot.class < B.classes)

-- the arcs out of a node, while a search goes on over the state of an assignment
module _ {V : Type 0} (K : Kind V) (B : Problem V) (state : State) where
  -- what a search over this state asks for, from the given origins and with the given valid labels
  abbrev pub SearchableIn : (ℕ → Bool) → (ℕ → Ranked Money V) → (ℕ → Ranked Money V) → Type 0
  SearchableIn origin begin pot = Searchable (soft_kind K) (softened B) (soft_charges K B) (word_at (words_of state)) (FromOrigins origin begin) (at (sent_of state)) (at state.counts) pot

  -- t nodes are settled, u the last of them, and its arcs before stage s are taken
  abbrev pub TakingIn : (ℕ → Bool) → (ℕ → Ranked Money V) → (ℕ → Ranked Money V) → Memory V → ℕ → ℕ → ℕ → Type 0
  TakingIn origin begin pot m t u s =
      Taking (soft_kind K) (softened B) (soft_charges K B) (word_at (words_of state)) (FromOrigins origin begin) (at (sent_of state)) (at state.counts) pot t (new_of K m) (seen_of m) (rank_of m) (via_of m) u s

  -- t nodes are settled, and all their arcs are taken
  abbrev pub SeeksIn : (ℕ → Bool) → (ℕ → Ranked Money V) → (ℕ → Ranked Money V) → Memory V → ℕ → Type 0
  SeeksIn origin begin pot m t = Seeks (soft_kind K) (softened B) (soft_charges K B) (word_at (words_of state)) (FromOrigins origin begin) (at (sent_of state)) (at state.counts) pot t (new_of K m) (seen_of m) (rank_of m) (via_of m)

  -- what an arc offers to the node that it leads to
  abbrev pub offer_in : Memory V → Arc → Ranked Money V
  offer_in m a = (soft_kind K).plus (new_of K m (tail (softened B) (at (sent_of state)) a)) (arc_cost (soft_kind K) (softened B) (soft_charges K B) (at (sent_of state)) (at state.counts) a)

  -- the arcs out of u from stage s to before stage s' were taken, whatever search is going on
  pub record Relaxes (before after : Memory V) (u s s' : ℕ) : Type 0 where
    pub kept : Kept K before after
    pub taking : (origin : ℕ → Bool) (begin : ℕ → Ranked Money V) (t : ℕ) → SearchableIn origin begin (old_of K before) → TakingIn origin begin (old_of K before) before t u s → TakingIn origin begin (old_of K before) after t u s'

-- a search has ended that had nothing settled at first: from the nodes that had a label, with the labels that they had
pub record Searches {V : Type 0} (K : Kind V) (B : Problem V) (state : State) (before after : Memory V) : Type 0 where
  pub old : old_of K after ≡ old_of K before
  pub ended : SearchableIn K B state (seen_of before) (new_of K before) (old_of K before) → ((v : ℕ) → nodes ≤ rank_of before v) → ((v : ℕ) → via_of before v ≡ None) → ((v : ℕ) → (soft_kind K).weight (new_of K before v) ≤ 10 ^ 9) →
      ((t : ℕ) × SeeksIn K B state (seen_of before) (new_of K before) (old_of K before) after t × ((v : ℕ) → seen_of after v ≡ true → rank_of after v < nodes))

-- the labels l show that the state is least among all assignments inside its words
abbrev pub ShownIn : {V : Type 0} → Kind V → Problem V → State → (ℕ → Ranked Money V) → Type 0
ShownIn K B state l = Shown K B (word_at (words_of state)) l (at (sent_of state)) (at state.counts)

-- A search from the class of the book b at the weekends of the word `into`, each with its quote for a first label, has ended: b may be taken to one of them, back along the arcs by which nodes were reached
pub record Walkable {V : Type 0} (K : Kind V) (B : Problem V) (state : State) (m : Memory V) (b into : ℕ) : Type 0 where
  pub book : b < B.books
  pub fits : Fits (soft_kind K) (softened B) (soft_charges K B)
  pub ended : SearchEnded (soft_kind K) (softened B) (soft_charges K B) (word_at (words_of state)) (bit_at into) (quoted (soft_kind K) (softened B) b) (new_of K m) (rank_of m) (via_of m) (at (sent_of state)) (at state.counts) b
