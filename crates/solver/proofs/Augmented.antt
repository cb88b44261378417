-- The walk as the code takes it: arcs are undone in the state of an assignment, and the book is put where the hole is at last. Assumes nothing.
use Rattle.std.proofs.Common.{◌≡◌, ℕ, suc, ◌+◌, ◌-◌, ◌/◌, ◌<◌, Bool, List, length, set, Some, None, Option, sym, refl, ap, ◌∙◌, subst, subst₂, ⊎_elim, add-one, arith}
use Rattle.std.proofs.lemmas.List.{get_or-set_same, get_or-set_other}
use Rattle.std.proofs.lemmas.Bool.{cases_eq}
use Rattle.amounts.specs.Kind.{Kind, Lawful, law_limit}
use Rattle.sources.specs.Tables.{bit_at}
use Rattle.plans.specs.Places.{at}
use Rattle.plans.specs.Problem.{Problem, member, count}
use Rattle.solver.specs.declared.arcs.Arc.{Arc}
use Rattle.solver.specs.declared.arcs.Arc.TheVariants.{Rise, Fall, Move}
use Rattle.solver.specs.declared.state.State.{State}
use Rattle.solver.specs.Soft.{soft_kind, softened}
use Rattle.solver.specs.Residual.{node, sink, above, Holed, quoted, tail}
use Rattle.solver.specs.Search.{nodes}
use Rattle.solver.specs.Walk.{Reached}
use Rattle.solver.specs.Flows.{soft_charges, HoleKept, Shown, Underway, WalkKept}
use Rattle.solver.specs.Held.{Memory, new_of, rank_of, via_of, word_at, Walkable, ShownIn}
use Rattle.solver.specs.Undone.{Undoable, Undone, Put}
use Rattle.solver.proofs.Soft.{soft_lawful}
use Rattle.solver.proofs.Stated.{sent_long, words_long}
use Rattle.solver.proofs.Above.{above_root, above_other}
use Rattle.solver.proofs.Hole.{hole}
use Rattle.solver.proofs.Optimal.{quoted_light}
use Rattle.solver.proofs.Undoing.{walk}
use Rattle.solver.specs.States.{sent_of, words_of}

-- the walk of the book b to a weekend of the word `into` is underway, with the hole at v
abbrev pub WalksIn : {V : Type 0} → Kind V → Problem V → Memory V → ℕ → ℕ → State → ℕ → Type 0
WalksIn K B m b into state v =
    Underway (soft_kind K) (softened B) (soft_charges K B) (word_at (words_of state)) (bit_at into) (quoted (soft_kind K) (softened B) b) (new_of K m) (rank_of m) (via_of m) b (at (sent_of state)) (at state.counts) v

-- the search started from v, or came there by the given arc, which is tight still
abbrev ReachedIn : {V : Type 0} → Kind V → Problem V → Memory V → ℕ → ℕ → State → ℕ → Option Arc → Type 0
ReachedIn K B m b into state v o =
    Reached (soft_kind K) (softened B) (soft_charges K B) (word_at (words_of state)) (B.class b) (bit_at into) (quoted (soft_kind K) (softened B) b) (new_of K m) (rank_of m) (at (sent_of state)) (at state.counts) v o

-- one place of a list is written
set_here : (xs : List ℕ) (i x : ℕ) → i < length xs → at (set xs i x) i ≡ x
set_here xs i x h = get_or-set_same xs i x 0 h

set_there : (xs : List ℕ) (i x j : ℕ) → (j ≡ i → ⊥) → at (set xs i x) j ≡ at xs j
set_there xs i x j d = get_or-set_other xs i j x 0 d

module _ {V : Type 0} {K : Kind V} (L : Lawful K) (B : Problem V) (start : State) (m : Memory V) (b into : ℕ) (ready : Walkable K B start m b into) where
  -- the arc by which the search came to the hole
  reached : (state : State) (v : ℕ) (o : Option Arc) → WalksIn K B m b into state v → via_of m v ≡ o → ReachedIn K B m b into state v o
  reached state v o i e = subst (ReachedIn K B m b into state v) e (i.ahead v (omega arith))

  steps : (word : ℕ → ℕ → Bool) → WalkKept (soft_kind K) (softened B) (soft_charges K B) word (bit_at into) (quoted (soft_kind K) (softened B) b) (new_of K m) (rank_of m) (via_of m) b
  steps word = walk (soft_lawful L) (softened B) (soft_charges K B) word (bit_at into) (quoted (soft_kind K) (softened B) b) (new_of K m) (rank_of m) (via_of m) b ready.fits ready.ended.light ready.book

  around : HoleKept (soft_kind K) (softened B)
  around = hole (soft_kind K) (softened B) ready.fits.sound

  node_within : (w c : ℕ) → w < B.weekends → c < B.classes → node w c < nodes
  node_within w c hw hc = omega (arith, ready.fits.sound.weekends, ready.fits.sound.classes)

  above_within : (w c : ℕ) → w < B.weekends → c < B.classes → above B.parent w c < nodes
  above_within w c hw hc = ⊎_elim
      (λ (z : c ≡ 0). let e : above B.parent w c ≡ sink = ap (above B.parent w) z ∙ above_root B.parent w in omega arith)
      (λ (z : c ≡ 0 → ⊥).
      let some : 0 < c = omega arith in
      let e = above_other B.parent w c some in
      omega (arith, ready.fits.sound.above c some hc, ready.fits.sound.weekends, ready.fits.sound.classes))
      (cases_eq c 0)

  hole_within : (state : State) (v : ℕ) → WalksIn K B m b into state v → v < nodes
  hole_within state v i = go (via_of m v) (reached state v (via_of m v) i refl)
    where
      go : (o : Option Arc) → ReachedIn K B m b into state v o → v < nodes
      go None t = omega (arith, t.3, node_within t.0 (B.class b) t.1 (ready.fits.sound.classed b ready.book))
      go (Some (Rise w c)) t = omega (arith, t.1, above_within w c t.0.0 t.0.1)
      go (Some (Fall w c)) t = omega (arith, t.1, node_within w c t.0.0 t.0.1)
      go (Some (Move j x)) t = omega (arith, t.1, node_within x (B.class j) t.0.1 (ready.fits.sound.classed j t.0.0))

  undoable_by : (state : State) (v : ℕ) (a : Arc) → WalksIn K B m b into state v → via_of m v ≡ Some a → Undoable B.classes state a
  undoable_by state v (Rise w c) i e =
      let t = reached state v (Some (Rise w c)) i e in
      (omega (arith, t.0.0, ready.fits.sound.weekends), t.0.1, around.room (at (sent_of state)) (at state.counts) b w c ready.book t.0.0 t.0.1 (subst (Holed (softened B) (at (sent_of state)) (at state.counts) b) t.1 i.holed))
  undoable_by state v (Fall w c) i e =
      let t = reached state v (Some (Fall w c)) i e in
      (omega (arith, t.0.0, ready.fits.sound.weekends), t.0.1, around.counted (at (sent_of state)) (at state.counts) b w c ready.book t.0.0 t.0.1 (subst (Holed (softened B) (at (sent_of state)) (at state.counts) b) t.1 i.holed))
  undoable_by state v (Move j x) i e =
      let t = reached state v (Some (Move j x)) i e in
      let n = ready.fits.sound.weekends in
      (omega (arith, t.0.0, ready.fits.sound.books), omega (arith, t.0.1), omega (arith, i.sent j t.0.0))

  -- the arc into the hole can be undone
  pub undoable : (state : State) (v : ℕ) (a : Arc) → WalksIn K B m b into state v → Some a ≡ via_of m v → Undoable B.classes state a
  undoable state v a i e = undoable_by state v a i (sym e)

  -- the arc is undone: the hole is where it came from, at a node of smaller rank
  pub record Step (state state' : State) (v v' : ℕ) : Type 0 where
    pub walks : WalksIn K B m b into state' v'
    pub words : words_of state' ≡ words_of state
    pub within : v' < nodes
    pub less : rank_of m v' < rank_of m v

  -- what is known of the lists of a state is known of the state
  stepped : (state state' : State) (v v' : ℕ) (sent counts : List ℕ) → sent_of state' ≡ sent → words_of state' ≡ words_of state → state'.counts ≡ counts →
      Underway (soft_kind K) (softened B) (soft_charges K B) (word_at (words_of state)) (bit_at into) (quoted (soft_kind K) (softened B) b) (new_of K m) (rank_of m) (via_of m) b (at sent) (at counts) v' × (rank_of m v' < rank_of m v) → Step state state' v v'
  stepped state state' v v' sent counts e w q s =
      let W : List ℕ → List ℕ → List ℕ → Type 0 =
      λ words sent counts. Underway (soft_kind K) (softened B) (soft_charges K B) (word_at words) (bit_at into) (quoted (soft_kind K) (softened B) b) (new_of K m) (rank_of m) (via_of m) b (at sent) (at counts) v' in
      let walks : WalksIn K B m b into state' v' = subst₂ (W (words_of state')) (sym e) (sym q) (subst (λ words. W words sent counts) (sym w) s.0) in
      record { walks = walks; words = w; within = hole_within state' v' walks; less = s.1 }

  step_by : (state state' : State) (v : ℕ) (a : Arc) → WalksIn K B m b into state v → via_of m v ≡ Some a → Undone state state' a → Step state state' v (tail B (at (sent_of state)) a)
  step_by state state' v (Rise w c) i e u =
      let f = state.counts in
      let n = node w c in
      let h : n < length f = omega (arith, (undoable_by state v (Rise w c) i e).0, (undoable_by state v (Rise w c) i e).1, ready.fits.sound.classes, state.sized.1) in
      stepped state state' v n (sent_of state) (set f n (at f n + 1)) u.0 u.1 u.2
      ((steps (word_at (words_of state))).undoes_rise (at (sent_of state)) (at f) (at (set f n (at f n + 1))) v w c i e (set_here f n (at f n + 1) h ∙ add-one (at f n)) (set_there f n (at f n + 1)))
  step_by state state' v (Fall w c) i e u =
      let f = state.counts in
      let n = node w c in
      let can = undoable_by state v (Fall w c) i e in
      let h : n < length f = omega (arith, can.0, can.1, ready.fits.sound.classes, state.sized.1) in
      let less : at f n ≡ suc (at (set f n (at f n - 1)) n) = omega (arith, set_here f n (at f n - 1) h, can.2) in
      stepped state state' v (above B.parent w c) (sent_of state) (set f n (at f n - 1)) u.0 u.1 u.2
      ((steps (word_at (words_of state))).undoes_fall (at (sent_of state)) (at f) (at (set f n (at f n - 1))) v w c i e less (set_there f n (at f n - 1)))
  step_by state state' v (Move j x) i e u =
      let p = sent_of state in
      let h : j < length p = omega (arith, (undoable_by state v (Move j x) i e).0, sent_long state) in
      stepped state state' v (node (at p j) (B.class j)) (set p j x) state.counts u.0 u.1 u.2
      ((steps (word_at (words_of state))).undoes_move (at p) (at (set p j x)) (at state.counts) v j x i e (set_here p j x h) (λ k _ d. set_there p j x k d))

  pub step : (state state' : State) (v v' : ℕ) (a : Arc) → WalksIn K B m b into state v → Some a ≡ via_of m v → v' ≡ tail B (at (sent_of state)) a → Undone state state' a → Step state state' v v'
  step state state' v v' a i e t u = subst (Step state state' v) (sym t) (step_by state state' v a i (sym e) u)

  -- the first labels are the quotes, so they differ as those do
  even : (x y : ℕ) → x < B.weekends → y < B.weekends → (soft_kind K).plus (quoted (soft_kind K) (softened B) b x) (quoted (soft_kind K) (softened B) b y) ≡ (soft_kind K).plus (quoted (soft_kind K) (softened B) b y) (quoted (soft_kind K) (softened B) b x)
  unfolding law_limit
  even x y hx hy =
      let qx = quoted_light (soft_lawful L) (softened B) ready.fits.sound b x ready.book hx in
      let qy = quoted_light (soft_lawful L) (softened B) ready.fits.sound b y ready.book hy in
      (soft_lawful L).comm (quoted (soft_kind K) (softened B) b x) (quoted (soft_kind K) (softened B) b y) (omega arith)

  -- a start is at a weekend
  pub start_weekend : (state : State) (v : ℕ) → WalksIn K B m b into state v → None ≡ via_of m v → v / 8 < 16
  start_weekend state v i e =
      let t = reached state v None i (sym e) in
      omega (arith, t.1, t.3, ready.fits.sound.weekends, ready.fits.sound.classes, ready.fits.sound.classed b ready.book)

  -- the hole is at a start, and the book goes there
  pub shown : (state state' : State) (v : ℕ) → WalksIn K B m b into state v → None ≡ via_of m v → Put state state' b (v / 8) into → ShownIn K B state' (new_of K m)
  unfolding count member
  shown state state' v i e s =
      let t = reached state v None i (sym e) in
      let k = ready.fits.sound.classed b ready.book in
      let p = sent_of state in
      let words = words_of state in
      let few = ready.fits.sound.books in
      let hs : b < length p = omega (arith, sent_long state, ready.book) in
      let hw : b < length words = omega (arith, words_long state, ready.book) in
      let there : v ≡ node (v / 8) (B.class b) = omega (arith, t.3, ready.fits.sound.classes) in
      let end = (steps (word_at words)).ends (at p) (at (set p b (v / 8))) (at state.counts) v (v / 8) (word_at (set words b into)) i (sym e) there
      (set_here p b (v / 8) hs) (λ j _ d. set_there p b (v / 8) j d) (λ x hx. quoted_light (soft_lawful L) (softened B) ready.fits.sound b x ready.book hx)
      ready.ended.starts (λ x y hx hy _ _. even x y hx hy) (λ x. ap (λ w. bit_at w x) (set_here words b into hw)) (λ j x d. ap (λ w. bit_at w x) (set_there words b into j d)) in
      let S : List ℕ → List ℕ → List ℕ → Type 0 = λ words sent counts. Shown K B (word_at words) (new_of K m) (at sent) (at counts) in
      let made : S (set words b into) (set p b (v / 8)) state.counts = record { light = ready.ended.light; inside = record { sent = end.1.sent; meets = end.1.meets }; counts = end.0; valid = end.2 } in
      subst₂ (S (words_of state')) (sym s.0) (sym s.2) (subst (λ words. S words (set p b (v / 8)) state.counts) (sym s.1) made)
