-- The loops over the arcs out of a node: how each begins, goes on and ends. Assumes nothing.
use Rattle.std.proofs.Common.{◌≡◌, ℕ, ◌+◌, ◌*◌, ◌<◌, ◌≤◌, Bool, true, false, ◌&&◌, eqb, sym, refl, ap, ◌∙◌, subst, ap₂, arith}
use Rattle.std.proofs.lemmas.Bool.{both_ways, and_from, and_parts, eq-eqb, eqb-true}
use Rattle.amounts.specs.declared.money.Money.{Money}
use Rattle.amounts.specs.declared.ranked.Ranked.{Ranked}
use Rattle.amounts.specs.Kind.{Kind, Lawful}
use Rattle.plans.specs.Places.{at}
use Rattle.plans.specs.Problem.{Problem}
use Rattle.solver.specs.declared.arcs.Arc.{Arc}
use Rattle.solver.specs.declared.state.State.{State}
use Rattle.solver.specs.Soft.{softened}
use Rattle.solver.specs.Residual.{node, sink, above, Live, tail}
use Rattle.solver.specs.Search.{stage, stages}
use Rattle.solver.specs.Held.{Memory, old_of, word_at, SearchableIn, Relaxes}
use Rattle.solver.proofs.Above.{above_root, above_other}
use Rattle.solver.proofs.Outgoing.{falls_from, falls_from_sink, moves_from, none_from}
use Rattle.solver.proofs.Relaxed.{relaxes_none, relaxes_more}
use Rattle.solver.specs.States.{sent_of, words_of}

module _ {V : Type 0} {K : Kind V} (L : Lawful K) (B : Problem V) (state : State) where
  -- the arcs out of u from stage s to before stage s' are none
  abbrev Gap : Memory V → ℕ → ℕ → ℕ → Type 0
  Gap m u s s' = (origin : ℕ → Bool) (begin : ℕ → Ranked Money V) → SearchableIn K B state origin begin (old_of K m) → (a : Arc) → Live (softened B) (word_at (words_of state)) a → tail (softened B) (at (sent_of state)) a ≡ u → s ≤ stage a → stage a < s' → ⊥

  past : (m m₁ : Memory V) (u s s₁ s₂ : ℕ) → Relaxes K B state m m₁ u s s₁ → Gap m₁ u s₁ s₂ → Relaxes K B state m m₁ u s s₂
  past m m₁ u s s₁ s₂ x gap = relaxes_more L B state m m₁ m₁ u s s₁ s₂ x (relaxes_none L B state m₁ u s₁ s₂ gap)

  -- at the same node and stages
  moved_to : (m m₁ : Memory V) (u u' s s' t t' : ℕ) → u ≡ u' → s ≡ s' → t ≡ t' → Relaxes K B state m m₁ u s t → Relaxes K B state m m₁ u' s' t'
  moved_to m m₁ u u' s s' t t' e q r x = subst (λ u. Relaxes K B state m m₁ u s' t') e (subst (λ s. Relaxes K B state m m₁ u s t') q (subst (Relaxes K B state m m₁ u s) r x))

  -- ---- down from the node of w and c
  module _ (w c : ℕ) (lw : w < B.weekends) (lc : c < B.classes) where
    pub falls_begin : (m : Memory V) → Relaxes K B state m m (node w c) 1 (1 + node w 1)
    falls_begin m = relaxes_none L B state m (node w c) 1 (1 + node w 1) (λ origin begin g a live from h l.
        let s = g.fits.sound in
        let f = falls_from (softened B) s (word_at (words_of state)) (at (sent_of state)) g.sent w c (omega (arith, s.weekends)) (omega (arith, s.classes)) a live from h (omega (arith, s.weekends)) in
        omega (arith, f.staged, f.some))

    pub falls_skip : (m m₁ : Memory V) (d : ℕ) → Relaxes K B state m m₁ (node w c) 1 (1 + node w d) → d < B.classes → (B.parent d ≡ c → ⊥) → Relaxes K B state m m₁ (node w c) 1 (1 + node w (d + 1))
    falls_skip m m₁ d x ld apart = past m m₁ (node w c) 1 _ _ x (λ origin begin g a live from h l.
        let s = g.fits.sound in
        let f = falls_from (softened B) s (word_at (words_of state)) (at (sent_of state)) g.sent w c (omega (arith, s.weekends)) (omega (arith, s.classes)) a live from (omega arith) (omega (arith, s.weekends, s.classes)) in
        let e : f.below ≡ d = omega (arith, f.staged) in
        apart (ap B.parent (sym e) ∙ f.parent))

    pub falls_take : (m m₁ m₂ : Memory V) (d : ℕ) → Relaxes K B state m m₁ (node w c) 1 (1 + node w d) → 0 < d → B.parent d ≡ c → Relaxes K B state m₁ m₂ (above B.parent w d) (1 + node w d) (2 + node w d) → Relaxes K B state m m₂ (node w c) 1 (1 + node w (d + 1))
    falls_take m m₁ m₂ d x some e y =
        let up : above B.parent w d ≡ node w c = above_other B.parent w d some ∙ ap (node w) e in
        relaxes_more L B state m m₁ m₂ (node w c) 1 _ _ x (moved_to m₁ m₂ _ _ _ _ _ _ up refl (omega arith) y)

    pub falls_end : (m m₁ : Memory V) (d : ℕ) → Relaxes K B state m m₁ (node w c) 1 (1 + node w d) → B.classes ≤ d → Relaxes K B state m m₁ (node w c) 1 129
    falls_end m m₁ d x end = past m m₁ (node w c) 1 _ _ x (λ origin begin g a live from h l.
        let s = g.fits.sound in
        let f = falls_from (softened B) s (word_at (words_of state)) (at (sent_of state)) g.sent w c (omega (arith, s.weekends)) (omega (arith, s.classes)) a live from (omega arith) l in
        omega (arith, f.staged, f.known))

  -- ---- down from the sink
  pub sink_begin : (m : Memory V) → Relaxes K B state m m sink 0 (1 + node 0 0)
  sink_begin m = relaxes_none L B state m sink 0 (1 + node 0 0) (λ origin begin g a live from h l.
      let f = falls_from_sink (softened B) g.fits.sound (word_at (words_of state)) (at (sent_of state)) g.sent a live from in
      omega (arith, f.staged))

  pub sink_take : (m m₁ m₂ : Memory V) (w : ℕ) → Relaxes K B state m m₁ sink 0 (1 + node w 0) → Relaxes K B state m₁ m₂ (above B.parent w 0) (1 + node w 0) (2 + node w 0) → Relaxes K B state m m₂ sink 0 (1 + node (w + 1) 0)
  sink_take m m₁ m₂ w x y =
      let z = relaxes_more L B state m m₁ m₂ sink 0 _ _ x (moved_to m₁ m₂ _ _ _ _ _ _ (above_root B.parent w) refl refl y) in
      past m m₂ sink 0 _ _ z (λ origin begin g a live from h l.
      let f = falls_from_sink (softened B) g.fits.sound (word_at (words_of state)) (at (sent_of state)) g.sent a live from in
      omega (arith, f.staged))

  pub sink_end : (m m₁ : Memory V) (w : ℕ) → Relaxes K B state m m₁ sink 0 (1 + node w 0) → B.weekends ≤ w → Relaxes K B state m m₁ sink 0 stages
  sink_end m m₁ w x end = past m m₁ sink 0 _ _ x (λ origin begin g a live from h l.
      let f = falls_from_sink (softened B) g.fits.sound (word_at (words_of state)) (at (sent_of state)) g.sent a live from in
      omega (arith, f.staged, f.known))

  -- ---- the moves of the book b
  module _ (b : ℕ) (lb : b < B.books) (sent : at (sent_of state) b < B.weekends) where
    pub of_skip : (m m₁ : Memory V) (x : ℕ) → Relaxes K B state m m₁ (node (at (sent_of state) b) (B.class b)) (129 + b * 16) (129 + (b * 16 + x)) → x < B.weekends → word_at (words_of state) b x ≡ false →
        Relaxes K B state m m₁ (node (at (sent_of state) b) (B.class b)) (129 + b * 16) (129 + (b * 16 + (x + 1)))
    of_skip m m₁ x y lx shut = past m m₁ _ _ _ _ y (λ origin begin g a live from h l.
        let s = g.fits.sound in
        let f = moves_from (softened B) s (word_at (words_of state)) (at (sent_of state)) g.sent _ _ (omega (arith, s.weekends)) (omega (arith, s.classed b lb, s.classes)) a live from (omega arith) in
        let j : f.book ≡ b = omega (arith, f.staged, f.within, s.weekends) in
        let z : f.to ≡ x = omega (arith, f.staged, f.within, s.weekends) in
        both_ways (word_at (words_of state) b x) shut (ap₂ (word_at (words_of state)) (sym j) (sym z) ∙ f.allowed))

    pub of_take : (m m₁ m₂ : Memory V) (x : ℕ) → Relaxes K B state m m₁ (node (at (sent_of state) b) (B.class b)) (129 + b * 16) (129 + (b * 16 + x)) → Relaxes K B state m₁ m₂ (node (at (sent_of state) b) (B.class b)) (129 + (b * 16 + x)) (130 + (b * 16 + x)) →
        Relaxes K B state m m₂ (node (at (sent_of state) b) (B.class b)) (129 + b * 16) (129 + (b * 16 + (x + 1)))
    of_take m m₁ m₂ x y z = relaxes_more L B state m m₁ m₂ _ _ _ _ y (moved_to m₁ m₂ _ _ _ _ _ _ refl refl (omega arith) z)

    pub of_end : (m m₁ : Memory V) (x : ℕ) → Relaxes K B state m m₁ (node (at (sent_of state) b) (B.class b)) (129 + b * 16) (129 + (b * 16 + x)) → B.weekends ≤ x →
        Relaxes K B state m m₁ (node (at (sent_of state) b) (B.class b)) (129 + b * 16) (129 + (b + 1) * 16)
    of_end m m₁ x y end = past m m₁ _ _ _ _ y (λ origin begin g a live from h l.
        let s = g.fits.sound in
        let f = moves_from (softened B) s (word_at (words_of state)) (at (sent_of state)) g.sent _ _ (omega (arith, s.weekends)) (omega (arith, s.classed b lb, s.classes)) a live from (omega arith) in
        omega (arith, f.staged, f.within, s.weekends))

  -- ---- the moves out of the node of w and c
  module _ (w c : ℕ) (lw : w < B.weekends) (lc : c < B.classes) where
    pub moves_skip : (m m₁ : Memory V) (b : ℕ) → Relaxes K B state m m₁ (node w c) 129 (129 + b * 16) → (eqb (at (sent_of state) b) w && eqb (B.class b) c) ≡ false → Relaxes K B state m m₁ (node w c) 129 (129 + (b + 1) * 16)
    moves_skip m m₁ b x off = past m m₁ _ _ _ _ x (λ origin begin g a live from h l.
        let s = g.fits.sound in
        let f = moves_from (softened B) s (word_at (words_of state)) (at (sent_of state)) g.sent w c (omega (arith, s.weekends)) (omega (arith, s.classes)) a live from (omega arith) in
        let j : f.book ≡ b = omega (arith, f.staged, f.within, s.weekends) in
        both_ways _ off (and_from _ _ (eq-eqb (at (sent_of state) b) w (ap (at (sent_of state)) (sym j) ∙ f.stands)) (eq-eqb (B.class b) c (ap B.class (sym j) ∙ f.classed))))

    pub moves_take : (m m₁ m₂ : Memory V) (b : ℕ) → Relaxes K B state m m₁ (node w c) 129 (129 + b * 16) → (eqb (at (sent_of state) b) w && eqb (B.class b) c) ≡ true →
        Relaxes K B state m₁ m₂ (node (at (sent_of state) b) (B.class b)) (129 + b * 16) (129 + (b + 1) * 16) → Relaxes K B state m m₂ (node w c) 129 (129 + (b + 1) * 16)
    moves_take m m₁ m₂ b x on y =
        let parts = and_parts _ _ on in
        relaxes_more L B state m m₁ m₂ _ _ _ _ x (moved_to m₁ m₂ _ _ _ _ _ _ (ap₂ node (eqb-true (at (sent_of state) b) w parts.0) (eqb-true (B.class b) c parts.1)) refl refl y)

    pub moves_end : (m m₁ : Memory V) (b : ℕ) → Relaxes K B state m m₁ (node w c) 129 (129 + b * 16) → B.books ≤ b → Relaxes K B state m m₁ (node w c) 129 stages
    moves_end m m₁ b x end = past m m₁ _ _ _ _ x (λ origin begin g a live from h l.
        let s = g.fits.sound in
        let f = moves_from (softened B) s (word_at (words_of state)) (at (sent_of state)) g.sent w c (omega (arith, s.weekends)) (omega (arith, s.classes)) a live from (omega arith) in
        omega (arith, f.staged, f.books))

    -- ---- all arcs out of the node of w and c
    pub relaxes_all : (m m₁ m₂ m₃ : Memory V) → Relaxes K B state m m₁ (node w c) 0 1 → Relaxes K B state m₁ m₂ (node w c) 1 129 → Relaxes K B state m₂ m₃ (node w c) 129 stages → Relaxes K B state m m₃ (node w c) 0 stages
    relaxes_all m m₁ m₂ m₃ x y z = relaxes_more L B state m m₂ m₃ _ _ _ _ (relaxes_more L B state m m₁ m₂ _ _ _ _ x y) z

  -- ---- a number that is no class's node
  pub none_there : (m : Memory V) (v : ℕ) → v < 128 → ((w c : ℕ) → w < B.weekends → c < B.classes → v ≡ node w c → ⊥) → Relaxes K B state m m v 0 stages
  none_there m v lv apart = relaxes_none L B state m v 0 stages (λ origin begin g a live from h l.
      none_from (softened B) g.fits.sound (word_at (words_of state)) (at (sent_of state)) g.sent v lv apart a live from)
