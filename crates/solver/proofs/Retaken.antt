-- A book that stays or is taken elsewhere, and labels found anew: the labels show the assignment least as before. Assumes nothing.
use Rattle.std.proofs.Common.{◌≡◌, ℕ, ◌^◌, ◌<◌, ◌≤◌, Bool, true, List, length, set, replicate, Some, None, sym, ap, ◌∙◌, subst, subst₂, ⊎_elim, arith}
use Rattle.std.proofs.lemmas.List.{get_or-set_same, get_or-set_other}
use Rattle.std.proofs.lemmas.Bool.{cases_eq}
use Rattle.amounts.specs.declared.money.Money.{Money}
use Rattle.amounts.specs.declared.ranked.Ranked.{Ranked}
use Rattle.amounts.specs.Kind.{Kind, Lawful, AtMost}
use Rattle.sources.specs.Tables.{bit_at}
use Rattle.plans.specs.Places.{at}
use Rattle.plans.specs.Problem.{Problem, member, count}
use Rattle.plans.specs.Theorems.{Sound}
use Rattle.solver.specs.declared.marks.Mark.{Mark}
use Rattle.solver.specs.declared.state.State.{State}
use Rattle.solver.specs.Soft.{soft_kind, softened}
use Rattle.solver.specs.Residual.{node, quoted, moving, Counts}
use Rattle.solver.specs.Search.{nodes}
use Rattle.solver.specs.Flows.{Straight, Shown, soft_charges}
use Rattle.solver.specs.Held.{Memory, old_of, new_of, seen_of, rank_of, via_of, word_at, SearchableIn, Searches, ShownIn, Walkable}
use Rattle.solver.specs.Reassigning.{Started, Stays}
use Rattle.solver.proofs.Soft.{soft_lawful}
use Rattle.solver.proofs.Stated.{words_long}
use Rattle.solver.proofs.Optimal.{quoted_light}
use Rattle.solver.proofs.Violations.{inside_soft, softened_sound}
use Rattle.solver.proofs.Begin.{soft_fits}
use Rattle.solver.proofs.Marked.{all_seen, all_unranked, all_starts}
use Rattle.solver.proofs.Reassign.{search_ends, walk_begins}
use Rattle.solver.specs.States.{sent_of, words_of}

-- the word of b is written
word_here : (words : List ℕ) (b into x : ℕ) → b < length words → word_at (set words b into) b x ≡ bit_at into x
word_here words b into x h = ap (λ w. bit_at w x) (get_or-set_same words b into 0 h)

word_there : (words : List ℕ) (b into j x : ℕ) → (j ≡ b → ⊥) → word_at (set words b into) j x ≡ word_at words j x
word_there words b into j x d = ap (λ w. bit_at w x) (get_or-set_other words b j into 0 d)

module _ {V : Type 0} {K : Kind V} (L : Lawful K) (B : Problem V) (s : Sound K B) where
  counts_soft : (p f : ℕ → ℕ) → Counts B p f → Counts (softened B) p f
  unfolding count member
  counts_soft p f c = c

  -- the book stays
  stayed : (state : State) (l : ℕ → Ranked Money V) (b into : ℕ) → b < B.books → ShownIn K B state l → Stays K B state l b into → Shown K B (word_at (set (words_of state) b into)) l (at (sent_of state)) (at state.counts)
  stayed state l b into lb shown stays =
      let few = s.books in
      let lw : b < length (words_of state) = omega (arith, words_long state) in record {
        light = shown.light;
        inside = record {
          sent = shown.inside.sent;
          meets = λ j lj. ⊎_elim
              (λ (e : j ≡ b). subst (λ j. word_at (set (words_of state) b into) j (at (sent_of state) j) ≡ true) (sym e) (word_here (words_of state) b into (at (sent_of state) b) lw ∙ stays.own))
              (λ (d : j ≡ b → ⊥). word_there (words_of state) b into j (at (sent_of state) j) d ∙ shown.inside.meets j lj) (cases_eq j b);
        };
        counts = shown.counts;
        valid = record {
          rising = shown.valid.rising;
          falling = shown.valid.falling;
          moved = λ j x lj lx m. ⊎_elim
              (λ (e : j ≡ b). subst (λ j. word_at (set (words_of state) b into) j x ≡ true → AtMost (soft_kind K) (l (node x (B.class j))) ((soft_kind K).plus (l (node (at (sent_of state) j) (B.class j))) (moving (soft_kind K) (softened B) j (at (sent_of state) j) x))) (sym e)
              (λ m. stays.moved s shown.light x lx (sym (word_here (words_of state) b into x lw) ∙ m)) m)
              (λ (d : j ≡ b → ⊥). shown.valid.moved j x lj lx (sym (word_there (words_of state) b into j x d) ∙ m)) (cases_eq j b);
        };
      }

  pub stay_shown : (state state' : State) (l l' : ℕ → Ranked Money V) (b into : ℕ) → b < B.books → ShownIn K B state l → Stays K B state l b into → (sent_of state') ≡ (sent_of state) → state'.counts ≡ state.counts → (words_of state') ≡ set (words_of state) b into → l' ≡ l →
      ShownIn K B state' l'
  stay_shown state state' l l' b into lb shown stays e f w q =
      let x = stayed state l b into lb shown stays in
      let x₁ = subst (λ ws. Shown K B (word_at ws) l (at (sent_of state)) (at state.counts)) (sym w) x in
      let x₂ = subst₂ (λ ps fs. Shown K B (word_at (words_of state')) l (at ps) (at fs)) (sym e) (sym f) x₁ in
      subst (λ l. Shown K B (word_at (words_of state')) l (at (sent_of state')) (at state'.counts)) (sym q) x₂

  -- a search may be made where the labels show the state least
  searchable : Straight K B → (state : State) (origin : ℕ → Bool) (begin l : ℕ → Ranked Money V) → ShownIn K B state l → ((v : ℕ) → (soft_kind K).weight (begin v) ≤ 10 ^ 9) → SearchableIn K B state origin begin l
  searchable straight state origin begin l shown light = record { fits = soft_fits L B s straight; sent = shown.inside.sent; valid = shown.valid; light = shown.light; begins = λ v s h. rw h.2 (light v) }

  -- the book's search has ended: it may be taken back
  pub walkable : Straight K B → (state : State) (m₀ m₁ m₂ : Memory V) (b into x₀ : ℕ) → b < B.books → x₀ < B.weekends → bit_at into x₀ ≡ true → ShownIn K B state (old_of K m₀) → Started K B m₀ m₁ b into → Searches K B state m₁ m₂ → Walkable K B state m₂ b into
  walkable straight state m₀ m₁ m₂ b into x₀ lb lx ix shown₀ st se =
      let shown : ShownIn K B state (old_of K m₁) = subst (ShownIn K B state) (sym st.old) shown₀ in
      let quotes : (x : ℕ) → x < B.weekends → (soft_kind K).weight (quoted (soft_kind K) (softened B) b x) ≤ 10 ^ 9 = λ x hx. quoted_light (soft_lawful L) (softened B) (softened_sound L B s) b x lb hx in
      let light = st.light quotes in
      let g = searchable straight state (seen_of m₁) (new_of K m₁) (old_of K m₁) shown light in
      let e = se.ended g st.late st.fresh light in
      record {
        book = lb;
        fits = soft_fits L B s straight;
        ended = walk_begins (soft_lawful L) (softened B) (soft_charges K B) (word_at (words_of state)) b (seen_of m₁) (bit_at into) (new_of K m₁) (quoted (soft_kind K) (softened B) b) (at (sent_of state)) (at state.counts) (old_of K m₁) lb
            (inside_soft B (word_at (words_of state)) (at (sent_of state)) shown.inside) (counts_soft (at (sent_of state)) (at state.counts) shown.counts) g st.starts x₀ lx ix e.0 (new_of K m₂) (seen_of m₂) (rank_of m₂) (via_of m₂) e.1 e.2;
      }

  -- a search from all nodes has ended: its labels show the state least, and are at most zero
  pub refreshed : Straight K B → (state : State) (m₀ m₁ m₂ : Memory V) → 0 < B.weekends → 0 < B.classes → ShownIn K B state (old_of K m₀) → old_of K m₁ ≡ old_of K m₀ → ((v : ℕ) → new_of K m₁ v ≡ (soft_kind K).none) →
      (mark : Mark) → m₁.marks ≡ replicate 129 (Some mark) → mark.rank ≡ None → mark.arc ≡ None → Searches K B state m₁ m₂ →
      ShownIn K B state (new_of K m₂) × ((v : ℕ) → v < nodes → AtMost (soft_kind K) (new_of K m₂ v) (soft_kind K).none)
  refreshed straight state m₀ m₁ m₂ lw lc shown₀ old new mark all unranked start se =
      let shown : ShownIn K B state (old_of K m₁) = subst (ShownIn K B state) (sym old) shown₀ in
      let light : (v : ℕ) → (soft_kind K).weight (new_of K m₁ v) ≤ 10 ^ 9 = λ v. omega (arith, ap (soft_kind K).weight (new v), (soft_lawful L).none_weight) in
      let g = searchable straight state (seen_of m₁) (new_of K m₁) (old_of K m₁) shown light in
      let seen = all_seen m₁ mark all in
      let e = se.ended g (all_unranked m₁ mark all unranked) (all_starts m₁ mark all start) light in
      let done = search_ends (soft_lawful L) (softened B) (soft_charges K B) (word_at (words_of state)) (seen_of m₁) (new_of K m₁) (at (sent_of state)) (at state.counts) (old_of K m₁) g 0 0 lw lc (seen 0 (omega arith)) e.0 (new_of K m₂) (seen_of m₂) (rank_of m₂) (via_of m₂) e.1 e.2 in
      (record { light = done.light; inside = shown.inside; counts = shown.counts; valid = done.valid }, λ v l. subst (AtMost (soft_kind K) (new_of K m₂ v)) (new v) (done.starts v l (seen v l)))
