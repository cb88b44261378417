-- The starts of a search, made weekend by weekend, and the moves by which a book stays, tried weekend by weekend. Assumes nothing.
use Rattle.std.proofs.Common.{◌≡◌, ℕ, ◌+◌, ◌<◌, ◌≤◌, true, false, length, replicate, is_some, None, sym, refl, ap, ◌∙◌, subst, subst₂, ⊎_elim, not-suc-le-zero, arith, below_more}
use Rattle.std.proofs.lemmas.Bool.{cases_eq, cases_Bool, both_ways}
use Rattle.amounts.specs.declared.money.Money.{Money}
use Rattle.amounts.specs.declared.ranked.Ranked.{Ranked}
use Rattle.amounts.specs.Kind.{Kind, Lawful, law_limit, AtMost}
use Rattle.amounts.proofs.Order.{at_most_from_le}
use Rattle.sources.specs.Tables.{bit_at}
use Rattle.plans.specs.Places.{at}
use Rattle.plans.specs.Problem.{Problem}
use Rattle.plans.specs.Theorems.{Sound}
use Rattle.solver.specs.declared.marks.Mark.{Mark}
use Rattle.solver.specs.declared.state.State.{State}
use Rattle.solver.specs.Soft.{soft_kind, softened}
use Rattle.solver.specs.Residual.{node, quoted, moving, LightLabels}
use Rattle.solver.specs.Search.{nodes}
use Rattle.solver.specs.Held.{label, Memory, written, marked, arc_in, old_of, new_of, seen_of, rank_of, via_of}
use Rattle.solver.specs.Reassigning.{Started, Stays, stays_by}
use Rattle.solver.proofs.Soft.{soft_lawful}
use Rattle.solver.proofs.Optimal.{quoted_light}
use Rattle.solver.proofs.Violations.{softened_sound}
use Rattle.solver.proofs.Banks.{bank_first, bank_set_here, bank_set_other, old_kept}
use Rattle.solver.proofs.Marked.{none_seen, none_ranked, none_reached, seen_here, via_here, mark_there, ranks_kept}
use Rattle.solver.specs.States.{sent_of}

-- ---- the starts
module _ {V : Type 0} (K : Kind V) (B : Problem V) (b into : ℕ) where
  -- the first label at the weekend x
  abbrev first : ℕ → Ranked Money V
  first x = quoted (soft_kind K) (softened B) b x

  -- the node of the book's class at the weekend x
  abbrev home : ℕ → ℕ
  home x = node x (B.class b)

  -- the starts at the weekends below n are made, and nothing else
  pub record Starting (before after : Memory V) (n : ℕ) : Type 0 where
    pub old : old_of K after ≡ old_of K before
    pub only : (v : ℕ) → seen_of after v ≡ true → (x : ℕ) × (x < n) × (bit_at into x ≡ true) × (v ≡ home x) × (new_of K after v ≡ first x)
    pub each : (x : ℕ) → x < n → bit_at into x ≡ true → (seen_of after (home x) ≡ true) × (new_of K after (home x) ≡ first x)
    pub rest : (v : ℕ) → seen_of after v ≡ false → new_of K after v ≡ (soft_kind K).none
    pub ranks : (v : ℕ) → nodes ≤ rank_of after v
    pub arcs : (v : ℕ) → via_of after v ≡ None

  -- nothing has a label yet
  pub starting_none : (m : Memory V) → ((v : ℕ) → new_of K m v ≡ (soft_kind K).none) → m.marks ≡ replicate 129 None → Starting m m 0
  starting_none m blank none = record {
    old = refl;
    only = λ v e. absurd (both_ways (seen_of m v) (none_seen m none v) e);
    each = λ x l e. absurd (not-suc-le-zero l);
    rest = λ v e. blank v;
    ranks = λ v. omega (arith, none_ranked m none v);
    arcs = none_reached m none;
  }

  -- the weekend n is not in the word
  pub starting_skip : (before m : Memory V) (n : ℕ) → bit_at into n ≡ false → Starting before m n → Starting before m (n + 1)
  starting_skip before m n shut i = record {
    old = i.old;
    only = λ v e. let o = i.only v e in (o.0, omega (arith, o.1), o.2, o.3, o.4);
    each = below_more (λ x. bit_at into x ≡ true → (seen_of m (home x) ≡ true) × (new_of K m (home x) ≡ first x)) n i.each (λ e. absurd (both_ways (bit_at into n) shut e));
    rest = i.rest;
    ranks = i.ranks;
    arcs = i.arcs;
  }

  module _ (before m : Memory V) (mark : Mark) (n : ℕ) (room : home n < nodes) (hl : length m.heads ≡ 258) (sl : 258 ≤ length m.sheet) (ml : length m.marks ≡ 129) (unranked : mark.rank ≡ None) (start : mark.arc ≡ None) (i : Starting before m n) where
    -- with one more label
    abbrev with_label : Memory V
    with_label = written m (nodes + home n) (first n)

    -- the memory with one more start
    abbrev with_start : Memory V
    with_start = marked with_label (home n) mark

    label_here : new_of K with_start (home n) ≡ first n
    label_here = bank_set_here K nodes m.heads m.sheet (home n) (first n) room (omega arith) (omega arith)

    start_seen : seen_of with_start (home n) ≡ true
    start_seen = seen_here with_label (home n) mark (omega arith)

    label_other : (v : ℕ) → (v ≡ home n → ⊥) → new_of K with_start v ≡ new_of K m v
    label_other v d = bank_set_other K nodes m.heads m.sheet (nodes + home n) v (first n) (λ _ e. d (omega arith))

    seen_other : (v : ℕ) → (v ≡ home n → ⊥) → seen_of with_start v ≡ seen_of m v
    seen_other v d = ap is_some (mark_there with_label (home n) mark v d)

    only_these : bit_at into n ≡ true → (v : ℕ) → seen_of with_start v ≡ true → (x : ℕ) × (x < n + 1) × (bit_at into x ≡ true) × (v ≡ home x) × (new_of K with_start v ≡ first x)
    only_these inside v s = ⊎_elim
        (λ (e : v ≡ home n). (n, omega arith, inside, e, ap (new_of K with_start) e ∙ label_here))
        (λ (d : v ≡ home n → ⊥). let o = i.only v (sym (seen_other v d) ∙ s) in (o.0, omega (arith, o.1), o.2, o.3, label_other v d ∙ o.4))
        (cases_eq v (home n))

    each_more : (x : ℕ) → x < n + 1 → bit_at into x ≡ true → (seen_of with_start (home x) ≡ true) × (new_of K with_start (home x) ≡ first x)
    each_more = below_more (λ x. bit_at into x ≡ true → (seen_of with_start (home x) ≡ true) × (new_of K with_start (home x) ≡ first x)) n
        (λ x l e. let d : home x ≡ home n → ⊥ = λ q. omega arith in let o = i.each x l e in (seen_other (home x) d ∙ o.0, label_other (home x) d ∙ o.1))
        (λ _. (start_seen, label_here))

    rest_blank : (v : ℕ) → seen_of with_start v ≡ false → new_of K with_start v ≡ (soft_kind K).none
    rest_blank v s = ⊎_elim
        (λ (e : v ≡ home n). absurd (both_ways (seen_of with_start v) s (ap (seen_of with_start) e ∙ start_seen)))
        (λ (d : v ≡ home n → ⊥). label_other v d ∙ i.rest v (sym (seen_other v d) ∙ s))
        (cases_eq v (home n))

    starting_set : bit_at into n ≡ true → Starting before with_start (n + 1)
    starting_set inside = record {
      old = old_kept K m.heads m.sheet (nodes + home n) (first n) (omega arith) ∙ i.old;
      only = only_these inside;
      each = each_more;
      rest = rest_blank;
      ranks = λ v. omega (arith, i.ranks v, ranks_kept with_label (home n) mark (omega arith) unranked (i.ranks (home n)) v);
      arcs = λ v. ⊎_elim
          (λ (e : v ≡ home n). ap (via_of with_start) e ∙ via_here with_label (home n) mark (omega arith) ∙ start)
          (λ (d : v ≡ home n → ⊥). ap arc_in (mark_there with_label (home n) mark v d) ∙ i.arcs v)
          (cases_eq v (home n));
    }

  -- a start is made at the weekend n, as the code makes it
  pub starting_more : (before m m' : Memory V) (mark : Mark) (n v : ℕ) (x : Ranked Money V) → v < nodes → length m.heads ≡ 258 → 258 ≤ length m.sheet → length m.marks ≡ 129 → mark.rank ≡ None → mark.arc ≡ None → bit_at into n ≡ true → v ≡ home n → x ≡ first n →
      m' ≡ marked (written m (nodes + v) x) v mark → Starting before m n → Starting before m' (n + 1)
  starting_more before m m' mark n v x lv hl sl ml r a inside e q is i =
      let made = subst₂ (λ v x. Starting before (marked (written m (nodes + v) x) v mark) (n + 1)) (sym e) (sym q) (starting_set before m mark n (omega arith) hl sl ml r a i inside) in
      subst (λ m. Starting before m (n + 1)) (sym is) made

-- all starts are made, after the labels of `before` were blanked
pub started : {V : Type 0} {K : Kind V} → Lawful K → (B : Problem V) (b into : ℕ) (before blanked after : Memory V) (n : ℕ) → n ≡ B.weekends → old_of K blanked ≡ old_of K before → Starting K B b into blanked after n → Started K B before after b into
started {K = K} L B b into before blanked after n end old i = record {
  old = i.old ∙ old;
  starts = record {
    only = λ v e. let o = i.only v e in (o.0, omega (arith, o.1), o.2, o.3, o.4);
    each = λ x l e. i.each x (omega arith) e;
  };
  late = i.ranks;
  fresh = i.arcs;
  light = λ quotes v. ⊎_elim
      (λ (e : seen_of after v ≡ true). let o = i.only v e in omega (arith, quotes o.0 (omega (arith, o.1)), ap (soft_kind K).weight o.4))
      (λ (e : seen_of after v ≡ false). omega (arith, (soft_lawful L).none_weight, ap (soft_kind K).weight (i.rest v e)))
      (cases_Bool (seen_of after v));
}

-- ---- a book that stays
-- a label that was read is the old label of the node
pub read_old : {V : Type 0} (K : Kind V) (m m₁ : Memory V) (n u : ℕ) (x : Ranked Money V) → m₁ ≡ m → u < nodes → n ≡ u → x ≡ label K m₁.heads m₁.sheet n → x ≡ old_of K m u
read_old K m m₁ n u x same l e q = q ∙ ap (λ m. label K m.heads m.sheet n) same ∙ ap (label K m.heads m.sheet) e ∙ sym (bank_first K m.heads m.sheet u l)

module _ {V : Type 0} (K : Kind V) (B : Problem V) (state : State) (l : ℕ → Ranked Money V) (b into : ℕ) where
  -- the book stays by the moves to the weekends of the word that are below n
  abbrev pub Tried : ℕ → Type 0
  Tried n = (x : ℕ) → x < n → bit_at into x ≡ true → stays_by K B state l b x ≡ true

  pub tried_skip : (n : ℕ) → bit_at into n ≡ false → Tried n → Tried (n + 1)
  tried_skip n shut i = below_more (λ x. bit_at into x ≡ true → stays_by K B state l b x ≡ true) n i (λ e. absurd (both_ways (bit_at into n) shut e))

  pub tried_more : (n : ℕ) → stays_by K B state l b n ≡ true → Tried n → Tried (n + 1)
  tried_more n s i = below_more (λ x. bit_at into x ≡ true → stays_by K B state l b x ≡ true) n i (λ _. s)

module _ {V : Type 0} {K : Kind V} (L : Lawful K) (B : Problem V) (state : State) (l : ℕ → Ranked Money V) (b into : ℕ) where
  -- where all is light, the comparison says what it seems to say
  at_most : Sound K B → LightLabels (soft_kind K) (softened B) l → b < B.books → at (sent_of state) b < B.weekends → (x : ℕ) → x < B.weekends → stays_by K B state l b x ≡ true →
      AtMost (soft_kind K) (l (node x (B.class b))) ((soft_kind K).plus (l (node (at (sent_of state) b) (B.class b))) (moving (soft_kind K) (softened B) b (at (sent_of state) b) x))
  unfolding law_limit
  at_most s light lb lw x lx e =
      let L' = soft_lawful L in
      let S = softened_sound L B s in
      let y = at (sent_of state) b in
      let qx = quoted (soft_kind K) (softened B) b x in
      let qy = quoted (soft_kind K) (softened B) b y in
      let wx = quoted_light L' (softened B) S b x lb lx in
      let wy = quoted_light L' (softened B) S b y lb lw in
      let my = L'.minus_weight qy (omega arith) in
      let m = L'.plus_weight qx ((soft_kind K).minus qy) (omega arith) in
      let from = light (node y (B.class b)) in
      let to = light (node x (B.class b)) in
      at_most_from_le L' _ _ (omega (arith, L'.plus_weight (l (node y (B.class b))) (moving (soft_kind K) (softened B) b y x) (omega arith))) e

  pub tried_all : (n : ℕ) → B.weekends ≤ n → b < B.books → at (sent_of state) b < B.weekends → bit_at into (at (sent_of state) b) ≡ true → Tried K B state l b into n → Stays K B state l b into
  tried_all n end lb lw own i = record { own = own; moved = λ s light x lx e. at_most s light lb lw x lx (i x (omega arith) e) }
