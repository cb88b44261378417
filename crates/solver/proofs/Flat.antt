-- The labels of a start: they are given node by node, and where all are given they are valid. Assumes nothing.
use Rattle.std.proofs.Common.{◌≡◌, ℕ, ◌+◌, ◌<◌, ◌≤◌, length, sym, refl, ap, ◌∙◌, subst, inr, ⊎_elim, arith}
use Rattle.std.proofs.lemmas.Bool.{cases_lt, cases_eq, lt-ltb, le-ltb}
use Rattle.amounts.specs.declared.money.Money.{Money}
use Rattle.amounts.specs.declared.ranked.Ranked.{Ranked}
use Rattle.amounts.specs.Kind.{Kind, Lawful, law_limit, AtMost}
use Rattle.amounts.proofs.Order.{unit_left, inverse_left}
use Rattle.plans.specs.declared.class_tree.Roster.{Roster}
use Rattle.plans.specs.declared.bound_table.Bounds.{Bounds}
use Rattle.plans.specs.Places.{at}
use Rattle.plans.specs.Posed.{Meaning, problem}
use Rattle.plans.specs.Problem.{Problem}
use Rattle.plans.specs.Theorems.{Sound}
use Rattle.plans.proofs.Posing.{bounds_straight, assigned_is}
use Rattle.solver.specs.declared.state.State.{State}
use Rattle.solver.specs.Soft.{rise, fall, soft_kind, violation, softened}
use Rattle.solver.specs.Residual.{node, sink, above, LightLabels}
use Rattle.solver.specs.Search.{nodes}
use Rattle.solver.specs.Flows.{soft_charges, Stepped}
use Rattle.solver.specs.Held.{label, Memory, written, old_of, word_at, ShownIn}
use Rattle.solver.specs.Starting.{Begun}
use Rattle.solver.specs.Levels.{level, entry, under, Labelled, Flat}
use Rattle.solver.proofs.Above.{above_root, above_other}
use Rattle.solver.proofs.Banks.{bank_first, bank_set_other, front_set}
use Rattle.solver.proofs.Begin.{soft_fits, cold_valid}
use Rattle.solver.proofs.Rises.{rise_under, rise_inside, rise_over, fall_under, fall_inside, fall_over}
use Rattle.solver.proofs.Soft.{soft_lawful, one_light, one_positive}
use Rattle.solver.specs.States.{sent_of, words_of}

-- ---- the entry, case by case
module _ {V : Type 0} (K : Kind V) (one : V) (lower upper m : ℕ) where
  pub level_under : m < lower → level K one lower upper m ≡ K.minus one
  unfolding level
  level_under h = rw (lt-ltb m lower h) refl

  pub level_inside : lower ≤ m → m ≤ upper → level K one lower upper m ≡ K.none
  unfolding level
  level_inside h g = rw (le-ltb m lower h, le-ltb upper m g) refl

  pub level_over : lower ≤ m → upper < m → level K one lower upper m ≡ one
  unfolding level
  level_over h g = rw (le-ltb m lower h, lt-ltb upper m g) refl

-- ---- it is light, and between the last step and the next
module _ {V : Type 0} {K : Kind V} (L : Lawful K) (one : V) (small : K.weight one ≤ 1) (lower upper m : ℕ) where
  open K use {none, plus, minus, weight}

  level_light : weight (level K one lower upper m) ≤ 1
  unfolding law_limit
  level_light = ⊎_elim
      (λ (h : m < lower). rw (level_under K one lower upper m h) (omega (arith, L.minus_weight one (omega arith))))
      (λ (h : lower ≤ m). ⊎_elim
      (λ (g : upper < m). rw (level_over K one lower upper m h g) small)
      (λ (g : m ≤ upper). rw (level_inside K one lower upper m h g) (omega (arith, L.none_weight)))
      (cases_lt upper m))
      (cases_lt m lower)

  module _ (positive : AtMost K none one) where
    level_next : AtMost K (level K one lower upper m) (rise K one lower upper m)
    level_next = ⊎_elim
        (λ (h : m < lower). rw (level_under K one lower upper m h, rise_under K one lower upper m h) (inr refl))
        (λ (h : lower ≤ m). ⊎_elim
        (λ (g : upper < m). rw (level_over K one lower upper m h g, rise_over K one lower upper m h (omega arith)) (inr refl))
        (λ (g : m ≤ upper). rw (level_inside K one lower upper m h g) (⊎_elim
        (λ (i : m < upper). rw (rise_inside K one lower upper m h i) (inr refl))
        (λ (i : upper ≤ m). rw (rise_over K one lower upper m h i) positive)
        (cases_lt m upper)))
        (cases_lt upper m))
        (cases_lt m lower)

    level_last : lower ≤ upper → AtMost K none (plus (level K one lower upper m) (fall K one lower upper m))
    unfolding law_limit
    level_last straight = ⊎_elim
        (λ (h : m < lower). rw (level_under K one lower upper m h, fall_under K one lower upper m (omega arith)) (inr (sym (inverse_left L one (omega arith)))))
        (λ (h : lower ≤ m). ⊎_elim
        (λ (g : upper < m). rw (level_over K one lower upper m h g, fall_over K one lower upper m (omega arith) g) (inr (sym (L.inverse one (omega arith)))))
        (λ (g : m ≤ upper). rw (level_inside K one lower upper m h g) (⊎_elim
        (λ (i : lower < m). rw (fall_inside K one lower upper m i g) (inr (sym (unit_left L none (omega (arith, L.none_weight))))))
        (λ (i : m ≤ lower). rw (fall_under K one lower upper m i, unit_left L one (omega arith)) positive)
        (cases_lt lower m)))
        (cases_lt upper m))
        (cases_lt m lower)

module _ {V : Type 0} {K : Kind V} (L : Lawful K) (B : Problem V) (f : ℕ → ℕ) where
  -- with these entries a label that is given steps from the one above
  stepped : (l : ℕ → Ranked Money V) (w c : ℕ) → B.lower w c ≤ B.upper w c → l (node w c) ≡ under K B f l w c → Stepped (soft_kind K) (softened B) (soft_charges K B) l f w c (entry K B f w c)
  stepped l w c straight e =
      let o = one_light L in
      record {
        label = e;
        light = omega (arith, level_light (soft_lawful L) (violation K) (omega arith) (B.lower w c) (B.upper w c) (f (node w c)));
        next = level_next (soft_lawful L) (violation K) (omega arith) (B.lower w c) (B.upper w c) (f (node w c)) (one_positive L);
        last = level_last (soft_lawful L) (violation K) (omega arith) (B.lower w c) (B.upper w c) (f (node w c)) (one_positive L) straight;
      }

  -- ---- the labels are given node by node
  module _ (s : Sound K B) where
    -- a node is not above itself, nor above one before it
    above_apart : (w c w' c' : ℕ) → w < B.weekends → c < B.classes → w' < B.weekends → c' < B.classes → node w' c' ≤ node w c → above B.parent w' c' ≡ node w c → ⊥
    above_apart w c w' c' lw lc lw' lc' h e = ⊎_elim
        (λ (p : 0 < c'). omega (arith, above_other B.parent w' c' p, s.above c' p lc'))
        (λ (z : c' ≤ 0).
        let r : c' ≡ 0 = omega arith in
        omega (arith, ap (above B.parent w') r ∙ above_root B.parent w', s.weekends, s.classes))
        (cases_lt 0 c')

    -- the label above weighs at most as much as the number of the class: a parent has a smaller number
    above_light : (l : ℕ → Ranked Money V) (n w c : ℕ) → c < B.classes → Flat K B f l n → (soft_kind K).weight (l (above B.parent w c)) ≤ c
    above_light l n w c lc i = ⊎_elim
        (λ (p : 0 < c).
        let a = s.above c p lc in
        let k = s.classes in
        rw (above_other B.parent w c p) (omega (arith, i.light (node w (B.parent c)))))
        (λ (z : c ≤ 0).
        let r : c ≡ 0 = omega arith in
        rw (ap (above B.parent w) r ∙ above_root B.parent w, i.top) (omega (arith, (soft_lawful L).none_weight)))
        (cases_lt 0 c)

    -- one more label is given
    pub flat_next : (l l' : ℕ → Ranked Money V) (w c : ℕ) → w < B.weekends → c < B.classes → Flat K B f l (node w c) → Labelled K B f l l' w c → Flat K B f l' (node w (c + 1))
    unfolding law_limit
    flat_next l l' w c lw lc i d =
        let weeks = s.weekends in
        let few = s.classes in
        record {
          top = d.others sink (λ e. omega arith) ∙ i.top;
          light = λ v. ⊎_elim
              (λ (q : v ≡ node w c).
              let a = above_light l (node w c) w c lc i in
              let o = one_light L in
              let e = level_light (soft_lawful L) (violation K) (omega arith) (B.lower w c) (B.upper w c) (f (node w c)) in
              let m = (soft_lawful L).minus_weight (entry K B f w c) (omega arith) in
              let p = (soft_lawful L).plus_weight (l (above B.parent w c)) ((soft_kind K).minus (entry K B f w c)) (omega arith) in
              rw (q, d.here) (omega arith))
              (λ (n : v ≡ node w c → ⊥). rw (d.others v n) (i.light v))
              (cases_eq v (node w c));
          labels = λ w' c' lw' lc' h.
              let AboveSame = λ (le : node w' c' ≤ node w c). d.others (above B.parent w' c') (above_apart w c w' c' lw lc lw' lc' le) in
              ⊎_elim
              (λ (q : node w' c' ≡ node w c).
              let x : w' ≡ w = omega arith in
              let y : c' ≡ c = omega arith in
              rw (AboveSame (omega arith)) (rw (x, y) d.here))
              (λ (n : node w' c' ≡ node w c → ⊥). rw (AboveSame (omega arith)) (d.others (node w' c') n ∙ i.labels w' c' lw' lc' (omega arith)))
              (cases_eq (node w' c') (node w c));
        }

-- ---- a label as it stands in the lists
module _ {V : Type 0} (K : Kind V) (B : Problem V) (f : ℕ → ℕ) where
  -- what was read above
  pub read_above : (m : Memory V) (w c u : ℕ) (x : Ranked Money V) → u ≤ 128 → u ≡ above B.parent w c → x ≡ label K m.heads m.sheet u → x ≡ old_of K m (above B.parent w c)
  read_above m w c u x h e q = q ∙ sym (bank_first K m.heads m.sheet u (omega arith)) ∙ ap (old_of K m) e

  -- what was written
  pub labelled_write : (m m₁ m' : Memory V) (w c n : ℕ) (x : Ranked Money V) → m₁ ≡ m → n < nodes → n ≡ node w c → length m.heads ≡ 258 → 258 ≤ length m.sheet →
      m' ≡ written m₁ n x → x ≡ under K B f (old_of K m) w c → Labelled K B f (old_of K m) (old_of K m') w c
  labelled_write m m₁ m' w c n x same ln at_n hl sl is e =
      let here : Labelled K B f (old_of K m) (old_of K (written m n x)) w c = record {
        here = ap (old_of K (written m n x)) (sym at_n) ∙ front_set K m.heads m.sheet n x ln hl sl ∙ e;
        others = λ v d. bank_set_other K 0 m.heads m.sheet n v x (λ _ z. d (omega arith));
      } in
      subst (λ m'. Labelled K B f (old_of K m) (old_of K m') w c) (sym (is ∙ ap (λ m. written m n x) same)) here

-- ---- all labels are given, and the assignment is one that a search may start from
pub flat_shown : {V : Type 0} {K : Kind V} (L : Lawful K) (source : Meaning V) (roster : Roster) (bounds : Bounds) (limit : V) (state : State) (l : ℕ → Ranked Money V) (n : ℕ) → Sound K (problem source roster bounds limit) →
    Begun source roster state → node source.weekends 0 ≤ n → Flat K (problem source roster bounds limit) (at state.counts) l n → ShownIn K (problem source roster bounds limit) state l
flat_shown {K = K} L source roster bounds limit state l n s begun all i =
    let B = problem source roster bounds limit in
    let few = s.classes in
    let light : LightLabels (soft_kind K) (softened B) l = λ v. omega (arith, i.light v) in
    record {
      light = light;
      inside = record { sent = begun.sent; meets = begun.own };
      counts = λ w c lw lc. begun.counts w c (omega (arith, s.weekends)) (omega arith) ∙ sym ((assigned_is K source roster bounds limit (sent_of state)).1 w c);
      valid = cold_valid (soft_lawful L) (softened B) (soft_charges K B) (soft_fits L B s (λ w c _ _. bounds_straight bounds w c)) (word_at (words_of state)) l (entry K B (at state.counts)) (at (sent_of state)) (at state.counts) light begun.sent begun.fixed
          (λ w c lw lc. stepped L B (at state.counts) l w c (bounds_straight bounds w c) (i.labels w c lw lc (omega arith)));
    }
