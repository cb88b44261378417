-- Each step of the walk keeps the hole, the labels' validity, and the tightness of the arcs ahead. Assumes nothing.
use Rattle.std.proofs.Common.{◌≡◌, ℕ, zero, suc, ◌^◌, ◌<◌, ◌≤◌, Bool, true, [], ◌∷◌, Some, None, Option, sym, refl, ap, ◌∙◌, subst, subst₂, inr, ⊎_elim, arith}
use Rattle.std.proofs.lemmas.Bool.{cases_eq}
use Rattle.amounts.specs.Kind.{Kind, Lawful, law_limit, AtMost}
use Rattle.amounts.proofs.Solve.{var, ◌⊕◌, ⊖, linear}
use Rattle.solver.specs.declared.arcs.Arc.{Arc}
use Rattle.solver.specs.declared.arcs.Arc.TheVariants.{Rise, Fall, Move}
use Rattle.plans.specs.Problem.{Problem}
use Rattle.solver.specs.Residual.{node, above, Charges, Counts, Holed, ButFor, ButAt, Inside, quoted, moving, LightLabels, Fits, Valid}
use Rattle.solver.specs.Walk.{Reached, Walking}
use Rattle.solver.proofs.Hole.{hole}
use Rattle.solver.proofs.Optimal.{quoted_light}

module _ {V : Type 0} {K : Kind V} (L : Lawful K) (B : Problem V) (X : Charges V) (fits : Fits K B X) where
  same_node : (w c w₀ c₀ : ℕ) → c < B.classes → c₀ < B.classes → node w c ≡ node w₀ c₀ → (w ≡ w₀) × (c ≡ c₀)
  same_node w c w₀ c₀ h k e = let m = fits.sound.classes in (omega arith, omega arith)

  at_same : (P : ℕ → ℕ → Type 0) (w c w₀ c₀ : ℕ) → c < B.classes → c₀ < B.classes → node w c ≡ node w₀ c₀ → P w₀ c₀ → P w c
  at_same P w c w₀ c₀ h k e t = let s = same_node w c w₀ c₀ h k e in subst₂ P (sym s.0) (sym s.1) t

  -- a fall is no more than the one before it
  pub shrinks : (w c m : ℕ) → w < B.weekends → c < B.classes → AtMost K (X.fall w c (suc m)) (X.fall w c m)
  unfolding law_limit
  shrinks w c zero hw hc = (fits.convex w c hw hc).first
  shrinks w c (suc m) hw hc =
      let x = fits.convex w c hw hc in
      let a = x.rise_light m in
      let d = x.rise_light (suc m) in
      rw (x.back m, x.back (suc m)) (linear L (X.rise w c m ∷ X.rise w c (suc m) ∷ []) ((var 0, var 1) ∷ []) (⊖ (var 1)) (⊖ (var 0)) (x.grows m, tt) (omega arith) refl)

module _ {V : Type 0} {K : Kind V} (L : Lawful K) (B : Problem V) (X : Charges V) (fits : Fits K B X) (word : ℕ → ℕ → Bool) (k : ℕ) (into : ℕ → Bool) (begin : ℕ → V) (b : ℕ) (lb : b < B.books) (l : ℕ → V) (light : LightLabels K B l) (rank : ℕ → ℕ) (via : ℕ → Option Arc) where
  abbrev Walks : (ℕ → ℕ) → (ℕ → ℕ) → ℕ → Type 0
  Walks p f v = Walking K B X word k into begin l rank via b p f v

  abbrev Tights : (ℕ → ℕ) → (ℕ → ℕ) → ℕ → Option Arc → Type 0
  Tights p f v o = Reached K B X word k into begin l rank p f v o

  -- ---- the arc up from (w₀, c₀) is undone
  module _ (p f g : ℕ → ℕ) (v w₀ c₀ : ℕ) (lw : w₀ < B.weekends) (lc : c₀ < B.classes) (at : v ≡ above B.parent w₀ c₀) (lower : rank (node w₀ c₀) < rank v)
      (tight : l v ≡ K.plus (l (node w₀ c₀)) (X.rise w₀ c₀ (f (node w₀ c₀)))) (changed : g (node w₀ c₀) ≡ suc (f (node w₀ c₀))) (others : ButAt (node w₀ c₀) f g) (i : Walks p f v) where
    up_tight : l (above B.parent w₀ c₀) ≡ K.plus (l (node w₀ c₀)) (X.rise w₀ c₀ (f (node w₀ c₀)))
    up_tight = rw at at tight

    up_rising_here : AtMost K (l (above B.parent w₀ c₀)) (K.plus (l (node w₀ c₀)) (X.rise w₀ c₀ (g (node w₀ c₀))))
    unfolding law_limit
    up_rising_here =
        let x = fits.convex w₀ c₀ lw lc in
        let m = f (node w₀ c₀) in
        let a = light (above B.parent w₀ c₀) in
        let n = light (node w₀ c₀) in
        let r = x.rise_light m in
        let t = x.rise_light (suc m) in
        rw changed (linear L (l (above B.parent w₀ c₀) ∷ l (node w₀ c₀) ∷ X.rise w₀ c₀ m ∷ X.rise w₀ c₀ (suc m) ∷ []) ((var 0, var 1 ⊕ var 2) ∷ (var 2, var 3) ∷ []) (var 0) (var 1 ⊕ var 3) (inr up_tight, (x.grows m, tt)) (omega arith) refl)

    up_falling_here : AtMost K (l (node w₀ c₀)) (K.plus (l (above B.parent w₀ c₀)) (X.fall w₀ c₀ (g (node w₀ c₀))))
    unfolding law_limit
    up_falling_here =
        let x = fits.convex w₀ c₀ lw lc in
        let m = f (node w₀ c₀) in
        let a = light (above B.parent w₀ c₀) in
        let n = light (node w₀ c₀) in
        let r = x.rise_light m in
        rw (changed, x.back m) (linear L (l (above B.parent w₀ c₀) ∷ l (node w₀ c₀) ∷ X.rise w₀ c₀ m ∷ []) ((var 1 ⊕ var 2, var 0) ∷ []) (var 1) (var 0 ⊕ ⊖ (var 2)) (inr (sym up_tight), tt) (omega arith) refl)

    up_valid : Valid K B X word l p g
    up_valid = record {
      rising = λ w c hw hc. ⊎_elim (λ (e : node w c ≡ node w₀ c₀). at_same L B X fits (λ w c. AtMost K (l (above B.parent w c)) (K.plus (l (node w c)) (X.rise w c (g (node w c))))) w c w₀ c₀ hc lc e up_rising_here)
          (λ (d : node w c ≡ node w₀ c₀ → ⊥). rw (others (node w c) d) (i.valid.rising w c hw hc)) (cases_eq (node w c) (node w₀ c₀));
      falling = λ w c hw hc. ⊎_elim (λ (e : node w c ≡ node w₀ c₀). at_same L B X fits (λ w c. AtMost K (l (node w c)) (K.plus (l (above B.parent w c)) (X.fall w c (g (node w c))))) w c w₀ c₀ hc lc e up_falling_here)
          (λ (d : node w c ≡ node w₀ c₀ → ⊥). rw (others (node w c) d) (i.valid.falling w c hw hc)) (cases_eq (node w c) (node w₀ c₀));
      moved = i.valid.moved;
    }

    -- the arc ahead that would use this count again starts or ends too late
    up_ahead : (u : ℕ) (o : Option Arc) → rank u ≤ rank (node w₀ c₀) → Tights p f u o → Tights p g u o
    up_ahead u None h t = t
    up_ahead u (Some (Rise w c)) h t = (
      t.0,
      t.1,
      t.2,
      subst (λ m. l u ≡ K.plus (l (node w c)) (X.rise w c m)) (sym (others (node w c) (λ s.
          let z : u ≡ v = t.1 ∙ at_same L B X fits (λ w c. above B.parent w c ≡ above B.parent w₀ c₀) w c w₀ c₀ t.0.1 lc s refl ∙ sym at in
          let y : rank u ≡ rank v = ap rank z in omega arith))) t.3,
    )
    up_ahead u (Some (Fall w c)) h t = (
      t.0,
      t.1,
      t.2,
      subst (λ m. l u ≡ K.plus (l (above B.parent w c)) (X.fall w c m)) (sym (others (node w c) (λ s.
          let z : above B.parent w c ≡ v = at_same L B X fits (λ w c. above B.parent w c ≡ above B.parent w₀ c₀) w c w₀ c₀ t.0.1 lc s refl ∙ sym at in
          let y : rank (above B.parent w c) ≡ rank v = ap rank z in omega (arith, t.2)))) t.3,
    )
    up_ahead u (Some (Move j x)) h t = t

    pub step_up : Walks p g (node w₀ c₀)
    step_up = record {
      holed = (hole K B fits.sound).comes_down p f g b w₀ c₀ lc (subst (Holed B p f b) at i.holed) changed others;
      valid = up_valid;
      sent = i.sent;
      meets = i.meets;
      under = omega (arith, i.under);
      ahead = λ u h. up_ahead u (via u) h (i.ahead u (omega arith));
    }

  -- ---- the arc down into (w₀, c₀) is undone
  module _ (p f g : ℕ → ℕ) (v w₀ c₀ : ℕ) (lw : w₀ < B.weekends) (lc : c₀ < B.classes) (at : v ≡ node w₀ c₀) (lower : rank (above B.parent w₀ c₀) < rank v)
      (tight : l v ≡ K.plus (l (above B.parent w₀ c₀)) (X.fall w₀ c₀ (f (node w₀ c₀)))) (changed : f (node w₀ c₀) ≡ suc (g (node w₀ c₀))) (others : ButAt (node w₀ c₀) f g) (i : Walks p f v) where
    down_tight : l (node w₀ c₀) ≡ K.plus (l (above B.parent w₀ c₀)) (X.fall w₀ c₀ (suc (g (node w₀ c₀))))
    down_tight = rw (at, changed) at tight

    down_rising_here : AtMost K (l (above B.parent w₀ c₀)) (K.plus (l (node w₀ c₀)) (X.rise w₀ c₀ (g (node w₀ c₀))))
    unfolding law_limit
    down_rising_here =
        let x = fits.convex w₀ c₀ lw lc in
        let m = g (node w₀ c₀) in
        let a = light (above B.parent w₀ c₀) in
        let n = light (node w₀ c₀) in
        let r = x.rise_light m in
        let t : l (node w₀ c₀) ≡ K.plus (l (above B.parent w₀ c₀)) (K.minus (X.rise w₀ c₀ m)) = down_tight ∙ ap (K.plus (l (above B.parent w₀ c₀))) (x.back m) in
        linear L (l (above B.parent w₀ c₀) ∷ l (node w₀ c₀) ∷ X.rise w₀ c₀ m ∷ []) ((var 0 ⊕ ⊖ (var 2), var 1) ∷ []) (var 0) (var 1 ⊕ var 2) (inr (sym t), tt) (omega arith) refl

    down_falling_here : AtMost K (l (node w₀ c₀)) (K.plus (l (above B.parent w₀ c₀)) (X.fall w₀ c₀ (g (node w₀ c₀))))
    unfolding law_limit
    down_falling_here =
        let x = fits.convex w₀ c₀ lw lc in
        let m = g (node w₀ c₀) in
        let a = light (above B.parent w₀ c₀) in
        let n = light (node w₀ c₀) in
        let r = x.fall_light m in
        let t = x.fall_light (suc m) in
        linear L (l (above B.parent w₀ c₀) ∷ l (node w₀ c₀) ∷ X.fall w₀ c₀ (suc m) ∷ X.fall w₀ c₀ m ∷ []) ((var 1, var 0 ⊕ var 2) ∷ (var 2, var 3) ∷ []) (var 1) (var 0 ⊕ var 3) (inr down_tight, (shrinks L B X fits w₀ c₀ m lw lc, tt)) (omega arith) refl

    down_valid : Valid K B X word l p g
    down_valid = record {
      rising = λ w c hw hc. ⊎_elim (λ (e : node w c ≡ node w₀ c₀). at_same L B X fits (λ w c. AtMost K (l (above B.parent w c)) (K.plus (l (node w c)) (X.rise w c (g (node w c))))) w c w₀ c₀ hc lc e down_rising_here)
          (λ (d : node w c ≡ node w₀ c₀ → ⊥). rw (others (node w c) d) (i.valid.rising w c hw hc)) (cases_eq (node w c) (node w₀ c₀));
      falling = λ w c hw hc. ⊎_elim (λ (e : node w c ≡ node w₀ c₀). at_same L B X fits (λ w c. AtMost K (l (node w c)) (K.plus (l (above B.parent w c)) (X.fall w c (g (node w c))))) w c w₀ c₀ hc lc e down_falling_here)
          (λ (d : node w c ≡ node w₀ c₀ → ⊥). rw (others (node w c) d) (i.valid.falling w c hw hc)) (cases_eq (node w c) (node w₀ c₀));
      moved = i.valid.moved;
    }

    down_ahead : (u : ℕ) (o : Option Arc) → rank u ≤ rank (above B.parent w₀ c₀) → Tights p f u o → Tights p g u o
    down_ahead u None h t = t
    down_ahead u (Some (Rise w c)) h t = (t.0, t.1, t.2, subst (λ m. l u ≡ K.plus (l (node w c)) (X.rise w c m)) (sym (others (node w c) (λ s. let y : rank (node w c) ≡ rank v = ap rank (s ∙ sym at) in omega (arith, t.2)))) t.3)
    down_ahead u (Some (Fall w c)) h t = (t.0, t.1, t.2, subst (λ m. l u ≡ K.plus (l (above B.parent w c)) (X.fall w c m)) (sym (others (node w c) (λ s. let y : rank u ≡ rank v = ap rank (t.1 ∙ s ∙ sym at) in omega arith))) t.3)
    down_ahead u (Some (Move j x)) h t = t

    pub step_down : Walks p g (above B.parent w₀ c₀)
    step_down = record {
      holed = (hole K B fits.sound).goes_up p f g b w₀ c₀ lc (subst (Holed B p f b) at i.holed) changed others;
      valid = down_valid;
      sent = i.sent;
      meets = i.meets;
      under = omega (arith, i.under);
      ahead = λ u h. down_ahead u (via u) h (i.ahead u (omega arith));
    }

  -- the count at the hole can be lowered
  pub down_room : (p f : ℕ → ℕ) (v w₀ c₀ : ℕ) → w₀ < B.weekends → c₀ < B.classes → v ≡ node w₀ c₀ → Walks p f v → 1 ≤ f (node w₀ c₀)
  down_room p f v w₀ c₀ lw lc at i = (hole K B fits.sound).counted p f b w₀ c₀ lb lw lc (subst (Holed B p f b) at i.holed)

  -- ---- the book j₀ is moved into the hole
  module _ (p q f : ℕ → ℕ) (v j₀ y : ℕ) (lj : j₀ < B.books) (ly : y < B.weekends) (wide : word j₀ y ≡ true) (at : v ≡ node y (B.class j₀)) (lower : rank (node (p j₀) (B.class j₀)) < rank v)
      (tight : l v ≡ K.plus (l (node (p j₀) (B.class j₀))) (moving K B j₀ (p j₀) y)) (changed : q j₀ ≡ y) (others : ButFor B j₀ p q) (i : Walks p f v) where
    -- the book that is taken out is not met again
    pub apart : j₀ ≡ b → ⊥
    apart e = let y : rank (node (p j₀) (B.class j₀)) ≡ rank (node (p b) (B.class b)) = ap (λ j. rank (node (p j) (B.class j))) e in omega (arith, i.under)

    move_here : (x : ℕ) → x < B.weekends → word j₀ x ≡ true → AtMost K (l (node x (B.class j₀))) (K.plus (l (node y (B.class j₀))) (K.plus (quoted K B j₀ x) (K.minus (quoted K B j₀ y))))
    unfolding law_limit
    move_here x hx hm =
        let t : l (node y (B.class j₀)) ≡ K.plus (l (node (p j₀) (B.class j₀))) (moving K B j₀ (p j₀) y) = rw at at tight in
        let o : AtMost K (l (node x (B.class j₀))) (K.plus (l (node (p j₀) (B.class j₀))) (moving K B j₀ (p j₀) x)) = i.valid.moved j₀ x lj hx hm in
        let a = light (node x (B.class j₀)) in
        let d = light (node y (B.class j₀)) in
        let g = light (node (p j₀) (B.class j₀)) in
        let qx = quoted_light L B fits.sound j₀ x lj hx in
        let qy = quoted_light L B fits.sound j₀ y lj ly in
        let qp = quoted_light L B fits.sound j₀ (p j₀) lj (i.sent j₀ lj) in
        linear L (l (node x (B.class j₀)) ∷ l (node y (B.class j₀)) ∷ l (node (p j₀) (B.class j₀)) ∷ quoted K B j₀ x ∷ quoted K B j₀ y ∷ quoted K B j₀ (p j₀) ∷ [])
        ((var 0, var 2 ⊕ (var 3 ⊕ ⊖ (var 5))) ∷ (var 2 ⊕ (var 4 ⊕ ⊖ (var 5)), var 1) ∷ []) (var 0) (var 1 ⊕ (var 3 ⊕ ⊖ (var 4))) (o, (inr (sym t), tt)) (omega arith) refl

    move_valid : Valid K B X word l q f
    move_valid = record {
      rising = i.valid.rising;
      falling = i.valid.falling;
      moved = λ j x hj hx hm. ⊎_elim
          (λ (e : j ≡ j₀). subst (λ j. word j x ≡ true → AtMost K (l (node x (B.class j))) (K.plus (l (node (q j) (B.class j))) (moving K B j (q j) x))) (sym e) (λ m. rw changed (move_here x hx m)) hm)
          (λ (d : j ≡ j₀ → ⊥). rw (others j hj d) (i.valid.moved j x hj hx hm)) (cases_eq j j₀);
    }

    move_ahead : (u : ℕ) (o : Option Arc) → rank u ≤ rank (node (p j₀) (B.class j₀)) → Tights p f u o → Tights q f u o
    move_ahead u None h t = t
    move_ahead u (Some (Rise w c)) h t = t
    move_ahead u (Some (Fall w c)) h t = t
    move_ahead u (Some (Move j x)) h t =
        let s : q j ≡ p j = others j t.0.0 (λ z. let y : rank (node (p j) (B.class j)) ≡ rank (node (p j₀) (B.class j₀)) = ap (λ k. rank (node (p k) (B.class k))) z in omega (arith, t.2)) in
        (t.0, t.1, rw s t.2, rw s t.3)

    pub step_move : Walks q f (node (p j₀) (B.class j₀))
    step_move = record {
      holed = (hole K B fits.sound).moves p q f b j₀ y lb lj apart (subst (Holed B p f b) at i.holed) changed others;
      valid = move_valid;
      sent = λ j hj. ⊎_elim (λ (e : j ≡ j₀). subst (λ k. q k < B.weekends) (sym e) (rw changed ly)) (λ (d : j ≡ j₀ → ⊥). rw (others j hj d) (i.sent j hj)) (cases_eq j j₀);
      meets = λ j hj. ⊎_elim (λ (e : j ≡ j₀). subst (λ k. word k (q k) ≡ true) (sym e) (rw changed wide)) (λ (d : j ≡ j₀ → ⊥). rw (others j hj d) (i.meets j hj)) (cases_eq j j₀);
      under = let s : q b ≡ p b = others b lb (λ e. apart (sym e)) in rw s (omega (arith, i.under));
      ahead = λ u h. move_ahead u (via u) h (i.ahead u (omega arith));
    }

  -- ---- the hole is at a start: b is put there
  module _ (p q f : ℕ → ℕ) (word' : ℕ → ℕ → Bool) (v x₀ : ℕ) (lx : x₀ < B.weekends) (in' : into x₀ ≡ true) (mate : B.class b ≡ k) (at : v ≡ node x₀ k) (tight : l v ≡ begin x₀)
      (starts : (x : ℕ) → x < B.weekends → into x ≡ true → AtMost K (l (node x k)) (begin x))
      (even : (x : ℕ) → x < B.weekends → into x ≡ true → K.plus (begin x) (quoted K B b x₀) ≡ K.plus (begin x₀) (quoted K B b x)) (begins : (x : ℕ) → x < B.weekends → into x ≡ true → K.weight (begin x) ≤ 10 ^ 9)
      (mine : (x : ℕ) → word' b x ≡ into x) (theirs : (j x : ℕ) → (j ≡ b → ⊥) → word' j x ≡ word j x)
      (changed : q b ≡ x₀) (others : ButFor B b p q) (i : Walks p f v) where
    at' : v ≡ node x₀ (B.class b)
    at' = at ∙ ap (node x₀) (sym mate)

    end_here : (x : ℕ) → x < B.weekends → into x ≡ true → AtMost K (l (node x (B.class b))) (K.plus (l (node x₀ (B.class b))) (K.plus (quoted K B b x) (K.minus (quoted K B b x₀))))
    unfolding law_limit
    end_here x hx hm =
        let t : l (node x₀ k) ≡ begin x₀ = rw at at tight in
        let a = light (node x k) in
        let d = light (node x₀ k) in
        let qx = quoted_light L B fits.sound b x lb hx in
        let q0 = quoted_light L B fits.sound b x₀ lb lx in
        let bx = begins x hx hm in
        let b0 = begins x₀ lx in' in
        rw mate (linear L (l (node x k) ∷ l (node x₀ k) ∷ quoted K B b x ∷ quoted K B b x₀ ∷ begin x ∷ begin x₀ ∷ []) ((var 0, var 4) ∷ (var 5, var 1) ∷ (var 4 ⊕ var 3, var 5 ⊕ var 2) ∷ []) (var 0) (var 1 ⊕ (var 2 ⊕ ⊖ (var 3))) (starts x hx hm, (inr (sym t), (inr (even x hx hm), tt))) (omega arith) refl)

    -- the counts are those of the new assignment, which is within the new words, and the labels are valid for it
    pub step_end : Counts B q f × Inside B word' q × Valid K B X word' l q f
    step_end = (
      (hole K B fits.sound).ends p q f b x₀ lb (subst (Holed B p f b) at' i.holed) changed others,
      record {
        sent = λ j hj. ⊎_elim (λ (e : j ≡ b). subst (λ k. q k < B.weekends) (sym e) (rw changed lx)) (λ (d : j ≡ b → ⊥). rw (others j hj d) (i.sent j hj)) (cases_eq j b);
        meets = λ j hj. ⊎_elim (λ (e : j ≡ b). subst (λ k. word' k (q k) ≡ true) (sym e) (rw (mine (q b), changed) in')) (λ (d : j ≡ b → ⊥). rw (theirs j (q j) d, others j hj d) (i.meets j hj)) (cases_eq j b);
      },
      record {
        rising = i.valid.rising;
        falling = i.valid.falling;
        moved = λ j x hj hx hm. ⊎_elim
            (λ (e : j ≡ b). subst (λ j. word' j x ≡ true → AtMost K (l (node x (B.class j))) (K.plus (l (node (q j) (B.class j))) (moving K B j (q j) x))) (sym e) (λ m. rw changed (end_here x hx (sym (mine x) ∙ m))) hm)
            (λ (d : j ≡ b → ⊥). rw (others j hj d) (i.valid.moved j x hj hx (sym (theirs j x d) ∙ hm))) (cases_eq j b);
      },
    )
