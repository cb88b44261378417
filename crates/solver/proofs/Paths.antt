-- The steps of the search: settle a node, relax an arc. Assumes nothing.
use Rattle.std.proofs.Common.{◌≡◌, ℕ, suc, ◌+◌, ◌*◌, ◌^◌, ◌<◌, ◌≤◌, Bool, true, ltb, ◌⊎◌, [], ◌∷◌, Some, None, Option, sym, refl, ap, ◌∙◌, subst, inl, inr, ⊎_elim, arith}
use Rattle.std.proofs.lemmas.Bool.{cases_eq, lt-ltb, le-ltb}
use Rattle.amounts.specs.Kind.{Kind, Lawful, law_limit, AtMost}
use Rattle.amounts.specs.Sums.{bit, tally}
use Rattle.amounts.proofs.Order.{at_most_trans}
use Rattle.amounts.proofs.Numbers.{tally_le, tally_miss, tally_set}
use Rattle.amounts.proofs.Solve.{var, ◌⊕◌, linear}
use Rattle.solver.specs.declared.arcs.Arc.{Arc}
use Rattle.solver.specs.declared.arcs.Arc.TheVariants.{Rise, Fall, Move}
use Rattle.plans.specs.Problem.{Problem}
use Rattle.solver.specs.Residual.{node, Charges, Live, head, tail, quoted, arc_cost}
use Rattle.solver.specs.Search.{nodes, Searchable, Before, Reason, Searching, Last}
use Rattle.solver.proofs.Optimal.{quoted_light}

module _ {V : Type 0} {K : Kind V} (L : Lawful K) (B : Problem V) (X : Charges V) (word : ℕ → ℕ → Bool) (Start : ℕ → V → Type 0) (p f : ℕ → ℕ) (pot : ℕ → V) (g : Searchable K B X word Start p f pot) where
  -- an arc costs little, and the labels before the search are valid for it
  cheap : (a : Arc) → Live B word a → K.weight (arc_cost K B X p f a) ≤ 2 * 10 ^ 9
  unfolding law_limit
  cheap (Rise w c) h = g.fits.rises w c (f (node w c)) h.0 h.1
  cheap (Fall w c) h = g.fits.falls w c (f (node w c)) h.0 h.1
  cheap (Move j x) h =
      let a = quoted_light L B g.fits.sound j x h.0 h.1 in
      let d = quoted_light L B g.fits.sound j (p j) h.0 (g.sent j h.0) in
      let m = L.minus_weight (quoted K B j (p j)) (omega arith) in
      omega (arith, L.plus_weight (quoted K B j x) (K.minus (quoted K B j (p j))) (omega arith))

  satisfied : (a : Arc) → Live B word a → AtMost K (pot (head B a)) (K.plus (pot (tail B p a)) (arc_cost K B X p f a))
  satisfied (Rise w c) h = g.valid.rising w c h.0 h.1
  satisfied (Fall w c) h = g.valid.falling w c h.0 h.1
  satisfied (Move j x) h = g.valid.moved j x h.0 h.1 h.2

  abbrev State : (Arc → Type 0) → ℕ → (ℕ → V) → (ℕ → Bool) → (ℕ → ℕ) → (ℕ → Option Arc) → Type 0
  State Done t d seen rank via = Searching K B X word Start p f pot Done t d seen rank via

  module _ (Done : Arc → Type 0) (t : ℕ) (d : ℕ → V) (seen : ℕ → Bool) (rank : ℕ → ℕ) (via : ℕ → Option Arc) (i : State Done t d seen rank via) where
    few : t ≤ nodes
    few = omega (arith, i.counted, tally_le nodes (λ v. ltb (rank v) nodes))

    -- each label is light
    pub all_light : (v : ℕ) → K.weight (d v) ≤ 26 * 10 ^ 10
    all_light v = omega (arith, i.light v, few)

    -- of fewer arcs less is said
    pub fewer : (Less : Arc → Type 0) → ((a : Arc) → Less a → Done a) → State Less t d seen rank via
    fewer Less h = record { counted = i.counted; ranked = i.ranked; order = i.order; done = λ a l. i.done a (h a l); reason = i.reason; starts = i.starts; settled_light = i.settled_light; light = i.light }

    -- ---- settle u
    module _ (u : ℕ) (lu : u < nodes) (su : seen u ≡ true) (open' : nodes ≤ rank u) (least : (v : ℕ) → seen v ≡ true → nodes ≤ rank v → Before K B X word Start p f pot d u v)
        (rank' : ℕ → ℕ) (mine : rank' u ≡ t) (others : (v : ℕ) → (v ≡ u → ⊥) → rank' v ≡ rank v) where
      pub settle_room : t < nodes
      settle_room = omega (arith, i.counted, tally_miss nodes u (λ v. ltb (rank v) nodes) lu (le-ltb (rank u) nodes open'))

      settle_counted : suc t ≡ tally nodes (λ v. ltb (rank' v) nodes)
      settle_counted =
          let r = settle_room in
          let a = tally_set nodes u (λ v. ltb (rank' v) nodes) (λ v. ltb (rank v) nodes) lu (λ v _ n. ap (λ k. ltb k nodes) (others v n)) in
          let p : bit (ltb (rank u) nodes) ≡ 0 = ap bit (le-ltb (rank u) nodes open') in
          let q : bit (ltb (rank' u) nodes) ≡ 1 = ap bit (lt-ltb (rank' u) nodes (omega arith)) in
          omega (arith, i.counted)

      -- a node settled before, or u itself
      settled_cases : (v : ℕ) → rank' v < nodes → (v ≡ u) ⊎ ((v ≡ u → ⊥) × (rank v < nodes))
      settled_cases v h = ⊎_elim (λ (e : v ≡ u). inl e) (λ (n : v ≡ u → ⊥). inr (n, omega (arith, others v n))) (cases_eq v u)

      still_open : (v : ℕ) → nodes ≤ rank' v → (v ≡ u → ⊥) × (nodes ≤ rank v)
      still_open v h =
          let n : v ≡ u → ⊥ = λ e. omega (arith, ap rank' e, settle_room) in
          (n, omega (arith, others v n))

      kept_rank : (v : ℕ) → rank v < nodes → rank' v ≡ rank v
      kept_rank v h = others v (λ e. omega (arith, ap rank e))

      settle_reason : (v : ℕ) (o : Option Arc) → Reason K B X word Start p f pot d rank v o → Reason K B X word Start p f pot d rank' v o
      settle_reason v None r = r
      settle_reason v (Some a) r =
          let k = kept_rank (tail B p a) r.2 in
          (r.0, r.1, omega (arith, r.2), (λ h. ⊎_elim (λ (e : v ≡ u). omega (arith, ap rank' e, (i.ranked (tail B p a) r.2).0)) (λ (n : (v ≡ u → ⊥) × (rank v < nodes)). omega (arith, others v n.0, r.3 n.1)) (settled_cases v h)), r.4)

      pub settle : State Done (suc t) d seen rank' via
      settle = record {
        counted = settle_counted;
        ranked = λ v h. ⊎_elim (λ (e : v ≡ u). (omega (arith, ap rank' e), ap seen e ∙ su)) (λ (n : (v ≡ u → ⊥) × (rank v < nodes)). (omega (arith, others v n.0, (i.ranked v n.1).0), (i.ranked v n.1).1)) (settled_cases v h);
        order = λ y v hy sv hv. let n = still_open v hv in
            ⊎_elim (λ (e : y ≡ u). subst (λ z. Before K B X word Start p f pot d z v) (sym e) (least v sv n.1)) (λ (m : (y ≡ u → ⊥) × (rank y < nodes)). i.order y v m.1 sv n.1) (settled_cases y hy);
        done = λ a h. let x = i.done a h in (omega (arith, kept_rank (tail B p a) x.0, x.0), x.1, x.2, x.3);
        reason = λ v sv. settle_reason v (via v) (i.reason v sv);
        starts = i.starts;
        settled_light = λ v h. ⊎_elim (λ (e : v ≡ u). omega (arith, ap rank' e, i.light v)) (λ (n : (v ≡ u → ⊥) × (rank v < nodes)). omega (arith, others v n.0, i.settled_light v n.1)) (settled_cases v h);
        light = λ v. omega (arith, i.light v);
      }

      pub settle_last : Last K B X word Start p f pot d rank' u
      settle_last y hy = ⊎_elim (λ (e : y ≡ u). subst (λ z. Before K B X word Start p f pot d z u) (sym e) (inr refl)) (λ (m : (y ≡ u → ⊥) × (rank y < nodes)). i.order y u m.1 su open') (settled_cases y hy)

    -- the arcs that were satisfied, and a
    abbrev More : Arc → Arc → Type 0
    More a e = Done e ⊎ (e ≡ a)

    module _ (a : Arc) (la : Live B word a) (hu : rank (tail B p a) < nodes) where
      -- the label at its head is already as good
      pub relax_none : seen (head B a) ≡ true → AtMost K (d (head B a)) (K.plus (d (tail B p a)) (arc_cost K B X p f a)) → State (More a) t d seen rank via
      relax_none s h = record {
        counted = i.counted;
        ranked = i.ranked;
        order = i.order;
        done = λ e. ⊎_elim (λ (x : Done e). i.done e x) (λ (x : e ≡ a). subst (λ e. (rank (tail B p e) < nodes) × (seen (head B e) ≡ true) × AtMost K (d (head B e)) (K.plus (d (tail B p e)) (arc_cost K B X p f e)) × Live B word e) (sym x) (hu, s, h, la));
        reason = i.reason;
        starts = i.starts;
        settled_light = i.settled_light;
        light = i.light;
      }

    -- ---- relax the arc a, out of the node settled last
    module _ (a : Arc) (la : Live B word a) (hu : rank (tail B p a) < nodes) (last : Last K B X word Start p f pot d rank (tail B p a)) where
      pub offer_light : K.weight (K.plus (d (tail B p a)) (arc_cost K B X p f a)) ≤ 26 * 10 ^ 10 + 2 * 10 ^ 9
      unfolding law_limit
      offer_light =
          let x = all_light (tail B p a) in
          let y = cheap a la in
          omega (arith, L.plus_weight (d (tail B p a)) (arc_cost K B X p f a) (omega arith))

      -- a settled node is not improved
      pub no_better : rank (head B a) < nodes → AtMost K (d (head B a)) (K.plus (d (tail B p a)) (arc_cost K B X p f a))
      unfolding law_limit
      no_better h =
          let x = all_light (head B a) in
          let y = all_light (tail B p a) in
          let z = cheap a la in
          let ph = g.light (head B a) in
          let pt = g.light (tail B p a) in
          linear L (d (head B a) ∷ d (tail B p a) ∷ arc_cost K B X p f a ∷ pot (head B a) ∷ pot (tail B p a) ∷ []) ((var 0 ⊕ var 4, var 1 ⊕ var 3) ∷ (var 3, var 4 ⊕ var 2) ∷ []) (var 0) (var 1 ⊕ var 2) (last (head B a) h, (satisfied a la, tt)) (omega arith) refl

      -- the label at its head is lowered, or given for the first time
      module _ (open' : nodes ≤ rank (head B a)) (lower : seen (head B a) ≡ true → AtMost K (K.plus (d (tail B p a)) (arc_cost K B X p f a)) (d (head B a)))
          (d' : ℕ → V) (seen' : ℕ → Bool) (via' : ℕ → Option Arc) (now : d' (head B a) ≡ K.plus (d (tail B p a)) (arc_cost K B X p f a)) (met : seen' (head B a) ≡ true) (by' : via' (head B a) ≡ Some a)
          (same_d : (v : ℕ) → (v ≡ head B a → ⊥) → d' v ≡ d v) (same_seen : (v : ℕ) → (v ≡ head B a → ⊥) → seen' v ≡ seen v) (same_via : (v : ℕ) → (v ≡ head B a → ⊥) → via' v ≡ via v) where
        other : (v : ℕ) → rank v < nodes → v ≡ head B a → ⊥
        other v h e = omega (arith, ap rank e)

        grown : (v : ℕ) → seen v ≡ true → seen' v ≡ true
        grown v s = ⊎_elim (λ (e : v ≡ head B a). ap seen' e ∙ met) (λ (n : v ≡ head B a → ⊥). same_seen v n ∙ s) (cases_eq v (head B a))

        -- no label rises
        fallen : (v : ℕ) → seen v ≡ true → AtMost K (d' v) (d v)
        fallen v s = ⊎_elim (λ (e : v ≡ head B a). subst (λ v. seen v ≡ true → AtMost K (d' v) (d v)) (sym e) (λ s. rw now (lower s)) s) (λ (n : v ≡ head B a → ⊥). inr (same_d v n)) (cases_eq v (head B a))

        new_light : (v : ℕ) → K.weight (d' v) ≤ 10 ^ 9 + 2 * 10 ^ 9 * t
        unfolding law_limit
        new_light v = ⊎_elim
            (λ (e : v ≡ head B a). let x = i.settled_light (tail B p a) hu in let k = (i.ranked (tail B p a) hu).0 in let y = cheap a la in let n = few in
            omega (arith, ap (λ v. K.weight (d' v)) e, ap K.weight now, L.plus_weight (d (tail B p a)) (arc_cost K B X p f a) (omega arith)))
            (λ (n : v ≡ head B a → ⊥). omega (arith, ap K.weight (same_d v n), i.light v)) (cases_eq v (head B a))

        heavy_enough : (v : ℕ) → K.weight (d' v) ≤ 26 * 10 ^ 10
        heavy_enough v = omega (arith, new_light v, few)

        offered_order : (u : ℕ) → rank u < nodes → AtMost K (K.plus (d u) (pot (head B a))) (K.plus (K.plus (d (tail B p a)) (arc_cost K B X p f a)) (pot u))
        unfolding law_limit
        offered_order u h =
            let x = all_light u in
            let y = all_light (tail B p a) in
            let z = cheap a la in
            let ph = g.light (head B a) in
            let pt = g.light (tail B p a) in
            let pu = g.light u in
            linear L (d u ∷ d (tail B p a) ∷ arc_cost K B X p f a ∷ pot (head B a) ∷ pot (tail B p a) ∷ pot u ∷ []) ((var 0 ⊕ var 4, var 1 ⊕ var 5) ∷ (var 3, var 4 ⊕ var 2) ∷ []) (var 0 ⊕ var 3) ((var 1 ⊕ var 2) ⊕ var 5) (last u h, (satisfied a la, tt)) (omega arith) refl

        new_order : (u v : ℕ) → rank u < nodes → seen' v ≡ true → nodes ≤ rank v → Before K B X word Start p f pot d' u v
        new_order u v h sv hv = rw (same_d u (other u h)) (go (cases_eq v (head B a)))
          where
            go : (v ≡ head B a) ⊎ (v ≡ head B a → ⊥) → AtMost K (K.plus (d u) (pot v)) (K.plus (d' v) (pot u))
            go (inl e) = subst (λ v. AtMost K (K.plus (d u) (pot v)) (K.plus (d' v) (pot u))) (sym e) (rw now (offered_order u h))
            go (inr n) = rw (same_d v n) (i.order u v h (sym (same_seen v n) ∙ sv) hv)

        done_light : (e : Arc) → Done e → K.weight (K.plus (d (tail B p e)) (arc_cost K B X p f e)) ≤ 26 * 10 ^ 10 + 2 * 10 ^ 9
        unfolding law_limit
        done_light e x =
            let y = all_light (tail B p e) in
            let z = cheap e (i.done e x).3 in
            omega (arith, L.plus_weight (d (tail B p e)) (arc_cost K B X p f e) (omega arith))

        new_done : (e : Arc) → More a e → (rank (tail B p e) < nodes) × (seen' (head B e) ≡ true) × AtMost K (d' (head B e)) (K.plus (d' (tail B p e)) (arc_cost K B X p f e)) × Live B word e
        unfolding law_limit
        new_done e (inl x) =
            let o = i.done e x in (
              o.0,
              grown (head B e) o.1,
              rw (same_d (tail B p e) (other (tail B p e) o.0))
                  (at_most_trans L (d' (head B e)) (d (head B e)) _ (omega (arith, heavy_enough (head B e), all_light (head B e), done_light e x)) (fallen (head B e) o.1) o.2),
              o.3,
            )
        new_done e (inr x) = subst (λ e. (rank (tail B p e) < nodes) × (seen' (head B e) ≡ true) × AtMost K (d' (head B e)) (K.plus (d' (tail B p e)) (arc_cost K B X p f e)) × Live B word e) (sym x) (hu, met, rw (same_d (tail B p a) (other (tail B p a) hu)) (inr now), la)

        new_reason : (v : ℕ) → seen' v ≡ true → Reason K B X word Start p f pot d' rank v (via' v)
        new_reason v sv = go (cases_eq v (head B a))
          where
            kept : (v ≡ head B a → ⊥) → (o : Option Arc) → Reason K B X word Start p f pot d rank v o → Reason K B X word Start p f pot d' rank v o
            kept n None r = rw (same_d v n) r
            kept n (Some e) r = (r.0, r.1, r.2, r.3, rw (same_d v n, same_d (tail B p e) (other (tail B p e) r.2)) r.4)

            go : (v ≡ head B a) ⊎ (v ≡ head B a → ⊥) → Reason K B X word Start p f pot d' rank v (via' v)
            go (inl e) = subst (λ v. Reason K B X word Start p f pot d' rank v (via' v)) (sym e) (rw by' (la, refl, hu, (λ h. absurd (omega arith)), rw (same_d (tail B p a) (other (tail B p a) hu)) now))
            go (inr n) = rw (same_via v n) (kept n (via v) (i.reason v (sym (same_seen v n) ∙ sv)))

        pub relax : State (More a) t d' seen' rank via'
        unfolding law_limit
        relax = record {
          counted = i.counted;
          ranked = λ v h. ((i.ranked v h).0, grown v (i.ranked v h).1);
          order = new_order;
          done = new_done;
          reason = new_reason;
          starts = λ v s h. let x = i.starts v s h in (grown v x.0, at_most_trans L (d' v) (d v) s (omega (arith, heavy_enough v, all_light v, g.begins v s h)) (fallen v x.0) x.1);
          settled_light = λ v h. omega (arith, ap K.weight (same_d v (other v h)), i.settled_light v h);
          light = new_light;
        }

        pub relax_last : Last K B X word Start p f pot d' rank (tail B p a)
        relax_last y h = rw (same_d y (other y h), same_d (tail B p a) (other (tail B p a) hu)) (last y h)
