-- The search over the arcs of a state: where it ends, its labels are valid and its arcs are tight. Assumes nothing.
use Rattle.std.proofs.Common.{◌≡◌, ℕ, zero, suc, ◌<◌, ◌≤◌, Bool, true, Some, None, Option, sym, ap, ◌∙◌, arith}
use Rattle.amounts.specs.Kind.{Kind, Lawful, AtMost}
use Rattle.solver.specs.declared.arcs.Arc.{Arc}
use Rattle.solver.specs.declared.arcs.Arc.TheVariants.{Rise, Fall, Move}
use Rattle.plans.specs.Problem.{Problem}
use Rattle.solver.specs.Residual.{node, sink, above, Charges, Counts, Live, head, tail, LightLabels, arc_cost, Valid}
use Rattle.solver.specs.Walk.{Reached, Walking}
use Rattle.solver.specs.Search.{nodes, FromClass, Searchable, Reason, Seeks}
use Rattle.solver.proofs.Above.{above_root, above_other}
use Rattle.solver.proofs.Hole.{hole}
use Rattle.solver.proofs.Paths.{all_light}

module _ {V : Type 0} {K : Kind V} (L : Lawful K) (B : Problem V) (X : Charges V) (word : ℕ → ℕ → Bool) (Start : ℕ → V → Type 0) (p f : ℕ → ℕ) (pot : ℕ → V) (g : Searchable K B X word Start p f pot) where
  -- the search has come to its end: no node that is seen is left
  module _ (t : ℕ) (d : ℕ → V) (seen : ℕ → Bool) (rank : ℕ → ℕ) (via : ℕ → Option Arc) (i : Seeks K B X word Start p f pot t d seen rank via)
      (ended : (v : ℕ) → seen v ≡ true → rank v < nodes) (w₀ c₀ : ℕ) (s₀ : V) (lw₀ : w₀ < B.weekends) (lc₀ : c₀ < B.classes) (o₀ : Start (node w₀ c₀) s₀) where
    -- a seen node's arcs lead to seen nodes
    onward : (a : Arc) → Live B word a → seen (tail B p a) ≡ true → seen (head B a) ≡ true
    onward a h s = (i.done a (h, ended _ s)).1

    -- from a node up to the sink; k bounds the class
    climb : (n w c : ℕ) → c ≤ n → w < B.weekends → c < B.classes → seen (node w c) ≡ true → seen sink ≡ true
    climb n w zero h lw lc s = ap seen (sym (above_root B.parent w)) ∙ onward (Rise w 0) (lw, lc) s
    climb zero w (suc c) h lw lc s = absurd (omega arith)
    climb (suc n) w (suc c) h lw lc s =
        let r = g.fits.sound.above (suc c) (omega arith) lc in
        climb n w (B.parent (suc c)) (omega arith) lw (omega arith) (ap seen (sym (above_other B.parent w (suc c) (omega arith))) ∙ onward (Rise w (suc c)) (lw, lc) s)

    sink_seen : seen sink ≡ true
    sink_seen = climb c₀ w₀ c₀ (omega arith) lw₀ lc₀ (i.starts (node w₀ c₀) s₀ o₀).0

    -- and from there down to each node
    pub descend : (n w c : ℕ) → c ≤ n → w < B.weekends → c < B.classes → seen (node w c) ≡ true
    descend n w zero h lw lc = onward (Fall w 0) (lw, lc) (ap seen (above_root B.parent w) ∙ sink_seen)
    descend zero w (suc c) h lw lc = absurd (omega arith)
    descend (suc n) w (suc c) h lw lc =
        let r = g.fits.sound.above (suc c) (omega arith) lc in
        onward (Fall w (suc c)) (lw, lc) (ap seen (above_other B.parent w (suc c) (omega arith)) ∙ descend n w (B.parent (suc c)) (omega arith) lw (omega arith))

    above_seen : (w c : ℕ) → w < B.weekends → c < B.classes → seen (above B.parent w c) ≡ true
    above_seen w c lw lc = onward (Rise w c) (lw, lc) (descend c w c (omega arith) lw lc)

    all_done : (a : Arc) → Live B word a → AtMost K (d (head B a)) (K.plus (d (tail B p a)) (arc_cost K B X p f a))
    all_done a h = (i.done a (h, ended _ (from a h))).2
      where
        from : (a : Arc) → Live B word a → seen (tail B p a) ≡ true
        from (Rise w c) h = descend c w c (omega arith) h.0 h.1
        from (Fall w c) h = above_seen w c h.0 h.1
        from (Move j x) h = descend (B.class j) (p j) (B.class j) (omega arith) (g.sent j h.0) (g.fits.sound.classed j h.0)

    pub found_valid : Valid K B X word d p f
    found_valid = record {
      rising = λ w c lw lc. all_done (Rise w c) (lw, lc);
      falling = λ w c lw lc. all_done (Fall w c) (lw, lc);
      moved = λ j x lj lx m. all_done (Move j x) (lj, lx, m);
    }

    pub found_light : LightLabels K B d
    found_light = all_light L B X word Start p f pot g _ t d seen rank via i

    -- no start's label has risen
    pub found_starts : (v : ℕ) (s : V) → Start v s → AtMost K (d v) s
    found_starts v s h = (i.starts v s h).1

    module _ (k : ℕ) (into : ℕ → Bool) (first : ℕ → V) (only : (v : ℕ) (s : V) → Start v s → FromClass B k into first v s) where
      found_tight : (v : ℕ) → rank v < nodes → Reached K B X word k into first d rank p f v (via v)
      found_tight v h = go (via v) (i.reason v (i.ranked v h).1)
        where
          go : (o : Option Arc) → Reason K B X word Start p f pot d rank v o → Reached K B X word k into first d rank p f v o
          go None r = only v (d v) r
          go (Some a) r = (r.0, sym r.1, r.3 h, r.4)

      -- the walk of a book begins with the hole where it was
      pub walk_starts : (b : ℕ) → b < B.books → Counts B p f → ((j : ℕ) → j < B.books → word j (p j) ≡ true) → Walking K B X word k into first d rank via b p f (node (p b) (B.class b))
      walk_starts b lb counts meets =
          let s = ended _ (descend (B.class b) (p b) (B.class b) (omega arith) (g.sent b lb) (g.fits.sound.classed b lb)) in
          record {
            holed = (hole K B g.fits.sound).begins p f b lb counts;
            valid = found_valid;
            sent = g.sent;
            meets = meets;
            under = omega arith;
            ahead = λ u h. found_tight u (omega arith);
          }
