-- Where a search begins, and that its steps keep its invariant. Assumes nothing.
use Rattle.std.proofs.Common.{◌≡◌, ℕ, suc, ◌<◌, Bool, true, ltb, [], ◌∷◌, sym, refl, ap, ◌∙◌, subst, inr, arith}
use Rattle.std.proofs.lemmas.Bool.{le-ltb}
use Rattle.amounts.specs.Kind.{Kind, Lawful, law_limit}
use Rattle.amounts.specs.Sums.{bit}
use Rattle.amounts.proofs.Numbers.{sum_n_each_zero, tally_sum}
use Rattle.amounts.proofs.Solve.{var, nil, ◌⊕◌, ⊖, linear}
use Rattle.plans.specs.Problem.{Problem}
use Rattle.solver.specs.Residual.{Live, node, above, Charges, tail, quoted, LightLabels, Fits, Valid}
use Rattle.solver.specs.Flows.{SoftFits, Stepped, ColdValid, SearchKept, Search}
use Rattle.solver.specs.Search.{nodes, FromOrigins, Searchable, Last, Staged}
use Rattle.solver.proofs.Optimal.{quoted_light}
use Rattle.solver.proofs.Soft.{soft_convex}
use Rattle.solver.proofs.Violations.{softened_sound, soft_charges_convex}
use Rattle.solver.proofs.Paths.{fewer, settle_room, settle, settle_last, no_better, relax_none, relax, relax_last}
use Rattle.solver.proofs.Stages.{stage_first, stage_take, stage_skip, stage_last}

module _ {V : Type 0} {K : Kind V} (L : Lawful K) where
  pub soft_fits : SoftFits K
  soft_fits B s straight = record {
    sound = softened_sound L B s;
    convex = soft_charges_convex L B s straight;
    rises = λ w c m lw lc. omega (arith, (soft_convex L (B.lower w c) (B.upper w c) (straight w c lw lc) (s.lowers w c lw lc)).rise_light m);
    falls = λ w c m lw lc. omega (arith, (soft_convex L (B.lower w c) (B.upper w c) (straight w c lw lc) (s.lowers w c lw lc)).fall_light m);
  }

  module _ (B : Problem V) (X : Charges V) (fits : Fits K B X) where
    -- every book fixed, and each label that of the node above less an entry between the last step and the next: the labels are valid
    cold : (word : ℕ → ℕ → Bool) (l : ℕ → V) (e : ℕ → ℕ → V) (p f : ℕ → ℕ) → LightLabels K B l → ((b : ℕ) → b < B.books → p b < B.weekends) → ((b x : ℕ) → word b x ≡ true → x ≡ p b) →
        ((w c : ℕ) → w < B.weekends → c < B.classes → Stepped K B X l f w c (e w c)) → Valid K B X word l p f
    unfolding law_limit
    cold word l e p f light sent fixed is = record {
      rising = λ w c lw lc.
          let s = is w c lw lc in
          let x = light (above B.parent w c) in let y = light (node w c) in let r = fits.rises w c (f (node w c)) lw lc in
          linear L (l (above B.parent w c) ∷ l (node w c) ∷ e w c ∷ X.rise w c (f (node w c)) ∷ []) ((var 0 ⊕ ⊖ (var 2), var 1) ∷ (var 2, var 3) ∷ []) (var 0) (var 1 ⊕ var 3) (inr (sym s.label), (s.next, tt)) (omega (arith, s.light)) refl;
      falling = λ w c lw lc.
          let s = is w c lw lc in
          let x = light (above B.parent w c) in let y = light (node w c) in let r = fits.falls w c (f (node w c)) lw lc in
          linear L (l (above B.parent w c) ∷ l (node w c) ∷ e w c ∷ X.fall w c (f (node w c)) ∷ []) ((var 1, var 0 ⊕ ⊖ (var 2)) ∷ (nil, var 2 ⊕ var 3) ∷ []) (var 1) (var 0 ⊕ var 3) (inr s.label, (s.last, tt)) (omega (arith, s.light)) refl;
      moved = λ b x lb lx m.
          let e = fixed b x m in
          let y = light (node (p b) (B.class b)) in let q = quoted_light L B fits.sound b (p b) lb (sent b lb) in
          rw e (linear L (l (node (p b) (B.class b)) ∷ quoted K B b (p b) ∷ []) [] (var 0) (var 0 ⊕ (var 1 ⊕ ⊖ (var 1))) tt (omega arith) refl);
    }

  pub cold_valid : ColdValid K
  cold_valid B X fits word l e p f light sent fixed is = cold B X fits word l e p f light sent fixed is

  -- wherever it starts
  pub steps_kept : (B : Problem V) (X : Charges V) (word : ℕ → ℕ → Bool) (Start : ℕ → V → Type 0) (p f : ℕ → ℕ) (pot : ℕ → V) → Searchable K B X word Start p f pot → SearchKept K B X word Start p f pot
  steps_kept B X word Start p f pot g = record {
    begins = λ d seen rank via late new starts met light. record {
      counted = sym (tally_sum nodes (λ v. ltb (rank v) nodes) ∙ sum_n_each_zero nodes _ (λ v _. ap bit (le-ltb (rank v) nodes (late v))));
      ranked = λ v h. absurd (omega (arith, late v));
      order = λ u v h. absurd (omega (arith, late u));
      done = λ a h. absurd (omega (arith, late (tail B p a), h.1));
      reason = λ v s. rw (new v) (starts v s);
      starts = met;
      settled_light = λ v h. absurd (omega (arith, late v));
      light = λ v. omega (arith, light v);
    };
    settles = λ t d seen rank rank' via u i lu su open' least mine others.
        let room = settle_room L B X word Start p f pot g _ t d seen rank via i u lu su open' least rank' mine others in
        let next = settle L B X word Start p f pot g _ t d seen rank via i u lu su open' least rank' mine others in (
          room,
          record {
            settled = omega arith;
            last = settle_last L B X word Start p f pot g _ t d seen rank via i u lu su open' least rank' mine others;
            searching = fewer L B X word Start p f pot g _ (suc t) d seen rank' via next (Staged B word p rank' u 0) (stage_first B g.fits.sound word p rank rank' u others);
          },
        );
    skips = λ t d seen rank via u s s' i gap. record {
      settled = i.settled;
      last = i.last;
      searching = fewer L B X word Start p f pot g _ t d seen rank via i.searching (Staged B word p rank u s') (stage_skip B g.fits.sound word p rank u s s' gap);
    };
    skips_one = λ t d seen rank via u s i gap. record {
      settled = i.settled;
      last = i.last;
      searching = fewer L B X word Start p f pot g _ t d seen rank via i.searching (Staged B word p rank u (suc s)) (stage_skip B g.fits.sound word p rank u s (suc s) (λ a la ta le lt. gap a (record { live = la; from = ta; at = omega arith })));
    };
    no_better = λ t d seen rank via u s a i n h. no_better L B X word Start p f pot g _ t d seen rank via i.searching a n.live (rw n.from i.settled) (rw n.from i.last) h;
    keeps = λ t d seen rank via u s a i n sh h. record {
      settled = i.settled;
      last = i.last;
      searching = fewer L B X word Start p f pot g _ t d seen rank via (relax_none L B X word Start p f pot g _ t d seen rank via i.searching a n.live (rw n.from i.settled) sh h)
          (Staged B word p rank u (suc s)) (stage_take B g.fits.sound word p rank u s a n.live n.from n.at);
    };
    lowers = λ t d d' seen seen' rank via via' u s a i n open' lower now met by' same.
        let hu : rank (tail B p a) < nodes = rw n.from i.settled in
        let last : Last K B X word Start p f pot d rank (tail B p a) = rw n.from i.last in
        record {
          settled = i.settled;
          last = subst (Last K B X word Start p f pot d' rank) n.from (relax_last L B X word Start p f pot g _ t d seen rank via i.searching a n.live hu last open' lower d' seen' via' now met by' (λ v m. (same v m).0) (λ v m. (same v m).1) (λ v m. (same v m).2));
          searching = fewer L B X word Start p f pot g _ t d' seen' rank via'
              (relax L B X word Start p f pot g _ t d seen rank via i.searching a n.live hu last open' lower d' seen' via' now met by' (λ v m. (same v m).0) (λ v m. (same v m).1) (λ v m. (same v m).2))
              (Staged B word p rank u (suc s)) (stage_take B g.fits.sound word p rank u s a n.live n.from n.at);
        };
    goes_on = λ t d seen rank via u i. fewer L B X word Start p f pot g _ t d seen rank via i.searching (λ a. Live B word a × (rank (tail B p a) < nodes)) (stage_last B g.fits.sound word p rank u);
  }

  pub search_steps : Search K
  search_steps B X word origin begin p f pot g = steps_kept B X word (FromOrigins origin begin) p f pot g
