-- A label that is offered to a node is taken or left. Assumes nothing.
use Rattle.std.proofs.Common.{◌≡◌, ℕ, ◌+◌, ◌<◌, ◌≤◌, Bool, true, false, not, ◌&&◌, ◌||◌, ltb, length, is_some, Some, None, sym, refl, ap, ◌∙◌, subst, ⊎_elim, arith}
use mathlib.Core.Path.{fun_ext}
use Rattle.std.specs.Ordering.{is_lt}
use Rattle.std.proofs.lemmas.Bool.{cases_lt, lt-ltb, le-ltb, both_ways}
use Rattle.amounts.specs.declared.money.Money.{Money}
use Rattle.amounts.specs.declared.ranked.Ranked.{Ranked}
use Rattle.amounts.specs.Kind.{Kind}
use Rattle.solver.specs.declared.arcs.Arc.{Arc}
use Rattle.solver.specs.declared.marks.Mark.{Mark}
use Rattle.solver.specs.Search.{nodes}
use Rattle.solver.specs.Soft.{soft_kind}
use Rattle.solver.specs.Held.{Memory, written, marked, arc_in, new_of, seen_of, rank_of, takes, Offered}
use Rattle.solver.proofs.Banks.{bank_set_here, bank_set_other, old_kept}
use Rattle.solver.proofs.Marked.{ranks_kept, mark_there, seen_here, via_here}

takes_not : (r s t : Bool) → r ≡ true → (not r && (not s || t)) ≡ false
takes_not true s t e = refl
takes_not false s t e = absurd (both_ways false refl e)

takes_first : (r s t : Bool) → r ≡ false → s ≡ false → (not r && (not s || t)) ≡ true
takes_first true s t e d = absurd (both_ways true e refl)
takes_first false true t e d = absurd (both_ways true d refl)
takes_first false false t e d = refl

takes_by : (r s t : Bool) → r ≡ false → s ≡ true → (not r && (not s || t)) ≡ t
takes_by true s t e d = absurd (both_ways true e refl)
takes_by false true t e d = refl
takes_by false false t e d = absurd (both_ways false refl d)

module _ {V : Type 0} (K : Kind V) where
  module _ (m : Memory V) (v : ℕ) (x : Ranked Money V) where
    pub takes_settled : rank_of m v < nodes → takes K m v x ≡ false
    takes_settled h = takes_not (ltb (rank_of m v) nodes) (seen_of m v) _ (lt-ltb (rank_of m v) nodes h)

    pub takes_unseen : nodes ≤ rank_of m v → seen_of m v ≡ false → takes K m v x ≡ true
    takes_unseen h s = takes_first (ltb (rank_of m v) nodes) (seen_of m v) _ (le-ltb (rank_of m v) nodes h) s

    pub takes_seen : nodes ≤ rank_of m v → seen_of m v ≡ true → takes K m v x ≡ is_lt ((soft_kind K).cmp x (new_of K m v))
    takes_seen h s = takes_by (ltb (rank_of m v) nodes) (seen_of m v) _ (le-ltb (rank_of m v) nodes h) s

    -- what is taken is not settled
    taken_unsettled : takes K m v x ≡ true → nodes ≤ rank_of m v
    taken_unsettled e = ⊎_elim (λ (h : rank_of m v < nodes). absurd (both_ways (takes K m v x) (takes_settled h) e)) (λ (h : nodes ≤ rank_of m v). h) (cases_lt (rank_of m v) nodes)

  -- v takes the label
  pub offered_taken : (m m' : Memory V) (v : ℕ) (x : Ranked Money V) (a : Arc) (mark : Mark) → v < nodes → length m.heads ≡ 258 → 258 ≤ length m.sheet → length m.marks ≡ 129 → mark.rank ≡ None → mark.arc ≡ Some a → takes K m v x ≡ true →
      m' ≡ marked (written m (nodes + v) x) v mark → Offered K m m' v x a
  offered_taken m m' v x a mark lv hl sl ml r q e is =
      let now = written m (nodes + v) x in
      let made : Offered K m (marked now v mark) v x a = record {
        kept = record { old = old_kept K m.heads m.sheet (nodes + v) x (omega arith); ranks = fun_ext (ranks_kept now v mark (omega arith) r (taken_unsettled m v x e)) };
        others = λ u d. record {
          label = bank_set_other K nodes m.heads m.sheet (nodes + v) u x (λ l z. d (omega arith));
          seen = ap is_some (mark_there now v mark u d);
          via = ap arc_in (mark_there now v mark u d);
        };
        left = λ h. absurd (both_ways (takes K m v x) h e);
        taken = λ h. (bank_set_here K nodes m.heads m.sheet v x lv (omega arith) (omega arith), seen_here now v mark (omega arith), via_here now v mark (omega arith) ∙ q);
      } in
      subst (λ m'. Offered K m m' v x a) (sym is) made
