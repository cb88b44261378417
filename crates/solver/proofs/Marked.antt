-- What the marks of the nodes tell, and one of them changed. Assumes nothing.
use Rattle.std.proofs.Common.{◌≡◌, ℕ, ◌<◌, ◌≤◌, true, false, length, get_or, replicate, is_some, Some, None, Option, IfSome, refl, ap, ◌∙◌, ⊎_elim, arith}
use Rattle.std.specs.Option.{unwrap_or}
use Rattle.std.proofs.lemmas.List.{get_or-set_same, get_or-set_other, get_or_past, get_or-replicate, length-replicate}
use Rattle.std.proofs.lemmas.Bool.{cases_lt, cases_eq, both_ways}
use Rattle.plans.proofs.Padding.{get_or_filled}
use Rattle.solver.specs.declared.marks.Mark.{Mark}
use Rattle.solver.specs.Search.{nodes}
use Rattle.solver.specs.Held.{Memory, rank_in, arc_in, marked, seen_of, rank_of, via_of}

low : (o : Option ℕ) → IfSome o (λ r. r < 129) → unwrap_or o nodes ≤ nodes
low None h = omega arith
low (Some r) h = omega arith

pub rank_low : (o : Option Mark) → rank_in o ≤ nodes
rank_low None = omega arith
rank_low (Some mark) = low mark.rank mark.ranked

-- one without a rank tells that the node is not settled
pub unranked : (o : Option ℕ) → is_some o ≡ false → nodes ≤ unwrap_or o nodes
unranked None e = omega arith
unranked (Some r) e = absurd (both_ways true e refl)

-- where all marks are the same, so are they past the nodes, or there are none
module _ {V : Type 0} (m : Memory V) where
  -- no node is marked
  pub none_seen : m.marks ≡ replicate 129 None → (v : ℕ) → seen_of m v ≡ false
  none_seen e v = ap (λ l. is_some (get_or l v None)) e ∙ ap is_some (get_or_filled 129 v None)

  pub none_ranked : m.marks ≡ replicate 129 None → (v : ℕ) → rank_of m v ≡ nodes
  none_ranked e v = ap (λ l. rank_in (get_or l v None)) e ∙ ap rank_in (get_or_filled 129 v None)

  pub none_reached : m.marks ≡ replicate 129 None → (v : ℕ) → via_of m v ≡ None
  none_reached e v = ap (λ l. arc_in (get_or l v None)) e ∙ ap arc_in (get_or_filled 129 v None)

  -- only a node can be marked
  pub seen_within : length m.marks ≡ 129 → (v : ℕ) → seen_of m v ≡ true → v < nodes
  seen_within len v s = ⊎_elim (λ (l : v < nodes). l) (λ (l : nodes ≤ v). absurd (both_ways (seen_of m v) (ap is_some (get_or_past m.marks v None (omega arith))) s)) (cases_lt v nodes)

  -- a mark is made
  module _ (v : ℕ) (mark : Mark) (within : v < length m.marks) where
    pub seen_here : seen_of (marked m v mark) v ≡ true
    seen_here = ap is_some (get_or-set_same m.marks v (Some mark) None within)

    pub rank_here : rank_of (marked m v mark) v ≡ unwrap_or mark.rank nodes
    rank_here = ap rank_in (get_or-set_same m.marks v (Some mark) None within)

    pub via_here : via_of (marked m v mark) v ≡ mark.arc
    via_here = ap arc_in (get_or-set_same m.marks v (Some mark) None within)

  pub mark_there : (v : ℕ) (mark : Mark) (u : ℕ) → (u ≡ v → ⊥) → get_or (marked m v mark).marks u None ≡ get_or m.marks u None
  mark_there v mark u d = get_or-set_other m.marks v u (Some mark) None d

  -- a node that is not settled is marked anew, without a rank
  pub ranks_kept : (v : ℕ) (mark : Mark) → v < length m.marks → mark.rank ≡ None → nodes ≤ rank_of m v → (u : ℕ) → rank_of (marked m v mark) u ≡ rank_of m u
  ranks_kept v mark within e r u = ⊎_elim
      (λ (q : u ≡ v).
      let new : rank_of (marked m v mark) v ≡ nodes = rank_here v mark within ∙ ap (λ o. unwrap_or o nodes) e in
      rw q (omega (arith, new, rank_low (get_or m.marks v None))))
      (λ (d : u ≡ v → ⊥). ap rank_in (mark_there v mark u d))
      (cases_eq u v)

-- every node has the same mark, without rank and arc
module _ {V : Type 0} (m : Memory V) (mark : Mark) (all : m.marks ≡ replicate 129 (Some mark)) where
  pub all_seen : (v : ℕ) → v < nodes → seen_of m v ≡ true
  all_seen v l = ap (λ xs. is_some (get_or xs v None)) all ∙ ap is_some (get_or-replicate 129 v (Some mark) None l)

  past : (v : ℕ) → nodes ≤ v → get_or m.marks v None ≡ None
  past v l = ap (λ xs. get_or xs v None) all ∙ get_or_past (replicate 129 (Some mark)) v None (omega (arith, length-replicate {A = Option Mark} 129 (Some mark)))

  pub all_unranked : mark.rank ≡ None → (v : ℕ) → nodes ≤ rank_of m v
  all_unranked e v = ⊎_elim
      (λ (l : v < nodes).
      let q : rank_of m v ≡ nodes = ap (λ xs. rank_in (get_or xs v None)) all ∙ ap rank_in (get_or-replicate 129 v (Some mark) None l) ∙ ap (λ o. unwrap_or o nodes) e in
      omega arith)
      (λ (l : nodes ≤ v). let q : rank_of m v ≡ nodes = ap rank_in (past v l) in omega arith) (cases_lt v nodes)

  pub all_starts : mark.arc ≡ None → (v : ℕ) → via_of m v ≡ None
  all_starts e v = ⊎_elim
      (λ (l : v < nodes). ap (λ xs. arc_in (get_or xs v None)) all ∙ ap arc_in (get_or-replicate 129 v (Some mark) None l) ∙ e)
      (λ (l : nodes ≤ v). ap arc_in (past v l)) (cases_lt v nodes)
