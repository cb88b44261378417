-- Labels that stand in lists, and one of them changed. Assumes nothing.
use Rattle.std.proofs.Common.{◌≡◌, ℕ, ◌+◌, ◌<◌, ◌≤◌, ltb, List, length, set, pos, sym, ap, ◌∙◌, ap₂, ⊎_elim, zero-add, arith}
use mathlib.Core.Path.{fun_ext}
use Rattle.std.proofs.lemmas.List.{get_or-set_same, get_or-set_other}
use Rattle.std.proofs.lemmas.Bool.{cases_lt, cond-true, cond-false, lt-ltb, le-ltb}
use Rattle.amounts.specs.declared.money.Money.{Money}
use Rattle.amounts.specs.declared.ranked.Ranked.{Ranked}
use Rattle.amounts.specs.Kind.{Kind}
use Rattle.amounts.specs.Models.{money, ranked}
use Rattle.solver.specs.Search.{nodes}
use Rattle.solver.specs.Soft.{soft_kind}
use Rattle.solver.specs.Held.{label, bank}

module _ {V : Type 0} (K : Kind V) where
  pub bank_in : (base : ℕ) (heads : List Money) (sheet : List V) (v : ℕ) → v < nodes → bank K base heads sheet v ≡ label K heads sheet (base + v)
  unfolding bank
  bank_in base heads sheet v h = cond-true (ltb v nodes) _ _ (lt-ltb v nodes h)

  pub bank_first : (heads : List Money) (sheet : List V) (v : ℕ) → v < nodes → bank K 0 heads sheet v ≡ label K heads sheet v
  bank_first heads sheet v h = bank_in 0 heads sheet v h ∙ ap (label K heads sheet) (zero-add v)

  pub bank_past : (base : ℕ) (heads : List Money) (sheet : List V) (v : ℕ) → nodes ≤ v → bank K base heads sheet v ≡ (soft_kind K).none
  unfolding bank
  bank_past base heads sheet v h = cond-false (ltb v nodes) _ _ (le-ltb v nodes h)

  label_set_here : (heads : List Money) (sheet : List V) (i : ℕ) (x : Ranked Money V) → i < length heads → i < length sheet → label K (set heads i x.first) (set sheet i x.second) i ≡ x
  label_set_here heads sheet i x h s = ap₂ ranked (get_or-set_same heads i x.first (money (pos 0)) h) (get_or-set_same sheet i x.second K.none s)

  label_set_other : (heads : List Money) (sheet : List V) (i j : ℕ) (x : Ranked Money V) → (j ≡ i → ⊥) → label K (set heads i x.first) (set sheet i x.second) j ≡ label K heads sheet j
  label_set_other heads sheet i j x d = ap₂ ranked (get_or-set_other heads i j x.first (money (pos 0)) d) (get_or-set_other sheet i j x.second K.none d)

  -- the label of v is written
  pub bank_set_here : (base : ℕ) (heads : List Money) (sheet : List V) (v : ℕ) (x : Ranked Money V) → v < nodes → base + v < length heads → base + v < length sheet →
      bank K base (set heads (base + v) x.first) (set sheet (base + v) x.second) v ≡ x
  bank_set_here base heads sheet v x lv h s = bank_in base _ _ v lv ∙ label_set_here heads sheet (base + v) x h s

  -- a label that stands elsewhere is as before
  pub bank_set_other : (base : ℕ) (heads : List Money) (sheet : List V) (i u : ℕ) (x : Ranked Money V) → (u < nodes → base + u ≡ i → ⊥) →
      bank K base (set heads i x.first) (set sheet i x.second) u ≡ bank K base heads sheet u
  bank_set_other base heads sheet i u x d = ⊎_elim
      (λ (l : u < nodes). bank_in base _ _ u l ∙ label_set_other heads sheet i (base + u) x (d l) ∙ sym (bank_in base heads sheet u l))
      (λ (l : nodes ≤ u). bank_past base _ _ u l ∙ sym (bank_past base heads sheet u l)) (cases_lt u nodes)

  -- what is written behind the old labels leaves them as they were
  pub old_kept : (heads : List Money) (sheet : List V) (i : ℕ) (x : Ranked Money V) → nodes ≤ i → bank K 0 (set heads i x.first) (set sheet i x.second) ≡ bank K 0 heads sheet
  old_kept heads sheet i x h = fun_ext (λ u. bank_set_other 0 heads sheet i u x (λ l e. omega arith))

  -- a label in front is written
  pub front_set : (heads : List Money) (sheet : List V) (v : ℕ) (x : Ranked Money V) → v < nodes → length heads ≡ 258 → 258 ≤ length sheet → bank K 0 (set heads v x.first) (set sheet v x.second) v ≡ x
  front_set heads sheet v x lv hl sl = rw (zero-add v) at (bank_set_here 0 heads sheet v x lv (omega arith) (omega arith))

  -- all labels are moved
  pub bank_moved : (base : ℕ) (heads : List Money) (sheet : List V) (base' : ℕ) (heads' : List Money) (sheet' : List V) → ((v : ℕ) → v < nodes → label K heads' sheet' (base' + v) ≡ label K heads sheet (base + v)) →
      bank K base' heads' sheet' ≡ bank K base heads sheet
  bank_moved base heads sheet base' heads' sheet' h = fun_ext (λ v. ⊎_elim
      (λ (l : v < nodes). bank_in base' heads' sheet' v l ∙ h v l ∙ sym (bank_in base heads sheet v l))
      (λ (l : nodes ≤ v). bank_past base' heads' sheet' v l ∙ sym (bank_past base heads sheet v l)) (cases_lt v nodes))

  -- all labels are zero
  pub bank_blank : (base : ℕ) (heads : List Money) (sheet : List V) → ((v : ℕ) → v < nodes → label K heads sheet (base + v) ≡ (soft_kind K).none) → (v : ℕ) → bank K base heads sheet v ≡ (soft_kind K).none
  bank_blank base heads sheet h v = ⊎_elim (λ (l : v < nodes). bank_in base heads sheet v l ∙ h v l) (λ (l : nodes ≤ v). bank_past base heads sheet v l) (cases_lt v nodes)
