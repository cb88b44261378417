use Rattle.std.proofs.Common.{◌≡◌, ℕ, ◌<◌, ◌≤◌, length, get_or, sym, ◌∙◌, ⊎_elim, arith, length-set}
use Rattle.std.proofs.lemmas.Bool.{cases_eq, cases_lt}
use Rattle.std.proofs.lemmas.Grind.{same_number_lists}
use Rattle.std.proofs.lemmas.List.{get_or-set_same, get_or-set_other, get_or_past, length-replicate}
use Rattle.plans.specs.Rosters.{padded}
use Rattle.plans.proofs.Padding.{get_or_filled, padded_reads, padded_long}
use Rattle.plans.proofs.class_lists.row_of.Goals as goal

pub loop-place-init : goal.loop-place-init
loop-place-init g c = ((λ i l. absurd (omega arith)), (λ i l. get_or_filled {X = ℕ} g.row.N i 0), length-replicate {A = ℕ} g.row.N 0)

pub loop-place-preserved : goal.loop-place-preserved
loop-place-preserved g c =
    let now = c.loop-place.invariant in
    let row = c.loop-place.row in
    let n = c.loop-place.place in
    let x = get_or c.args.numbers.now n 0 in
    let within : n < length row = omega (arith, c.requires.room, now.2) in (
      (λ i l. ⊎_elim (λ (e : i ≡ n). rw e (get_or-set_same row n x 0 within)) (λ (d : i ≡ n → ⊥). get_or-set_other row n i x 0 d ∙ now.0 i (omega arith)) (cases_eq i n)),
      (λ i l. get_or-set_other row n i x 0 (λ e. omega arith) ∙ now.1 i (omega arith)),
      length-set row n x ∙ now.2,
    )

pub returns : goal.returns
returns g c =
    let now = c.loop-place.invariant in
    let xs = c.args.numbers.now in
    let read : (i : ℕ) → get_or c.loop-place.row i 0 ≡ get_or xs i 0 =
    λ i. ⊎_elim (λ (l : i < length xs). now.0 i (omega arith)) (λ (l : length xs ≤ i). now.1 i (omega arith) ∙ sym (get_or_past xs i 0 l)) (cases_lt i (length xs)) in
    same_number_lists c.loop-place.row (padded g.row.N xs) (omega (arith, now.2, padded_long g.row.N xs c.requires.room)) (λ i l. read i ∙ sym (padded_reads g.row.N xs i))
