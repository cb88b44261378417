-- What holds of every bound of a table. Assumes nothing.
use Rattle.std.proofs.Common.{ℕ, ◌+◌, ◌*◌, ◌≤◌, ◌&&◌, ltb, List, length, get_or, sym, subst, ⊎_elim}
use Rattle.std.specs.List.{All}
use Rattle.std.proofs.lemmas.Bool.{cases_lt, cond_both}
use Rattle.std.proofs.lemmas.List.{get_or_past}
use Rattle.plans.specs.declared.bound_table.Bound.{Bound}
use Rattle.plans.specs.Bounding.{bound, bound_at}

-- what holds of each bound of a table, and of none, holds of the one for each weekend and class
pub bound_holds : (P : Bound → Type 0) (table : List Bound) → P (bound 0 0) → All P table → (w c : ℕ) → P (bound_at table w c)
bound_holds P table none each w c = cond_both (ltb w 16 && ltb c 8) (get_or table (w * 8 + c) (bound 0 0)) (bound 0 0) P (λ _. read) (λ _. none)
  where
    read : P (get_or table (w * 8 + c) (bound 0 0))
    read = ⊎_elim (each (w * 8 + c) (bound 0 0)) (λ (l : length table ≤ w * 8 + c). subst P (sym (get_or_past table (w * 8 + c) (bound 0 0) l)) none) (cases_lt (w * 8 + c) (length table))
