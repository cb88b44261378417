-- A book more at a weekend: what the counts gain on the way up the classes. Assumes nothing.
use Rattle.std.proofs.Common.{◌≡◌, ℕ, zero, suc, ◌+◌, ◌<◌, ◌≤◌, Bool, true, false, ◌&&◌, ◌||◌, eqb, List, length, set, refl, ap, ◌∙◌, ⊎_elim, arith}
use Rattle.std.proofs.lemmas.List.{get_or-set_same, get_or-set_other}
use Rattle.std.proofs.lemmas.Bool.{cases_eq, cases_Bool, eq-eqb, eqb-true, and_from, and_parts}
use Rattle.amounts.specs.Sums.{bit}
use Rattle.plans.specs.Places.{at}
use Rattle.plans.specs.Problem.{climbs}
use Rattle.plans.proofs.Climbing.{climbs_two, climbs_le}
use Rattle.solver.specs.Residual.{node}

-- one more at a place is one more at one node alone
pub raised : (counts : List ℕ) (w₀ c₀ w c : ℕ) → c₀ < 8 → c < 8 → node w₀ c₀ < length counts →
    at (set counts (node w₀ c₀) (at counts (node w₀ c₀) + 1)) (node w c) ≡ at counts (node w c) + bit (eqb w₀ w && eqb c₀ c)
raised counts w₀ c₀ w c h₀ h within =
    ⊎_elim
    (λ (e : node w c ≡ node w₀ c₀).
    let same : (eqb w₀ w && eqb c₀ c) ≡ true = and_from (eqb w₀ w) (eqb c₀ c) (eq-eqb w₀ w (omega arith)) (eq-eqb c₀ c (omega arith)) in
    rw (e, same, get_or-set_same counts (node w₀ c₀) (at counts (node w₀ c₀) + 1) 0 within) refl)
    (λ (d : node w c ≡ node w₀ c₀ → ⊥).
    rw (get_or-set_other counts (node w₀ c₀) (node w c) (at counts (node w₀ c₀) + 1) 0 d, apart d) (omega arith))
    (cases_eq (node w c) (node w₀ c₀))
  where
    apart : (node w c ≡ node w₀ c₀ → ⊥) → (eqb w₀ w && eqb c₀ c) ≡ false
    apart d =
        ⊎_elim
        (λ (t : (eqb w₀ w && eqb c₀ c) ≡ true).
        let parts = and_parts (eqb w₀ w) (eqb c₀ c) t in
        absurd (d (omega (arith, eqb-true w₀ w parts.0, eqb-true c₀ c parts.1))))
        (λ (f : (eqb w₀ w && eqb c₀ c) ≡ false). f)
        (cases_Bool (eqb w₀ w && eqb c₀ c))

module _ (parent : ℕ → ℕ) (root : parent 0 ≡ 0) (C : ℕ) (down : (c : ℕ) → 0 < c → c < C → parent c < c) where
  split : (s t u : Bool) → (t ≡ true → u ≡ true → ⊥) → bit (s && (t || u)) ≡ bit (s && t) + bit (s && u)
  split true true true n = absurd (n refl refl)
  split true true false n = refl
  split true false true n = refl
  split true false false n = refl
  split false t u n = refl

  -- a class is met once: here, or above its parent
  pub met_once : (s : Bool) (x c : ℕ) → (x ≡ 0 → ⊥) → x < C → bit (s && climbs parent x x c) ≡ bit (s && eqb x c) + bit (s && climbs parent (parent x) (parent x) c)
  met_once s zero c z l = absurd (z refl)
  met_once s (suc x) c z l =
      let up = down (suc x) (omega arith) l in
      let y = parent (suc x) in
      ap (λ u. bit (s && (eqb (suc x) c || u))) (climbs_two parent root C down x y y c (omega arith) (omega arith) (omega arith))
      ∙ split s (eqb (suc x) c) (climbs parent y y c) (λ e m. omega (arith, eqb-true (suc x) c e, climbs_le parent root C down y y c (omega arith) m))

  -- the counts after one more at x, the last class of the way, or with p still to come
  module _ (few : C ≤ 8) (counts : List ℕ) (long : length counts ≡ 128) (w₀ x : ℕ) (near : w₀ < 16) (known : x < C) (w c : ℕ) (h : c < 8) where
    here : at (set counts (node w₀ x) (at counts (node w₀ x) + 1)) (node w c) ≡ at counts (node w c) + bit (eqb w₀ w && eqb x c)
    here = raised counts w₀ x w c (omega arith) h (omega arith)

    pub entered_more : (x ≡ 0 → ⊥) → (p after : ℕ) → p ≡ parent x → after ≡ at (set counts (node w₀ x) (at counts (node w₀ x) + 1)) (node w c) + bit (eqb w₀ w && climbs parent p p c) →
        after ≡ at counts (node w c) + bit (eqb w₀ w && climbs parent x x c)
    entered_more z p after e is =
        let above = ap (λ y. bit (eqb w₀ w && climbs parent y y c)) e in
        omega (arith, is, here, above, met_once (eqb w₀ w) x c z known)
