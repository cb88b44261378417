-- Double counting: the tolls that are paid, by books and by entries. Assumes nothing.
use Rattle.std.proofs.Common.{◌≡◌, ℕ, zero, suc, ◌*◌, ◌^◌, ◌<◌, ◌≤◌, Bool, cond, ◌&&◌, eqb, sym, refl, ◌∙◌, ap₂, mul-le-mul, arith}
use Rattle.amounts.specs.Kind.{Kind, Lawful, law_limit}
use Rattle.amounts.specs.Sums.{sum_below, weights, table_sum, weighs, copies, tally}
use Rattle.amounts.proofs.Order.{cond_weight}
use Rattle.amounts.proofs.Numbers.{tally_le}
use Rattle.amounts.proofs.Sums.{weights_le, sum_weight, sum_same, sum_none, sum_pick}
use Rattle.amounts.proofs.Tables.{weighs_le, table_same, table_plus, row_when}
use Rattle.amounts.proofs.Copies.{copies_weight, copies_when}
use Rattle.plans.specs.Problem.{member, count}
use Rattle.plans.specs.Theorems.{DoubleCounting}
use Rattle.plans.proofs.Climbing.{toll_by_members}

module _ {V : Type 0} {K : Kind V} (L : Lawful K) where
  open K use {none, plus, weight}

  module _ (W C : ℕ) (e : ℕ → ℕ → V) (ws : W ≤ 16) (cs : C ≤ 8) (light : (w c : ℕ) → w < W → c < C → weight (e w c) ≤ 10 ^ 12) where
    pub toll_weight : (w : ℕ) (t : ℕ → Bool) → w < W → weights K C (λ c. cond (t c) (e w c) none) ≤ 8 * 10 ^ 12
    toll_weight w t l = omega (arith, weights_le K (10 ^ 12) C (λ c. cond (t c) (e w c) none) (λ c k. cond_weight L (10 ^ 12) (t c) (e w c) (light w c l k)))

    -- the entries that one book pays
    paid_by_one : (j : ℕ) (t : ℕ → Bool) → j < W → table_sum K W C (λ w c. cond (eqb j w && t c) (e w c) none) ≡ sum_below K C (λ c. cond (t c) (e j c) none)
    unfolding table_sum law_limit
    paid_by_one j t l =
        let h = toll_weight j t l in
        sum_same K W _ _ (λ w k. row_when L C (eqb j w) t (e w))
        ∙ sum_pick L W j (λ w. sum_below K C (λ c. cond (t c) (e w c) none)) l (omega (arith, sum_weight L C (λ c. cond (t c) (e j c) none) (omega arith)))

    -- so many copies of each entry weigh at most this much together
    pub counts_weight : (k : ℕ → ℕ → ℕ) → ((w c : ℕ) → w < W → c < C → k w c ≤ 120) → weighs K W C (λ w c. copies K (k w c) (e w c)) ≤ 15360 * 10 ^ 12
    unfolding law_limit
    counts_weight k h =
        omega (
          arith,
          mul-le-mul ws cs,
          weighs_le K (120 * 10 ^ 12) W C (λ w c. copies K (k w c) (e w c)) (λ w c a b.
              let n = h w c a b in
              omega (arith, copies_weight L (10 ^ 12) (k w c) (e w c) (light w c a b) (omega arith))),
        )

    counted : (p : ℕ → ℕ) (t : ℕ → ℕ → Bool) (n : ℕ) → n ≤ 120 → ((b : ℕ) → b < n → p b < W) →
        sum_below K n (λ b. sum_below K C (λ c. cond (t b c) (e (p b) c) none)) ≡ table_sum K W C (λ w c. copies K (tally n (λ b. eqb (p b) w && t b c)) (e w c))
    unfolding law_limit sum_below tally copies table_sum
    counted p t zero h sent = sym (sum_none L W _ (λ w k. sum_none L C _ (λ c l. refl)))
    counted p t (suc n) h sent =
        let here = sent n (omega arith) in
        let before = counts_weight (λ w c. tally n (λ b. eqb (p b) w && t b c)) (λ w c _ _. omega (arith, tally_le n (λ b. eqb (p b) w && t b c))) in
        let now = weighs_le K (10 ^ 12) W C (λ w c. cond (eqb (p n) w && t n c) (e w c) none) (λ w c a b. cond_weight L (10 ^ 12) (eqb (p n) w && t n c) (e w c) (light w c a b)) in
        let few = mul-le-mul ws cs in
        ap₂ plus (counted p t n (omega arith) (λ b l. sent b (omega arith))) (sym (paid_by_one (p n) (t n) here))
        ∙ sym (table_plus L W C (λ w c. copies K (tally n (λ b. eqb (p b) w && t b c)) (e w c)) (λ w c. cond (eqb (p n) w && t n c) (e w c) none) (omega arith))
        ∙ sym (table_same K W C _ _ (λ w c a b.
        let m = tally_le n (λ b. eqb (p b) w && t b c) in
        copies_when L (eqb (p n) w && t n c) (tally n (λ b. eqb (p b) w && t b c)) (e w c) (omega (arith, copies_weight L (10 ^ 12) (tally n (λ b. eqb (p b) w && t b c)) (e w c) (light w c a b) (omega arith)))))

  pub double_counting : DoubleCounting K
  unfolding count
  double_counting B e p s light sent =
      sum_same K B.books _ _ (λ b l. toll_by_members L B e b (p b) s light l (sent b l))
      ∙ counted B.weekends B.classes e s.weekends s.classes light p (member B) B.books s.books sent
