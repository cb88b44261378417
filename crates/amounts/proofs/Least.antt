-- The least of the values that pass a test: it is one of them, and at most each of them. Assumes nothing.
use Rattle.std.proofs.Common.{◌≡◌, ℕ, zero, suc, ◌*◌, ◌<◌, ◌≤◌, Bool, true, false, cond, Some, None, Option, sym, refl, subst, inr, ⊎_elim, arith}
use Rattle.std.proofs.lemmas.Bool.{cases_eq, both_ways}
use Rattle.amounts.specs.Kind.{Kind, Lawful, law_limit, AtMost, smaller}
use Rattle.amounts.specs.Least.{least_of, better, or_none}
use Rattle.amounts.proofs.Order.{at_most_trans, at_most_both, smaller_left, smaller_right, picked_either}

-- what holds below n and at n holds below suc n
below_suc : (P : ℕ → Type 0) (n : ℕ) → ((w : ℕ) → w < n → P w) → P n → (w : ℕ) → w < suc n → P w
below_suc P n below here w l = ⊎_elim (λ (e : w ≡ n). subst P (sym e) here) (λ (d : w ≡ n → ⊥). below w (omega arith)) (cases_eq w n)

module _ {V : Type 0} (K : Kind V) (t : ℕ → Bool) (v : ℕ → V) where
  -- x is a value that passes, below n
  abbrev pub Reached : ℕ → V → Type 0
  Reached n x = (w : ℕ) × (w < n) × (t w ≡ true) × (x ≡ v w)

  -- what was found is a value that passes and at most each of them; nothing was found where none passes
  abbrev pub IsLeast : ℕ → Option V → Type 0
  IsLeast n None = (w : ℕ) → w < n → t w ≡ true → ⊥
  IsLeast n (Some x) = Reached n x × ((w : ℕ) → w < n → t w ≡ true → AtMost K x (v w))

  -- x weighs at most m, is at most each value that passes below n, and is any of them that is at most all
  pub record Lowest (m n : ℕ) (x : V) : Type 0 where
    pub light : K.weight x ≤ m
    pub below : (w : ℕ) → w < n → t w ≡ true → AtMost K x (v w)
    pub met : (w : ℕ) → w < n → t w ≡ true → ((k : ℕ) → k < n → t k ≡ true → AtMost K (v w) (v k)) → x ≡ v w

  later : (n : ℕ) (x : V) → Reached n x → Reached (suc n) x
  later n x r = (r.0, omega arith, r.2, r.3)

module _ {V : Type 0} {K : Kind V} (L : Lawful K) (t : ℕ → Bool) (v : ℕ → V) (m : ℕ) (room : 3 * m ≤ law_limit) where
  least_step : (n : ℕ) → ((w : ℕ) → w < suc n → K.weight (v w) ≤ m) → (b : Bool) → t n ≡ b → (r : Option V) → IsLeast K t v n r → IsLeast K t v (suc n) (cond b (Some (better K r (v n))) r)
  least_step n h false e None i = below_suc (λ w. t w ≡ true → ⊥) n i (both_ways (t n) e)
  least_step n h false e (Some x) i = (later K t v n x i.0, below_suc (λ w. t w ≡ true → AtMost K x (v w)) n i.1 (λ y. absurd (both_ways (t n) e y)))
  least_step n h true e None i = ((n, omega arith, e, refl), below_suc (λ w. t w ≡ true → AtMost K (v n) (v w)) n (λ w l y. absurd (i w l y)) (λ _. inr refl))
  least_step n h true e (Some x) i =
      let hn : K.weight (v n) ≤ m = h n (omega arith) in
      let hx : K.weight x ≤ m = rw i.0.3 (h i.0.0 (omega arith)) in
      let hs : K.weight (smaller K x (v n)) ≤ m = picked_either K (λ y. K.weight y ≤ m) x (v n) (K.cmp x (v n)) hx hn in (
        picked_either K (Reached K t v (suc n)) x (v n) (K.cmp x (v n)) (later K t v n x i.0) (n, omega arith, e, refl),
        below_suc (λ w. t w ≡ true → AtMost K (smaller K x (v n)) (v w)) n
            (λ w l y. let hw = h w (omega arith) in at_most_trans L (smaller K x (v n)) x (v w) (omega arith) (smaller_left L x (v n) (omega arith)) (i.1 w l y))
            (λ _. smaller_right L x (v n) (omega arith)),
      )

  pub least_is : (n : ℕ) → ((w : ℕ) → w < n → K.weight (v w) ≤ m) → IsLeast K t v n (least_of K n t v)
  unfolding least_of
  least_is zero h = λ w l y. omega arith
  least_is (suc n) h = least_step n h (t n) refl (least_of K n t v) (least_is n (λ w l. h w (omega arith)))

  pub lowest : (n w : ℕ) → ((w : ℕ) → w < n → K.weight (v w) ≤ m) → w < n → t w ≡ true → Lowest K t v m n (or_none K (least_of K n t v))
  lowest n w h l y = go (least_of K n t v) (least_is n h)
    where
      go : (r : Option V) → IsLeast K t v n r → Lowest K t v m n (or_none K r)
      go None i = absurd (i w l y)
      go (Some x) i =
          let hx : K.weight x ≤ m = rw i.0.3 (h i.0.0 i.0.1) in
          record {
            light = hx;
            below = i.1;
            met = λ w' l' y' best. at_most_both L x (v w') (omega (arith, h w' l')) (i.1 w' l' y') (rw i.0.3 (best i.0.0 i.0.1 i.0.2));
          }
