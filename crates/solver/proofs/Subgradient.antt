-- An entry between the last step and the next is a subgradient of convex prices. Assumes nothing.
use Rattle.std.proofs.Common.{◌≡◌, ℕ, zero, suc, ◌+◌, ◌-◌, ◌*◌, ◌<◌, ◌≤◌, sym, refl, subst, inr, ⊎_elim, mul-le-mul_right, arith}
use Rattle.std.proofs.lemmas.Bool.{cases_lt}
use Rattle.amounts.specs.Kind.{Kind, Lawful, law_limit, AtMost}
use Rattle.amounts.specs.Sums.{copies}
use Rattle.amounts.proofs.Order.{at_most_trans, plus_at_most, plus_turn, at_most_from_difference}
use Rattle.amounts.proofs.Copies.{copies_weight}
use Rattle.solver.specs.Soft.{Convex}

module _ {V : Type 0} {K : Kind V} (L : Lawful K) where
  open K use {none, plus, minus, weight}

  -- one amount more on both sides of an inequality between sums, put right of the second part or of the first
  -- Stays, and is not `linear`, which asks that six times these weights are light (`omega`: the goal does not follow): twice them is what `Subgradient` leaves room for
  add_both : (p c q d e r : V) → 2 * (weight p + weight c + weight q + weight d + weight e + weight r) ≤ law_limit → AtMost K (plus p c) (plus q d) → AtMost K e r →
      AtMost K (plus p (plus c e)) (plus (plus q r) d)
  add_both p c q d e r h a b =
      let s = L.plus_weight p c (omega arith) in
      let t = L.plus_weight q d (omega arith) in
      let l = L.assoc p c e (omega arith) in
      let m = plus_turn L q r d (omega arith) in
      rw (← l, m) (plus_at_most L (plus p c) (plus q d) e r (omega arith) a b)

  add_both_left : (p c q d e r : V) → 2 * (weight p + weight c + weight q + weight d + weight e + weight r) ≤ law_limit → AtMost K (plus p c) (plus q d) → AtMost K r e →
      AtMost K (plus (plus p r) c) (plus q (plus d e))
  add_both_left p c q d e r h a b =
      let s = L.plus_weight p c (omega arith) in
      let t = L.plus_weight q d (omega arith) in
      let l = L.assoc q d e (omega arith) in
      let m = plus_turn L p r c (omega arith) in
      rw (← l, m) (plus_at_most L (plus p c) (plus q d) r e (omega arith) a b)

  -- rise m ≤ rise (m + d)
  pub rises : (top heavy : ℕ) (price rise fall : ℕ → V) → Convex K top heavy price rise fall → 3 * heavy ≤ law_limit → (m d : ℕ) → AtMost K (rise m) (rise (m + d))
  rises top heavy price rise fall x h m zero = let e : m + 0 ≡ m = omega arith in rw e (inr refl)
  rises top heavy price rise fall x h m (suc d) =
      let e : m + suc d ≡ suc (m + d) = omega arith in
      rw e (at_most_trans L _ (rise (m + d)) _ (omega (arith, x.rise_light m, x.rise_light (m + d), x.rise_light (suc (m + d)))) (rises top heavy price rise fall x h m d) (x.grows (m + d)))

  module _ (top heavy : ℕ) (price rise fall : ℕ → V) (x : Convex K top heavy price rise fall) (e : V) (big : ℕ) (we : weight e ≤ big) (room : 8 * (heavy + suc top * big) ≤ law_limit) where
    many : (k : ℕ) → k ≤ suc top → weight (copies K k e) ≤ suc top * big
    many k l = let m : k * big ≤ suc top * big = mul-le-mul_right big l in omega (arith, copies_weight L big k e we (omega arith))

    -- where each step from f on is at least e
    up : (f d : ℕ) → f + d ≤ top → ((k : ℕ) → AtMost K e (rise (f + k))) → AtMost K (plus (price f) (copies K (f + d) e)) (plus (price (f + d)) (copies K f e))
    unfolding copies
    up f zero l h = let z : f + 0 ≡ f = omega arith in rw z (inr refl)
    up f (suc d) l h =
        let z : f + suc d ≡ suc (f + d) = omega arith in
        let r = x.rise_light (f + d) in
        let one : weight e ≤ suc top * big = omega arith in
        rw (z, x.step (f + d) (omega arith))
        (add_both (price f) (copies K (f + d) e) (price (f + d)) (copies K f e) e (rise (f + d))
        (omega (arith, many (f + d) (omega arith), many f (omega arith), x.price_light f (omega arith), x.price_light (f + d) (omega arith)))
        (up f d (omega arith) h) (h d))

    -- where each step before f is at most e
    down : (m d : ℕ) → m + d ≤ top → ((k : ℕ) → k < d → AtMost K (rise (m + k)) e) → AtMost K (plus (price (m + d)) (copies K m e)) (plus (price m) (copies K (m + d) e))
    unfolding copies
    down m zero l h = let z : m + 0 ≡ m = omega arith in rw z (inr refl)
    down m (suc d) l h =
        let z : m + suc d ≡ suc (m + d) = omega arith in
        let r = x.rise_light (m + d) in
        let one : weight e ≤ suc top * big = omega arith in
        rw (z, x.step (m + d) (omega arith))
        (add_both_left (price (m + d)) (copies K m e) (price m) (copies K (m + d) e) e (rise (m + d))
        (omega (arith, many (m + d) (omega arith), many m (omega arith), x.price_light m (omega arith), x.price_light (m + d) (omega arith)))
        (down m d (omega arith) (λ k j. h k (omega arith))) (h d (omega arith)))

    -- e is between the last step and the next at f: price f - f e ≤ price m - m e for each m
    pub subgradient : (f m : ℕ) → f ≤ top → m ≤ top → AtMost K e (rise f) → AtMost K none (plus e (fall f)) → AtMost K (plus (price f) (copies K m e)) (plus (price m) (copies K f e))
    subgradient f m lf lm a b =
        let one : weight e ≤ suc top * big = omega arith in
        ⊎_elim (λ (h : m < f). go f lf h b) (λ (h : f ≤ m).
        let d : m ≡ f + (m - f) = omega arith in
        subst (λ k. AtMost K (plus (price f) (copies K k e)) (plus (price k) (copies K f e))) (sym d) (up f (m - f) (omega arith)
        (λ k. at_most_trans L e (rise f) (rise (f + k)) (omega (arith, x.rise_light f, x.rise_light (f + k))) a (rises top heavy price rise fall x (omega arith) f k))))
        (cases_lt m f)
      where
        go : (f : ℕ) → f ≤ top → m < f → AtMost K none (plus e (fall f)) → AtMost K (plus (price f) (copies K m e)) (plus (price m) (copies K f e))
        go zero l h b = absurd (omega arith)
        go (suc f) l h b =
            let one : weight e ≤ suc top * big = omega arith in
            let c : AtMost K (rise f) e = at_most_from_difference L (rise f) e (omega (arith, x.rise_light f)) (rw (x.back f) at b) in
            let d : suc f ≡ m + (suc f - m) = omega arith in
            subst (λ k. AtMost K (plus (price k) (copies K m e)) (plus (price m) (copies K k e))) (sym d) (down m (suc f - m) (omega arith)
            (λ k j. let g : f ≡ m + k + (f - (m + k)) = omega arith in
            let s : AtMost K (rise (m + k)) (rise f) = subst (λ u. AtMost K (rise (m + k)) (rise u)) (sym g) (rises top heavy price rise fall x (omega arith) (m + k) (f - (m + k))) in
            at_most_trans L (rise (m + k)) (rise f) e (omega (arith, x.rise_light f, x.rise_light (m + k))) s c))
