-- The prices of soft bounds are convex. Assumes nothing.
use Rattle.std.proofs.Common.{◌≡◌, ℕ, suc, ◌*◌, ◌<◌, ◌≤◌, leb, sym, refl, subst, inl, inr, ⊎_elim, mul-le-mul_right, arith}
use Rattle.std.proofs.lemmas.Bool.{cases_lt, le-leb, cond_both}
use Rattle.amounts.specs.Kind.{Kind, Lawful, law_limit, AtMost}
use Rattle.amounts.specs.Sums.{copies}
use Rattle.amounts.proofs.Order.{at_most_trans, plus_minus, minus_minus, minus_none, minus_at_most}
use Rattle.amounts.proofs.Copies.{copies_weight}
use Rattle.amounts.specs.MoneyLaws.{money_lawful}
use Rattle.amounts.specs.RankedLaws.{ranked_lawful}
use Rattle.solver.specs.Soft.{broken, fine, rise, fall, soft_kind, violation, Convex}
use Rattle.solver.specs.Flows.{SoftConvex}
use Rattle.solver.proofs.Rises.{rise_under, rise_inside, rise_over, fall_under, fall_inside, fall_over}

module _ {V : Type 0} {K : Kind V} (L : Lawful K) where
  open K use {none, plus, minus, weight}

  module _ (one : V) (positive : AtMost K none one) (lower upper : ℕ) (bounds : lower ≤ upper) (top : ℕ) (low : lower ≤ top) (room : 8 * (suc top * weight one) ≤ law_limit) where
    -- what a number of members is to the bounds
    data Place (m : ℕ) : Type 0 where
      under : m < lower → rise K one lower upper m ≡ minus one → Place m
      inside : lower ≤ m → m < upper → rise K one lower upper m ≡ none → Place m
      over : upper ≤ m → rise K one lower upper m ≡ one → Place m

    place : (m : ℕ) → Place m
    place m = ⊎_elim (λ (h : m < lower). under h (rise_under K one lower upper m h))
        (λ (h : lower ≤ m). ⊎_elim (λ (g : m < upper). inside h g (rise_inside K one lower upper m h g)) (λ (g : upper ≤ m). over g (rise_over K one lower upper m h g)) (cases_lt m upper))
        (cases_lt m lower)

    light : weight one ≤ suc top * weight one
    light = omega arith

    copies_light : (k : ℕ) → k ≤ suc top → weight (copies K k one) ≤ suc top * weight one
    copies_light k l = let m : k * weight one ≤ suc top * weight one = mul-le-mul_right (weight one) l in omega (arith, copies_weight L (weight one) k one (omega arith) (omega arith))

    steps : (m : ℕ) → m < top → fine K one lower upper (suc m) ≡ plus (fine K one lower upper m) (rise K one lower upper m)
    unfolding fine copies
    steps m l = go (place m)
      where
        go : Place m → copies K (broken lower upper (suc m)) one ≡ plus (copies K (broken lower upper m) one) (rise K one lower upper m)
        go (under h e) =
            let a : broken lower upper m ≡ suc (broken lower upper (suc m)) = omega arith in
            let c = copies_light (broken lower upper (suc m)) (omega arith) in
            let o = light in
            rw (a, e) (sym (plus_minus L (copies K (broken lower upper (suc m)) one) one (omega arith)))
        go (inside h g e) =
            let a : broken lower upper m ≡ 0 = omega arith in
            let b : broken lower upper (suc m) ≡ 0 = omega arith in
            rw (a, b, e) (sym (L.unit none (omega (arith, L.none_weight))))
        go (over h e) =
            let a : broken lower upper (suc m) ≡ suc (broken lower upper m) = omega arith in
            rw (a, e) refl

    backs : (m : ℕ) → fall K one lower upper (suc m) ≡ minus (rise K one lower upper m)
    backs m = go (place m)
      where
        go : Place m → fall K one lower upper (suc m) ≡ minus (rise K one lower upper m)
        go (under h e) = let o = light in rw (fall_under K one lower upper (suc m) h, e) (sym (minus_minus L one (omega arith)))
        go (inside h g e) = rw (fall_inside K one lower upper (suc m) (omega arith) g, e) (sym (minus_none L))
        go (over h e) = rw (fall_over K one lower upper (suc m) (omega arith) (omega arith), e) refl

    below_none : AtMost K (minus one) none
    below_none = let o = light in rw (minus_none L) at (minus_at_most L none one (omega (arith, L.none_weight)) positive)

    below_one : AtMost K (minus one) one
    below_one = let o = light in at_most_trans L (minus one) none one (omega (arith, L.none_weight, L.minus_weight one (omega arith))) below_none positive

    grow : (m : ℕ) → AtMost K (rise K one lower upper m) (rise K one lower upper (suc m))
    grow m = go (place m) (place (suc m))
      where
        go : Place m → Place (suc m) → AtMost K (rise K one lower upper m) (rise K one lower upper (suc m))
        go (under h e) (under k d) = rw (e, d) (inr refl)
        go (under h e) (inside k j d) = rw (e, d) below_none
        go (under h e) (over k d) = rw (e, d) below_one
        go (inside h g e) (under k d) = absurd (omega arith)
        go (inside h g e) (inside k j d) = rw (e, d) (inr refl)
        go (inside h g e) (over k d) = rw (e, d) positive
        go (over h e) (under k d) = absurd (omega arith)
        go (over h e) (inside k j d) = absurd (omega arith)
        go (over h e) (over k d) = rw (e, d) (inr refl)

    rise_weight : (m : ℕ) → weight (rise K one lower upper m) ≤ suc top * weight one
    rise_weight m = go (place m)
      where
        go : Place m → weight (rise K one lower upper m) ≤ suc top * weight one
        go (under h e) = rw e (omega (arith, light, L.minus_weight one (omega (arith, light))))
        go (inside h g e) = rw e (omega (arith, L.none_weight))
        go (over h e) = rw e light

    firsts : AtMost K (fall K one lower upper 1) (fall K one lower upper 0)
    unfolding fall
    firsts =
        rw (le-leb 0 lower (omega arith))
        (cond_both (leb 1 lower) one _ (λ x. AtMost K x one) (λ _. inr refl) (λ _. cond_both (leb 1 upper) none (minus one) (λ x. AtMost K x one) (λ _. positive) (λ _. below_one)))

    fall_weight : (m : ℕ) → weight (fall K one lower upper m) ≤ suc top * weight one
    unfolding fall
    fall_weight m = cond_both (leb m lower) one _ (λ x. weight x ≤ suc top * weight one) (λ _. light)
        (λ _. cond_both (leb m upper) none (minus one) (λ x. weight x ≤ suc top * weight one) (λ _. omega (arith, L.none_weight)) (λ _. omega (arith, light, L.minus_weight one (omega (arith, light)))))

    convex_of : Convex K top (suc top * weight one) (fine K one lower upper) (rise K one lower upper) (fall K one lower upper)
    unfolding fine
    convex_of = record {
      step = steps;
      back = backs;
      first = firsts;
      grows = grow;
      price_light = λ m l. copies_light (broken lower upper m) (omega arith);
      rise_light = rise_weight;
      fall_light = fall_weight;
    }

module _ {V : Type 0} {K : Kind V} (L : Lawful K) where
  pub soft_lawful : Lawful (soft_kind K)
  soft_lawful = ranked_lawful money_lawful L

  pub one_light : (soft_kind K).weight (violation K) ≡ 1
  one_light = omega (arith, L.none_weight)

  pub one_positive : AtMost (soft_kind K) (soft_kind K).none (violation K)
  one_positive = inl refl

  pub soft_convex : SoftConvex K
  unfolding law_limit
  soft_convex lower upper h low =
      let o : 121 * (soft_kind K).weight (violation K) ≡ 121 = rw one_light refl in
      subst (λ n. Convex (soft_kind K) 120 n (fine (soft_kind K) (violation K) lower upper) (rise (soft_kind K) (violation K) lower upper) (fall (soft_kind K) (violation K) lower upper)) o
      (convex_of soft_lawful (violation K) one_positive lower upper h 120 low (omega arith))
