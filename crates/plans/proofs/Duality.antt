-- Weak and strong duality. Assumes nothing.
use Rattle.std.proofs.Common.{◌≡◌, ℕ, ◌+◌, ◌*◌, ◌^◌, ◌<◌, ◌≤◌, cond, IfSome, Some, None, Option, Less, ap, ◌∙◌, mul-le-mul, arith}
use Rattle.amounts.specs.Kind.{Kind, Lawful, law_limit, AtMost}
use Rattle.amounts.specs.Sums.{sum_below, weights, table_sum, weighs, copies}
use Rattle.amounts.specs.Least.{or_none}
use Rattle.amounts.proofs.Order.{larger_weight, at_most_trans, less_then_at_most, plus_at_most_left, plus_at_most_right, plus_minus}
use Rattle.amounts.proofs.Sums.{weights_le, sum_weight, sum_same, sum_plus, sum_at_most}
use Rattle.amounts.proofs.Tables.{weighs_le, table_weight, table_same, table_at_most}
use Rattle.amounts.proofs.Copies.{copies_weight, copies_between}
use Rattle.amounts.proofs.Least.{Lowest, lowest}
use Rattle.plans.specs.Problem.{Problem, Plan, is_open, member, count, total}
use Rattle.plans.specs.Sheets.{toll, cost, cheapest, ceiling, floor}
use Rattle.plans.specs.Theorems.{Sound, Light, WeakDuality, StrongDuality, Tight}
use Rattle.plans.proofs.Climbing.{toll_by_members}
use Rattle.plans.proofs.Counting.{toll_weight, counts_weight, double_counting}

-- the most that a book's cost weighs
abbrev heaviest : ℕ
heaviest = 8 * 10 ^ 12 + 10 ^ 9

module _ {V : Type 0} {K : Kind V} (L : Lawful K) where
  pub quote_light : (o : Option V) → IfSome o (λ x. K.weight x ≤ 10 ^ 9) → K.weight (or_none K o) ≤ 10 ^ 9
  quote_light None h = omega (arith, L.none_weight)
  quote_light (Some x) h = h

  -- a total of at most 120 light quotes
  pub total_light : (B : Problem V) → Sound K B → (p : ℕ → ℕ) → ((b : ℕ) → b < B.books → p b < B.weekends) → K.weight (total K B p) ≤ 120 * 10 ^ 9
  unfolding law_limit total
  total_light B s p sent =
      let n = s.books in
      let h = weights_le K (10 ^ 9) B.books (λ b. or_none K (B.quote b (p b))) (λ b l. quote_light (B.quote b (p b)) (s.quotes b (p b) l (sent b l))) in
      omega (arith, sum_weight L B.books (λ b. or_none K (B.quote b (p b))) (omega arith))

module _ {V : Type 0} {K : Kind V} (L : Lawful K) (B : Problem V) (e : ℕ → ℕ → V) (s : Sound K B) (light : Light K B e) where
  open K use {none, plus, minus, weight}

  abbrev quoted : ℕ → ℕ → V
  quoted b w = or_none K (B.quote b w)

  quoted_light : (b w : ℕ) → b < B.books → w < B.weekends → weight (quoted b w) ≤ 10 ^ 9
  quoted_light b w lb lw = quote_light L (B.quote b w) (s.quotes b w lb lw)

  toll_light : (b w : ℕ) → b < B.books → w < B.weekends → weight (toll K B e b w) ≤ 8 * 10 ^ 12
  unfolding law_limit
  toll_light b w lb lw =
      let h = toll_weight L B.weekends B.classes e s.weekends s.classes light w (member B b) lw in
      omega (arith, ap weight (toll_by_members L B e b w s light lb lw), sum_weight L B.classes (λ c. cond (member B b c) (e w c) none) (omega arith))

  cost_light : (b w : ℕ) → b < B.books → w < B.weekends → weight (cost K B e b w) ≤ heaviest
  unfolding law_limit
  cost_light b w lb lw =
      let t = toll_light b w lb lw in
      let q = quoted_light b w lb lw in
      omega (arith, L.plus_weight (quoted b w) (toll K B e b w) (omega arith))

  ceiling_light : (w c : ℕ) → w < B.weekends → c < B.classes → weight (ceiling K B e w c) ≤ 120 * 10 ^ 12
  unfolding law_limit
  ceiling_light w c lw lc =
      let l = s.lowers w c lw lc in
      let u = s.uppers w c lw lc in
      larger_weight K (120 * 10 ^ 12) _ _
      (omega (arith, copies_weight L (10 ^ 12) (B.lower w c) (e w c) (light w c lw lc) (omega arith)))
      (omega (arith, copies_weight L (10 ^ 12) (B.upper w c) (e w c) (light w c lw lc) (omega arith)))

  module _ (p : ℕ → ℕ) (plan : Plan B p) where
    -- what the plan pays for each entry, and the least that each book can cost
    abbrev paid : ℕ → ℕ → V
    paid w c = copies K (count B p w c) (e w c)

    abbrev lows : ℕ → V
    lows b = or_none K (cheapest K B e b)

    low : (b : ℕ) → b < B.books → Lowest K (is_open B b) (cost K B e b) heaviest B.weekends (lows b)
    unfolding law_limit cheapest
    low b l = lowest L (is_open B b) (cost K B e b) heaviest (omega arith) B.weekends (p b) (λ w k. cost_light b w l k) (plan.sent b l) (plan.meets b l)

    -- what the parts weigh
    record Weighed : Type 0 where
      lows_weigh : weights K B.books lows ≤ 120 * heaviest
      costs_weigh : weights K B.books (λ b. cost K B e b (p b)) ≤ 120 * heaviest
      quotes_weigh : weights K B.books (λ b. quoted b (p b)) ≤ 120 * 10 ^ 9
      tolls_weigh : weights K B.books (λ b. toll K B e b (p b)) ≤ 960 * 10 ^ 12
      paid_weigh : weighs K B.weekends B.classes paid ≤ 15360 * 10 ^ 12
      ceilings_weigh : weighs K B.weekends B.classes (ceiling K B e) ≤ 15360 * 10 ^ 12
      total_weighs : weight (total K B p) ≤ 120 * 10 ^ 9

    weighed : Weighed
    weighed =
        let n = s.books in
        record {
          lows_weigh = omega (arith, weights_le K heaviest B.books lows (λ b l. (low b l).light));
          costs_weigh = omega (arith, weights_le K heaviest B.books (λ b. cost K B e b (p b)) (λ b l. cost_light b (p b) l (plan.sent b l)));
          quotes_weigh = omega (arith, weights_le K (10 ^ 9) B.books (λ b. quoted b (p b)) (λ b l. quoted_light b (p b) l (plan.sent b l)));
          tolls_weigh = omega (arith, weights_le K (8 * 10 ^ 12) B.books (λ b. toll K B e b (p b)) (λ b l. toll_light b (p b) l (plan.sent b l)));
          paid_weigh = counts_weight L B.weekends B.classes e s.weekends s.classes light (count B p) (λ w c lw lc. omega (arith, plan.most w c lw lc, s.uppers w c lw lc));
          ceilings_weigh = omega (arith, mul-le-mul s.weekends s.classes, weighs_le K (120 * 10 ^ 12) B.weekends B.classes (ceiling K B e) ceiling_light);
          total_weighs = total_light L B s p plan.sent;
        }

    abbrev costs_sum : V
    costs_sum = sum_below K B.books (λ b. cost K B e b (p b))

    abbrev ceilings_sum : V
    ceilings_sum = table_sum K B.weekends B.classes (ceiling K B e)

    -- the costs of a plan are its total and what it pays
    costs_are : costs_sum ≡ plus (total K B p) (table_sum K B.weekends B.classes paid)
    unfolding law_limit total
    costs_are =
        let h = weighed in
        sum_plus L B.books (λ b. quoted b (p b)) (λ b. toll K B e b (p b)) (omega arith) ∙ ap (plus (sum_below K B.books (λ b. quoted b (p b)))) (double_counting L B e p s light plan.sent)

    ceilings_light : weight ceilings_sum ≤ 15360 * 10 ^ 12
    unfolding law_limit
    ceilings_light = let h = weighed in omega (arith, table_weight L B.weekends B.classes (ceiling K B e) (omega arith))

    paid_light : weight (table_sum K B.weekends B.classes paid) ≤ 15360 * 10 ^ 12
    unfolding law_limit
    paid_light = let h = weighed in omega (arith, table_weight L B.weekends B.classes paid (omega arith))

    paid_at_most : (w c : ℕ) → w < B.weekends → c < B.classes → AtMost K (paid w c) (ceiling K B e w c)
    unfolding law_limit
    paid_at_most w c lw lc =
        let h = mul-le-mul (s.uppers w c lw lc) (light w c lw lc) in
        copies_between L (B.lower w c) (count B p w c) (B.upper w c) (e w c) (omega (arith, light w c lw lc)) (omega arith) (plan.least w c lw lc) (plan.most w c lw lc)

    -- the total, and the ceilings put on and taken off
    back : plus (plus (total K B p) ceilings_sum) (minus ceilings_sum) ≡ total K B p
    unfolding law_limit
    back = let h = weighed in plus_minus L (total K B p) ceilings_sum (omega (arith, ceilings_light))

    lows_below : AtMost K (sum_below K B.books lows) (plus (total K B p) ceilings_sum)
    unfolding law_limit
    lows_below =
        let h = weighed in
        let b = ceilings_light in
        let c = paid_light in
        let d = sum_weight L B.books lows (omega arith) in
        let f = L.plus_weight (total K B p) ceilings_sum (omega arith) in
        let g = L.plus_weight (total K B p) (table_sum K B.weekends B.classes paid) (omega arith) in
        let one : AtMost K (sum_below K B.books lows) costs_sum = sum_at_most L B.books lows (λ b. cost K B e b (p b)) (omega arith) (λ b l. (low b l).below (p b) (plan.sent b l) (plan.meets b l)) in
        let two : AtMost K (table_sum K B.weekends B.classes paid) ceilings_sum = table_at_most L B.weekends B.classes paid (ceiling K B e) (omega arith) paid_at_most in
        at_most_trans L _ _ _ (omega arith) (rw costs_are at one) (plus_at_most_right L _ _ (total K B p) (omega arith) two)

    floor_at_most : AtMost K (floor K B e) (total K B p)
    unfolding law_limit floor
    floor_at_most =
        let h = weighed in
        let b = ceilings_light in
        let d = sum_weight L B.books lows (omega arith) in
        let f = L.plus_weight (total K B p) ceilings_sum (omega arith) in
        let m = L.minus_weight ceilings_sum (omega arith) in
        rw back at (plus_at_most_left L (sum_below K B.books lows) (plus (total K B p) ceilings_sum) (minus ceilings_sum) (omega arith) lows_below)

    floor_light : weight (floor K B e) ≤ 16321 * 10 ^ 12
    unfolding law_limit floor
    floor_light =
        let h = weighed in
        let b = ceilings_light in
        let d = sum_weight L B.books lows (omega arith) in
        let m = L.minus_weight ceilings_sum (omega arith) in
        omega (arith, L.plus_weight (sum_below K B.books lows) (minus ceilings_sum) (omega arith))

    over : K.cmp B.limit (floor K B e) ≡ Less → K.cmp B.limit (total K B p) ≡ Less
    unfolding law_limit
    over l = let h = weighed in less_then_at_most L B.limit (floor K B e) (total K B p) (omega (arith, floor_light, s.limit)) l floor_at_most

    floor_is : Tight K B e p → floor K B e ≡ total K B p
    unfolding floor
    floor_is tight =
        let first : sum_below K B.books lows ≡ costs_sum = sum_same K B.books lows (λ b. cost K B e b (p b)) (λ b l. (low b l).met (p b) (plan.sent b l) (plan.meets b l) (λ w k y. tight.cheapest b w l k y)) in
        let last : table_sum K B.weekends B.classes paid ≡ ceilings_sum = table_same K B.weekends B.classes paid (ceiling K B e) tight.full in
        ap (λ u. plus u (minus ceilings_sum)) (first ∙ costs_are ∙ ap (plus (total K B p)) last) ∙ back

module _ {V : Type 0} {K : Kind V} (L : Lawful K) where
  pub weak_duality : WeakDuality K
  weak_duality B e p s light plan = floor_at_most L B e s light p plan

  pub strong_duality : StrongDuality K
  strong_duality B e p s light plan tight = floor_is L B e s light p plan tight

  -- a floor over the limit shows that each plan's total is over it
  pub over_limit : (B : Problem V) (e : ℕ → ℕ → V) → Sound K B → Light K B e → K.cmp B.limit (floor K B e) ≡ Less → (p : ℕ → ℕ) → Plan B p → K.cmp B.limit (total K B p) ≡ Less
  over_limit B e s light l p plan = over L B e s light p plan l
