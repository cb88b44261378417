-- The head check in money: entries of a few coins come out as whole numbers do. Assumes nothing.
use Rattle.std.proofs.Common.{◌≡◌, ℕ, zero, suc, ◌+◌, ◌*◌, ◌<◌, ◌≤◌, Bool, true, false, cond, not, ◌||◌, ℤ, pos, ◌+ℤ◌, neg_ℤ, nat_abs, is_some, Some, None, Option, sym, refl, ap, ◌∙◌, ap₂, mul-le-mul, arith}
use Rattle.std.specs.Ordering.{is_lt}
use Rattle.amounts.specs.declared.money.Money.{Money}
use Rattle.amounts.specs.Kind.{Kind, Lawful, law_limit, larger}
use Rattle.amounts.specs.Sums.{sum_below, weights, table_sum, weighs, copies}
use Rattle.amounts.specs.Least.{least_of, better, or_none}
use Rattle.amounts.specs.Models.{compare_z, money, money_kind, integers}
use Rattle.amounts.proofs.Order.{larger_weight}
use Rattle.amounts.proofs.Sums.{weights_le, sum_weight, sum_same}
use Rattle.amounts.proofs.Tables.{weighs_le, table_weight, table_same}
use Rattle.amounts.proofs.Copies.{copies_weight}
use Rattle.amounts.proofs.Least.{IsLeast, least_is}
use Rattle.amounts.specs.MoneyLaws.{money_lawful}
use Rattle.amounts.proofs.Coins.{money_plus, money_minus, money_sum, money_copies, money_table, money_smaller, money_larger}
use Rattle.plans.specs.Problem.{Problem, is_open}
use Rattle.plans.specs.Sheets.{goes, stranded, upward, toll, cost, cheapest, ceiling, floor, accepts, counted, recounted, heads}
use Rattle.plans.proofs.Below.{some_same, least_same}

-- ---- the least of several, in coins and in whole numbers
abbrev valued : Option Money → Option ℤ
valued None = None
valued (Some x) = Some x.value

value_or_none : (r : Option Money) → (or_none money_kind r).value ≡ or_none integers (valued r)
value_or_none None = refl
value_or_none (Some x) = refl

better_coined : (r : Option Money) (x : Money) → (better money_kind r x).value ≡ better integers (valued r) x.value
better_coined None x = refl
better_coined (Some y) x = money_smaller y x

least_coined : (n : ℕ) (t : ℕ → Bool) (v : ℕ → Money) → valued (least_of money_kind n t v) ≡ least_of integers n t (λ i. (v i).value)
unfolding least_of
least_coined zero t v = refl
least_coined (suc n) t v = step (t n) (least_of money_kind n t v) (v n) ∙ ap (λ r. cond (t n) (Some (better integers r (v n).value)) r) (least_coined n t v)
  where
    step : (b : Bool) (r : Option Money) (x : Money) → valued (cond b (Some (better money_kind r x)) r) ≡ cond b (Some (better integers (valued r) x.value)) (valued r)
    step true r x = ap Some (better_coined r x)
    step false r x = refl

-- the least of light values is light
least_light : {V : Type 0} {K : Kind V} (L : Lawful K) (t : ℕ → Bool) (v : ℕ → V) (m : ℕ) → 3 * m ≤ law_limit → (n : ℕ) → ((w : ℕ) → w < n → K.weight (v w) ≤ m) → K.weight (or_none K (least_of K n t v)) ≤ m
least_light {V} {K} L t v m room n h = go (least_of K n t v) (least_is L t v m room n h)
  where
    go : (r : Option V) → IsLeast K t v n r → K.weight (or_none K r) ≤ m
    go None i = omega (arith, L.none_weight)
    go (Some x) i = rw i.0.3 (h i.0.0 i.0.1)

counted_open : {V : Type 0} (q : Option V) → is_some (counted (money (pos 0)) q) ≡ is_some (counted (pos 0) q)
counted_open None = refl
counted_open (Some x) = refl

counted_coin : {V : Type 0} (q : Option V) → or_none money_kind (counted (money (pos 0)) q) ≡ money (pos 0)
counted_coin None = refl
counted_coin (Some x) = refl

counted_none : {V : Type 0} (q : Option V) → or_none integers (counted (pos 0) q) ≡ pos 0
counted_none None = refl
counted_none (Some x) = refl

-- ---- the problem with every quote counted no coins, and entries of at most 128 coins
module _ {V : Type 0} (B : Problem V) (e : ℕ → ℕ → Money) (few : B.books ≤ 120) (ws : B.weekends ≤ 16) (cs : B.classes ≤ 8) (classed : (b : ℕ) → b < B.books → B.class b < B.classes)
    (lowers : (w c : ℕ) → w < B.weekends → c < B.classes → B.lower w c ≤ 120) (uppers : (w c : ℕ) → w < B.weekends → c < B.classes → B.upper w c ≤ 120)
    (light : (w c : ℕ) → nat_abs (e w c).value ≤ 128) where
  abbrev coined : Problem Money
  coined = recounted B (money (pos 0))

  -- the entries as whole numbers
  abbrev whole : ℕ → ℕ → ℤ
  whole w c = (e w c).value

  upward_coined : (parent : ℕ → ℕ) (w k x : ℕ) → k ≤ 8 → ((upward money_kind parent (e w) k x).value ≡ upward integers parent (whole w) k x) × (nat_abs (upward money_kind parent (e w) k x).value ≤ 128 + 128 * k)
  unfolding upward law_limit
  upward_coined parent w zero x h = (refl, omega (arith, light w x))
  upward_coined parent w (suc k) zero h = (refl, omega (arith, light w 0))
  upward_coined parent w (suc k) (suc x) h =
      let own = light w (suc x) in
      let up = upward_coined parent w k (parent (suc x)) (omega arith) in
      let rest = upward money_kind parent (e w) k (parent (suc x)) in
      (money_plus (e w (suc x)) rest (omega arith) ∙ ap (λ z. (e w (suc x)).value +ℤ z) up.0, omega (arith, money_lawful.plus_weight (e w (suc x)) rest (omega arith)))

  toll_coined : (b w : ℕ) → b < B.books → ((toll money_kind coined e b w).value ≡ toll integers (heads B) whole b w) × (nat_abs (toll money_kind coined e b w).value ≤ 1152)
  unfolding toll
  toll_coined b w lb =
      let c = classed b lb in
      let u = upward_coined B.parent w (B.class b) (B.class b) (omega arith) in
      (u.0, omega arith)

  cost_coined : (b w : ℕ) → b < B.books → ((cost money_kind coined e b w).value ≡ cost integers (heads B) whole b w) × (nat_abs (cost money_kind coined e b w).value ≤ 1152)
  unfolding law_limit
  cost_coined b w lb =
      let t = toll_coined b w lb in
      let q = or_none money_kind (counted (money (pos 0)) (B.quote b w)) in
      let none : nat_abs q.value ≡ 0 = ap (λ x. nat_abs x.value) (counted_coin (B.quote b w)) in (
        money_plus q (toll money_kind coined e b w) (omega arith) ∙ ap₂ ◌+ℤ◌ (ap (λ x. x.value) (counted_coin (B.quote b w)) ∙ sym (counted_none (B.quote b w))) t.0,
        omega (arith, money_lawful.plus_weight q (toll money_kind coined e b w) (omega arith)),
      )

  abbrev lows : ℕ → Money
  lows b = or_none money_kind (cheapest money_kind coined e b)

  lows_light : (b : ℕ) → b < B.books → nat_abs (lows b).value ≤ 1152
  unfolding cheapest law_limit
  lows_light b lb = least_light money_lawful (is_open coined b) (cost money_kind coined e b) 1152 (omega arith) B.weekends (λ w l. (cost_coined b w lb).1)

  lows_coined : (b : ℕ) → b < B.books → (lows b).value ≡ or_none integers (cheapest integers (heads B) whole b)
  unfolding cheapest
  lows_coined b lb =
      value_or_none (least_of money_kind B.weekends (is_open coined b) (cost money_kind coined e b))
      ∙ ap (or_none integers)
      (least_coined B.weekends (is_open coined b) (cost money_kind coined e b)
      ∙ least_same integers (is_open coined b) (λ w. (cost money_kind coined e b w).value) (is_open (heads B) b) (cost integers (heads B) whole b) B.weekends (λ w l. counted_open (B.quote b w)) (λ w l. (cost_coined b w lb).0))

  lows_weigh : weights money_kind B.books lows ≤ 120 * 1152
  lows_weigh = omega (arith, few, weights_le money_kind 1152 B.books lows lows_light)

  ceiling_light : (w c : ℕ) → w < B.weekends → c < B.classes → nat_abs (ceiling money_kind coined e w c).value ≤ 15360
  unfolding law_limit
  ceiling_light w c lw lc =
      let l = lowers w c lw lc in
      let u = uppers w c lw lc in
      larger_weight money_kind 15360 (copies money_kind (B.lower w c) (e w c)) (copies money_kind (B.upper w c) (e w c))
      (omega (arith, copies_weight money_lawful 128 (B.lower w c) (e w c) (light w c) (omega arith)))
      (omega (arith, copies_weight money_lawful 128 (B.upper w c) (e w c) (light w c) (omega arith)))

  ceiling_coined : (w c : ℕ) → w < B.weekends → c < B.classes → (ceiling money_kind coined e w c).value ≡ ceiling integers (heads B) whole w c
  unfolding law_limit
  ceiling_coined w c lw lc =
      let l = mul-le-mul (lowers w c lw lc) (light w c) in
      let u = mul-le-mul (uppers w c lw lc) (light w c) in
      money_larger (copies money_kind (B.lower w c) (e w c)) (copies money_kind (B.upper w c) (e w c))
      ∙ ap₂ (larger integers) (money_copies (B.lower w c) (e w c) (omega arith)) (money_copies (B.upper w c) (e w c) (omega arith))

  ceilings_weigh : weighs money_kind B.weekends B.classes (ceiling money_kind coined e) ≤ 128 * 15360
  ceilings_weigh = omega (arith, mul-le-mul ws cs, weighs_le money_kind 15360 B.weekends B.classes (ceiling money_kind coined e) ceiling_light)

  floor_coined : (floor money_kind coined e).value ≡ floor integers (heads B) whole
  unfolding floor law_limit
  floor_coined =
      let a = lows_weigh in
      let b = ceilings_weigh in
      let sums = sum_below money_kind B.books lows in
      let most = table_sum money_kind B.weekends B.classes (ceiling money_kind coined e) in
      let sums_light = sum_weight money_lawful B.books lows (omega arith) in
      let most_light = table_weight money_lawful B.weekends B.classes (ceiling money_kind coined e) (omega arith) in
      let back_light = money_lawful.minus_weight most (omega arith) in
      money_plus sums (money_kind.minus most) (omega arith)
      ∙ ap₂ ◌+ℤ◌
      (money_sum B.books lows (omega arith) ∙ sum_same integers B.books _ _ lows_coined)
      (money_minus most (omega arith) ∙ ap neg_ℤ (money_table B.weekends B.classes (ceiling money_kind coined e) (omega arith) ∙ table_same integers B.weekends B.classes _ _ ceiling_coined))

  stranded_coined : stranded B.books B.weekends coined.quote ≡ stranded B.books B.weekends (heads B).quote
  unfolding stranded
  stranded_coined =
      some_same B.books (λ b. not (goes B.weekends (coined.quote b))) (λ b. not (goes B.weekends ((heads B).quote b)))
      (λ b l. ap not (some_same B.weekends (λ w. is_some (coined.quote b w)) (λ w. is_some ((heads B).quote b w)) (λ w k. counted_open (B.quote b w))))

  pub accepts_coined : accepts money_kind coined e ≡ accepts integers (heads B) whole
  unfolding accepts
  accepts_coined = ap₂ (λ s z. s || is_lt (compare_z (pos 0) z)) stranded_coined floor_coined
