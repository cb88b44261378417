-- Totals of lists. Assumes nothing.
use Rattle.std.proofs.Common.{◌≡◌, ◌+◌, ◌≤◌, List, ◌∷◌, length, sym, refl, ap, ◌∙◌, ap₂, arith}
use mathlib.Core.List.{Permᴰ}
use Rattle.amounts.specs.Kind.{Kind, Lawful, law_limit}
use Rattle.amounts.specs.Sums.{weights, item, total, load}
use Rattle.amounts.specs.Promises.{PermutationKeepsTotal, OrderCarriesToTotals}
use Rattle.amounts.proofs.Order.{plus_front}
use Rattle.amounts.proofs.Numbers.{sum_n_first}
use Rattle.amounts.proofs.Sums.{sum_weight, sum_first, sum_at_most}

pub load_cons : {V : Type 0} (K : Kind V) (x : V) (xs : List V) → load K (x ∷ xs) ≡ K.weight x + load K xs
load_cons K x xs = sum_n_first (length xs) (λ i. K.weight (item K (x ∷ xs) i))

pub load_perm : {V : Type 0} (K : Kind V) {xs ys : List V} → Permᴰ xs ys → load K xs ≡ load K ys
load_perm K Permᴰ.nil = refl
load_perm K (Permᴰ.cons {a = a} {b = b} {l₁ = xs} {l₂ = ys} e p) =
    load_cons K a xs ∙ ap₂ ◌+◌ (ap K.weight e) (load_perm K p) ∙ sym (load_cons K b ys)
load_perm K (Permᴰ.swap {a = a} {b = b} {a' = c} {b' = d} {l = xs} e f) =
    let ab = load_cons K a (b ∷ xs) in
    let bx = load_cons K b xs in
    let cd = load_cons K c (d ∷ xs) in
    let dx = load_cons K d xs in
    omega (arith, ap K.weight e, ap K.weight f)
load_perm K (Permᴰ.trans p q) = load_perm K p ∙ load_perm K q

module _ {V : Type 0} {K : Kind V} (L : Lawful K) where
  open K use {plus, weight}

  pub total_weight : (xs : List V) → load K xs ≤ law_limit → weight (total K xs) ≤ load K xs
  total_weight xs h = sum_weight L (length xs) (item K xs) h

  pub total_cons : (x : V) (xs : List V) → weight x + load K xs ≤ law_limit → total K (x ∷ xs) ≡ plus x (total K xs)
  total_cons x xs h = sum_first L (length xs) (item K (x ∷ xs)) (omega (arith, load_cons K x xs))

  perm : {xs ys : List V} → Permᴰ xs ys → load K xs ≤ law_limit → total K xs ≡ total K ys
  perm Permᴰ.nil h = refl
  perm (Permᴰ.cons {a = a} {b = b} {l₁ = xs} {l₂ = ys} e p) h =
      let w = load_cons K a xs in
      let l = load_perm K p in
      let n = ap weight e in
      total_cons a xs (omega arith) ∙ ap₂ plus e (perm p (omega arith)) ∙ sym (total_cons b ys (omega arith))
  perm (Permᴰ.swap {a = a} {b = b} {a' = c} {b' = d} {l = xs} e f) h =
      let ab = load_cons K a (b ∷ xs) in
      let bx = load_cons K b xs in
      let dx = load_cons K d xs in
      let m = ap weight e in
      let n = ap weight f in
      let t = total_weight xs (omega arith) in
      total_cons a (b ∷ xs) (omega arith) ∙ ap (plus a) (total_cons b xs (omega arith)) ∙ plus_front L a b (total K xs) (omega arith)
      ∙ ap₂ (λ u v. plus u (plus v (total K xs))) f e
      ∙ sym (total_cons c (d ∷ xs) (omega arith) ∙ ap (plus c) (total_cons d xs (omega arith)))
  perm (Permᴰ.trans p q) h = perm p h ∙ perm q (omega (arith, load_perm K p))

  -- in whatever order amounts come, their total is the same
  pub total_perm : PermutationKeepsTotal K
  total_perm xs ys p h = perm p h

  -- place by place at most: the totals too
  pub total_at_most : OrderCarriesToTotals K
  total_at_most xs ys e h le =
      let l : weights K (length xs) (item K ys) ≡ load K ys = ap (λ n. weights K n (item K ys)) e in
      rw (← e) (sum_at_most L (length xs) (item K xs) (item K ys) (omega arith) le)
