-- What the laws give of one to four amounts: sums, opposites, and the order. Each premise is what the laws ask, no more. Assumes nothing.
use Rattle.std.specs.Prelude.{◌≡◌, ℕ, ◌+◌, ◌*◌, ◌≤◌, Bool, true, false, cond, ◌||◌, ◌⊎◌, ◌≢◌, refl}
use Rattle.std.specs.declared.cmp.Ordering.TheVariants.{Less, Equal, Greater}
use Rattle.std.specs.declared.cmp.Ordering.{Ordering}
use Rattle.std.proofs.Common.{sym, ap, ap₂, ◌∙◌, inl, inr, arith}
use Rattle.std.specs.Ordering.{ordering_reverse, is_le}
use Rattle.amounts.specs.Kind.{Kind, Lawful, law_limit, AtMost, picked, smaller, larger}

module _ {V : Type 0} (K : Kind V) where
  pub picked_either : (P : V → Type 0) (x y : V) (o : Ordering) → P x → P y → P (picked K o x y)
  picked_either P x y Less p q = p
  picked_either P x y Equal p q = p
  picked_either P x y Greater p q = q

  pub smaller_weight : (m : ℕ) (x y : V) → K.weight x ≤ m → K.weight y ≤ m → K.weight (smaller K x y) ≤ m
  smaller_weight m x y h l = picked_either (λ z. K.weight z ≤ m) x y (K.cmp x y) h l

  pub larger_weight : (m : ℕ) (x y : V) → K.weight x ≤ m → K.weight y ≤ m → K.weight (larger K x y) ≤ m
  larger_weight m x y h l = picked_either (λ z. K.weight z ≤ m) y x (K.cmp x y) l h

module _ {V : Type 0} {K : Kind V} (L : Lawful K) where
  open K use {none, plus, minus, cmp, weight}

  pub cond_weight : (m : ℕ) (t : Bool) (x : V) → weight x ≤ m → weight (cond t x none) ≤ m
  cond_weight m true x h = h
  cond_weight m false x h = omega (arith, L.none_weight)

  -- ---- sums
  pub unit_left : (x : V) → weight x ≤ law_limit → plus none x ≡ x
  unit_left x h = L.comm none x (omega (arith, L.none_weight)) ∙ L.unit x h

  pub none_twice : plus none none ≡ none
  none_twice = L.unit none (omega (arith, L.none_weight))

  -- where at most one of two tests passes, what counts under either counts under one
  pub cond_apart : (s t : Bool) (x : V) → weight x ≤ law_limit → (s ≡ true → t ≢ true) → cond (s || t) x none ≡ plus (cond s x none) (cond t x none)
  cond_apart true true x h apart = absurd (apart refl refl)
  cond_apart true false x h apart = sym (L.unit x h)
  cond_apart false true x h apart = sym (unit_left x h)
  cond_apart false false x h apart = sym none_twice

  -- x + (y + z) is y + (x + z)
  pub plus_front : (x y z : V) → weight x + weight y + weight z ≤ law_limit → plus x (plus y z) ≡ plus y (plus x z)
  plus_front x y z h = sym (L.assoc x y z h) ∙ ap (λ u. plus u z) (L.comm x y (omega arith)) ∙ L.assoc y x z (omega arith)

  -- (x + y) + z is (x + z) + y
  pub plus_turn : (x y z : V) → weight x + weight y + weight z ≤ law_limit → plus (plus x y) z ≡ plus (plus x z) y
  plus_turn x y z h = L.assoc x y z h ∙ ap (plus x) (L.comm y z (omega arith)) ∙ sym (L.assoc x z y (omega arith))

  -- (a + b) + (c + d) is (a + c) + (b + d)
  pub plus_swap : (a b c d : V) → weight a + weight b + weight c + weight d ≤ law_limit → plus (plus a b) (plus c d) ≡ plus (plus a c) (plus b d)
  plus_swap a b c d h =
      let ab = L.plus_weight a b (omega arith) in
      let ac = L.plus_weight a c (omega arith) in
      sym (L.assoc (plus a b) c d (omega arith)) ∙ ap (λ u. plus u d) (plus_turn a b c (omega arith)) ∙ L.assoc (plus a c) b d (omega arith)

  -- ---- opposites
  pub inverse_left : (x : V) → weight x + weight x ≤ law_limit → plus (minus x) x ≡ none
  inverse_left x h = L.comm (minus x) x (omega (arith, L.minus_weight x (omega arith))) ∙ L.inverse x h

  -- (x + y) - y is x
  pub plus_minus : (x y : V) → weight x + weight y + weight y ≤ law_limit → plus (plus x y) (minus y) ≡ x
  plus_minus x y h =
      let m = L.minus_weight y (omega arith) in
      L.assoc x y (minus y) (omega arith) ∙ ap (plus x) (L.inverse y (omega arith)) ∙ L.unit x (omega arith)

  -- (x - y) + y is x
  pub minus_plus_back : (x y : V) → weight x + weight y + weight y ≤ law_limit → plus (plus x (minus y)) y ≡ x
  minus_plus_back x y h =
      let m = L.minus_weight y (omega arith) in
      L.assoc x (minus y) y (omega arith) ∙ ap (plus x) (inverse_left y (omega arith)) ∙ L.unit x (omega arith)

  -- x + (-x + z) is z
  pub front_cancel : (x z : V) → weight x + weight x + weight z ≤ law_limit → plus x (plus (minus x) z) ≡ z
  front_cancel x z h =
      sym (L.assoc x (minus x) z (omega (arith, L.minus_weight x (omega arith)))) ∙ ap (λ u. plus u z) (L.inverse x (omega arith)) ∙ unit_left z (omega arith)

  -- -x + (x + z) is z
  pub minus_front_cancel : (x z : V) → weight x + weight x + weight z ≤ law_limit → plus (minus x) (plus x z) ≡ z
  minus_front_cancel x z h =
      sym (L.assoc (minus x) x z (omega (arith, L.minus_weight x (omega arith)))) ∙ ap (λ u. plus u z) (inverse_left x (omega arith)) ∙ unit_left z (omega arith)

  -- what is added to both sides of an equation can go
  pub plus_cancel : (x y z : V) → weight x + weight z + weight z ≤ law_limit → weight y + weight z + weight z ≤ law_limit → plus x z ≡ plus y z → x ≡ y
  plus_cancel x y z h l e = sym (plus_minus x z h) ∙ ap (λ u. plus u (minus z)) e ∙ plus_minus y z l

  -- what sums with x to none is the opposite of x
  pub minus_only : (x y : V) → weight x + weight x + weight y ≤ law_limit → plus x y ≡ none → y ≡ minus x
  minus_only x y h e =
      sym (minus_front_cancel x y h) ∙ ap (plus (minus x)) e ∙ L.unit (minus x) (omega (arith, L.minus_weight x (omega arith)))

  pub minus_none : minus none ≡ none
  minus_none = let n = L.none_weight in sym (minus_only none none (omega arith) none_twice)

  pub minus_minus : (x : V) → 3 * weight x ≤ law_limit → minus (minus x) ≡ x
  minus_minus x h =
      let m = L.minus_weight x (omega arith) in
      sym (minus_only (minus x) x (omega arith) (inverse_left x (omega arith)))

  -- -(x + y) is -x + -y
  pub minus_plus : (x y : V) → 3 * (weight x + weight y) ≤ law_limit → minus (plus x y) ≡ plus (minus x) (minus y)
  minus_plus x y h =
      let m = L.minus_weight x (omega arith) in
      let n = L.minus_weight y (omega arith) in
      let s = L.plus_weight x y (omega arith) in
      let t = L.plus_weight (minus x) (minus y) (omega arith) in
      sym (minus_only (plus x y) (plus (minus x) (minus y)) (omega arith)
      (plus_swap x y (minus x) (minus y) (omega arith) ∙ ap₂ plus (L.inverse x (omega arith)) (L.inverse y (omega arith)) ∙ none_twice))

  -- ---- order
  pub at_most_refl : (x : V) → AtMost K x x
  at_most_refl x = inr refl

  pub at_most_trans : (x y z : V) → weight x + weight y + weight z ≤ law_limit → AtMost K x y → AtMost K y z → AtMost K x z
  at_most_trans x y z h (inl a) (inl b) = inl (L.trans x y z h a b)
  at_most_trans x y z h (inl a) (inr e) = inl (rw e at a)
  at_most_trans x y z h (inr e) b = rw e b

  pub less_then_at_most : (x y z : V) → weight x + weight y + weight z ≤ law_limit → cmp x y ≡ Less → AtMost K y z → cmp x z ≡ Less
  less_then_at_most x y z h a (inl b) = L.trans x y z h a b
  less_then_at_most x y z h a (inr e) = rw e at a

  pub at_most_then_less : (x y z : V) → weight x + weight y + weight z ≤ law_limit → AtMost K x y → cmp y z ≡ Less → cmp x z ≡ Less
  at_most_then_less x y z h (inl a) b = L.trans x y z h a b
  at_most_then_less x y z h (inr e) b = rw e b

  pub at_most_total : (x y : V) → weight x + weight y ≤ law_limit → AtMost K x y ⊎ AtMost K y x
  at_most_total x y h = go (cmp x y) refl
    where
      go : (o : Ordering) → cmp x y ≡ o → AtMost K x y ⊎ AtMost K y x
      go Less e = inl (inl e)
      go Equal e = inl (inr (L.same x y h e))
      go Greater e = inr (inl (L.turn x y h ∙ ap ordering_reverse e))

  -- x is less than y, or y at most x
  pub less_or_back : (x y : V) → weight x + weight y ≤ law_limit → (cmp x y ≡ Less) ⊎ AtMost K y x
  less_or_back x y h = go (cmp x y) refl
    where
      go : (o : Ordering) → cmp x y ≡ o → (cmp x y ≡ Less) ⊎ AtMost K y x
      go Less e = inl e
      go Equal e = inr (inr (sym (L.same x y h e)))
      go Greater e = inr (inl (L.turn x y h ∙ ap ordering_reverse e))

  less_not_greater : {o : Ordering} → o ≡ Less → o ≢ Greater
  less_not_greater e f = let z : ◌≡◌ {A = ℕ} 0 1 = cc in omega arith

  pub not_less_itself : (x : V) → weight x + weight x ≤ law_limit → cmp x x ≢ Less
  not_less_itself x h e = less_not_greater e (L.turn x x h ∙ ap ordering_reverse e)

  -- less is not at most the other way round
  pub less_not_back : (x y : V) → weight x + weight y + weight x ≤ law_limit → cmp x y ≡ Less → AtMost K y x → ⊥
  less_not_back x y h a (inl b) = less_not_greater b (L.turn x y (omega arith) ∙ ap ordering_reverse a)
  less_not_back x y h a (inr e) = not_less_itself x (omega arith) (rw e at a)

  pub at_most_both : (x y : V) → weight x + weight y ≤ law_limit → AtMost K x y → AtMost K y x → x ≡ y
  at_most_both x y h (inr e) b = e
  at_most_both x y h (inl a) (inr e) = sym e
  at_most_both x y h (inl a) (inl b) = absurd (less_not_greater b (L.turn x y h ∙ ap ordering_reverse a))

  -- ---- the order as code tests it
  pub at_most_from_le : (x y : V) → weight x + weight y ≤ law_limit → is_le (cmp x y) ≡ true → AtMost K x y
  at_most_from_le x y h e = go (cmp x y) refl e
    where
      go : (o : Ordering) → cmp x y ≡ o → is_le o ≡ true → AtMost K x y
      go Less f t = inl f
      go Equal f t = inr (L.same x y h f)
      go Greater f t = let z : ◌≡◌ {A = ℕ} 0 1 = cc in absurd (omega arith)

  pub le_from_at_most : (x y : V) → weight x + weight x ≤ law_limit → AtMost K x y → is_le (cmp x y) ≡ true
  le_from_at_most x y h (inl a) = ap is_le a
  le_from_at_most x y h (inr e) = ap is_le (ap (cmp x) (sym e) ∙ L.itself x h)

  -- a comparison that does not say less says at most the other way round, and one that does not say greater says at most
  pub at_most_unless_less : (x y : V) → weight x + weight y ≤ law_limit → (cmp x y ≢ Less) → AtMost K y x
  at_most_unless_less x y h d = go (less_or_back x y h)
    where
      go : (cmp x y ≡ Less) ⊎ AtMost K y x → AtMost K y x
      go (inl e) = absurd (d e)
      go (inr a) = a

  pub at_most_unless_greater : (x y : V) → weight x + weight y ≤ law_limit → (cmp x y ≢ Greater) → AtMost K x y
  at_most_unless_greater x y h d = go (cmp x y) refl
    where
      go : (o : Ordering) → cmp x y ≡ o → AtMost K x y
      go Less e = inl e
      go Equal e = inr (L.same x y h e)
      go Greater e = absurd (d e)

  -- ---- the smaller and the larger of two
  at_most_by : (x y : V) (o : Ordering) → weight x + weight y ≤ law_limit → cmp x y ≡ o → AtMost K (picked K o x y) x × AtMost K (picked K o x y) y × AtMost K x (picked K o y x) × AtMost K y (picked K o y x)
  at_most_by x y Less h e = (inr refl, inl e, inl e, inr refl)
  at_most_by x y Equal h e = let s : x ≡ y = L.same x y h e in (inr refl, inr s, inr s, inr refl)
  at_most_by x y Greater h e = let t : cmp y x ≡ Less = L.turn x y h ∙ ap ordering_reverse e in (inl t, inr refl, inr refl, inl t)

  pub smaller_left : (x y : V) → weight x + weight y ≤ law_limit → AtMost K (smaller K x y) x
  smaller_left x y h = (at_most_by x y (cmp x y) h refl).0

  pub smaller_right : (x y : V) → weight x + weight y ≤ law_limit → AtMost K (smaller K x y) y
  smaller_right x y h = (at_most_by x y (cmp x y) h refl).1

  pub larger_left : (x y : V) → weight x + weight y ≤ law_limit → AtMost K x (larger K x y)
  larger_left x y h = (at_most_by x y (cmp x y) h refl).2

  pub larger_right : (x y : V) → weight x + weight y ≤ law_limit → AtMost K y (larger K x y)
  larger_right x y h = (at_most_by x y (cmp x y) h refl).3

  -- ---- order and sums
  pub plus_at_most_left : (x y z : V) → weight x + weight y + weight z ≤ law_limit → AtMost K x y → AtMost K (plus x z) (plus y z)
  plus_at_most_left x y z h (inl a) = inl (L.shift x y z h ∙ a)
  plus_at_most_left x y z h (inr e) = inr (ap (λ u. plus u z) e)

  pub plus_at_most_right : (x y z : V) → weight x + weight y + weight z ≤ law_limit → AtMost K x y → AtMost K (plus z x) (plus z y)
  plus_at_most_right x y z h a =
      let l = L.comm z x (omega arith) in
      let r = L.comm z y (omega arith) in
      rw (l, r) (plus_at_most_left x y z h a)

  pub plus_at_most : (x y u v : V) → weight x + weight y + weight u + weight v + weight u + weight y ≤ law_limit → AtMost K x y → AtMost K u v → AtMost K (plus x u) (plus y v)
  plus_at_most x y u v h a b =
      at_most_trans (plus x u) (plus y u) (plus y v) (omega (arith, L.plus_weight x u (omega arith), L.plus_weight y u (omega arith), L.plus_weight y v (omega arith)))
      (plus_at_most_left x y u (omega arith) a) (plus_at_most_right u v y (omega arith) b)

  -- x + z at most y + z gives x at most y
  pub at_most_unshift : (x y z : V) → weight x + weight y + weight z + weight z ≤ law_limit → AtMost K (plus x z) (plus y z) → AtMost K x y
  at_most_unshift x y z h (inl a) = inl (sym (L.shift x y z (omega arith)) ∙ a)
  at_most_unshift x y z h (inr e) = inr (plus_cancel x y z (omega arith) (omega arith) e)

  pub plus_less_left : (x y z : V) → weight x + weight y + weight z ≤ law_limit → cmp x y ≡ Less → cmp (plus x z) (plus y z) ≡ Less
  plus_less_left x y z h a = L.shift x y z h ∙ a

  pub less_unshift : (x y z : V) → weight x + weight y + weight z ≤ law_limit → cmp (plus x z) (plus y z) ≡ Less → cmp x y ≡ Less
  less_unshift x y z h a = sym (L.shift x y z h) ∙ a

  -- x at most y gives -y at most -x
  pub minus_at_most : (x y : V) → 3 * (weight x + weight y) ≤ law_limit → AtMost K x y → AtMost K (minus y) (minus x)
  minus_at_most x y h a =
      let m = L.minus_weight x (omega arith) in
      let n = L.minus_weight y (omega arith) in
      let s = L.plus_weight (minus y) (minus x) (omega arith) in
      let b = plus_at_most_left x y (plus (minus y) (minus x)) (omega arith) a in
      let l : plus x (plus (minus y) (minus x)) ≡ minus y =
      plus_front x (minus y) (minus x) (omega arith) ∙ ap (plus (minus y)) (L.inverse x (omega arith)) ∙ L.unit (minus y) (omega arith) in
      let r : plus y (plus (minus y) (minus x)) ≡ minus x = front_cancel y (minus x) (omega arith) in
      rw (l, r) at b

  -- x at most y exactly if nothing is at most y - x
  pub difference_at_least : (x y : V) → 3 * (weight x + weight y) ≤ law_limit → AtMost K x y → AtMost K none (plus y (minus x))
  difference_at_least x y h a =
      let m = L.minus_weight x (omega arith) in
      let b = plus_at_most_left x y (minus x) (omega arith) a in
      rw (L.inverse x (omega arith)) at b

  pub at_most_from_difference : (x y : V) → 4 * (weight x + weight y) ≤ law_limit → AtMost K none (plus y (minus x)) → AtMost K x y
  at_most_from_difference x y h a =
      let m = L.minus_weight x (omega arith) in
      let n = L.none_weight in
      let s = L.plus_weight y (minus x) (omega arith) in
      let b = plus_at_most_left none (plus y (minus x)) x (omega arith) a in
      rw (unit_left x (omega arith), minus_plus_back y x (omega arith)) at b
