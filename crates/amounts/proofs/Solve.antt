-- Equations and orders between sums of a few amounts, decided by computing. Assumes nothing.
-- `solve` proves e = f where both sums have one normal form, `linear` proves l at most r from a list of such orders, `linear_less` the same
-- with a strict one among them, and `linear_equal` an equation from equations. The amounts stand in a list, the sums are written over their
-- places in it, and the normal forms are compared by `refl`. The lemmas at the end show how each is called.
use Rattle.std.proofs.Common.{◌≡◌, ℕ, ◌+◌, ◌*◌, ◌≤◌, Bool, true, false, cond, not, eqb, ltb, List, [], ◌∷◌, get_or, Less, sym, refl, ap, ◌∙◌, ap₂, inr, arith}
use Rattle.std.proofs.lemmas.Bool.{eqb-true}
use Rattle.amounts.specs.Kind.{Kind, Lawful, law_limit, AtMost}
use Rattle.amounts.proofs.Order.{unit_left, plus_front, front_cancel, minus_front_cancel, minus_none, minus_minus, minus_plus, plus_cancel, less_then_at_most, plus_at_most, plus_at_most_left, plus_at_most_right, at_most_unshift, plus_less_left, less_unshift}

infixl 60 ◌⊕◌
-- a sum over the amounts of a list, by their places
pub data Expr : Type 0 where
  var : ℕ → Expr
  nil : Expr
  ◌⊕◌ : Expr → Expr → Expr
  ⊖ : Expr → Expr

abbrev pub val : {V : Type 0} → Kind V → List V → Expr → V
val K ρ (var i) = get_or ρ i K.none
val K ρ nil = K.none
val K ρ (a ⊕ b) = K.plus (val K ρ a) (val K ρ b)
val K ρ (⊖ a) = K.minus (val K ρ a)

-- what the amounts of a sum weigh together, each as often as it stands there
abbrev pub size : {V : Type 0} → Kind V → List V → Expr → ℕ
size K ρ (var i) = K.weight (get_or ρ i K.none)
size K ρ nil = 0
size K ρ (a ⊕ b) = size K ρ a + size K ρ b
size K ρ (⊖ a) = size K ρ a

-- an amount, or its opposite, by its place
pub record Atom : Type 0 where
  pub kept : Bool
  pub place : ℕ

abbrev join : Bool → Bool → ℕ → ℕ → List Atom → List Atom
join true true i j s = record { kept = true; place = i } ∷ record { kept = true; place = j } ∷ s
join true false i j s = s
join false true i j s = s
join false false i j s = record { kept = false; place = i } ∷ record { kept = false; place = j } ∷ s

-- into a list by rising places, where it meets its opposite the two go
abbrev pub insert : Bool → ℕ → List Atom → List Atom
insert p i [] = record { kept = p; place = i } ∷ []
insert p i (b ∷ s) =
    let later = insert p i s in
    cond (ltb i b.place) (record { kept = p; place = i } ∷ b ∷ s) (cond (eqb i b.place) (join p b.kept i b.place s) (b ∷ later))

abbrev pub flat : Bool → Expr → List Atom → List Atom
flat p (var i) s = insert p i s
flat p nil s = s
flat p (a ⊕ b) s = flat p a (flat p b s)
flat p (⊖ a) s = flat (not p) a s

abbrev pub norm : Expr → List Atom
norm e = flat true e []

abbrev signed : {V : Type 0} → Kind V → Bool → V → V
signed K true x = x
signed K false x = K.minus x

abbrev value : {V : Type 0} → Kind V → List V → List Atom → V
value K ρ [] = K.none
value K ρ (a ∷ s) = K.plus (signed K a.kept (get_or ρ a.place K.none)) (value K ρ s)

abbrev load : {V : Type 0} → Kind V → List V → List Atom → ℕ
load K ρ [] = 0
load K ρ (a ∷ s) = K.weight (get_or ρ a.place K.none) + load K ρ s

-- each left side is at law_limit its right side
abbrev pub Given : {V : Type 0} → Kind V → List V → List (Expr × Expr) → Type 0
Given K ρ [] = Unit {0}
Given K ρ (p ∷ ps) = AtMost K (val K ρ p.0) (val K ρ p.1) × Given K ρ ps

-- each left side is its right side
abbrev pub Equations : {V : Type 0} → Kind V → List V → List (Expr × Expr) → Type 0
Equations K ρ [] = Unit {0}
Equations K ρ (p ∷ ps) = (val K ρ p.0 ≡ val K ρ p.1) × Equations K ρ ps

abbrev pub lefts : List (Expr × Expr) → Expr
lefts [] = nil
lefts (p ∷ ps) = p.0 ⊕ lefts ps

abbrev pub rights : List (Expr × Expr) → Expr
rights [] = nil
rights (p ∷ ps) = p.1 ⊕ rights ps

module _ {V : Type 0} {K : Kind V} (L : Lawful K) (ρ : List V) where
  signed_weight : (p : Bool) (x : V) → K.weight x ≤ law_limit → K.weight (signed K p x) ≡ K.weight x
  signed_weight true x w = refl
  signed_weight false x w = L.minus_weight x w

  value_weight : (s : List Atom) → load K ρ s ≤ law_limit → K.weight (value K ρ s) ≤ load K ρ s
  value_weight [] w = omega (arith, L.none_weight)
  value_weight (a ∷ s) w =
      let x = get_or ρ a.place K.none in
      let t = value_weight s (omega arith) in
      let u = signed_weight a.kept x (omega arith) in
      omega (arith, L.plus_weight (signed K a.kept x) (value K ρ s) (omega arith))

  pub val_weight : (e : Expr) → size K ρ e ≤ law_limit → K.weight (val K ρ e) ≤ size K ρ e
  val_weight (var i) w = omega arith
  val_weight nil w = omega (arith, L.none_weight)
  val_weight (a ⊕ b) w =
      let s = val_weight a (omega arith) in
      let t = val_weight b (omega arith) in
      omega (arith, L.plus_weight (val K ρ a) (val K ρ b) (omega arith))
  val_weight (⊖ a) w =
      let s = val_weight a w in
      omega (arith, L.minus_weight (val K ρ a) (omega arith))

  join_load : (p q : Bool) (i j : ℕ) (s : List Atom) → load K ρ (join p q i j s) ≤ K.weight (get_or ρ i K.none) + (K.weight (get_or ρ j K.none) + load K ρ s)
  join_load true true i j s = omega arith
  join_load true false i j s = omega arith
  join_load false true i j s = omega arith
  join_load false false i j s = omega arith

  join_value : (p q : Bool) (i j : ℕ) (s : List Atom) → i ≡ j → K.weight (get_or ρ i K.none) + (K.weight (get_or ρ j K.none) + load K ρ s) ≤ law_limit → value K ρ (join p q i j s) ≡ K.plus (signed K p (get_or ρ i K.none)) (K.plus (signed K q (get_or ρ j K.none)) (value K ρ s))
  join_value true true i j s e w = refl
  join_value true false i j s e w =
      let t = value_weight s (omega arith) in
      let n = ap (λ m. K.weight (get_or ρ m K.none)) e in
      sym (ap (λ m. K.plus (get_or ρ i K.none) (K.plus (K.minus (get_or ρ m K.none)) (value K ρ s))) (sym e) ∙ front_cancel L (get_or ρ i K.none) (value K ρ s) (omega arith))
  join_value false true i j s e w =
      let t = value_weight s (omega arith) in
      let n = ap (λ m. K.weight (get_or ρ m K.none)) e in
      sym (ap (λ m. K.plus (K.minus (get_or ρ i K.none)) (K.plus (get_or ρ m K.none) (value K ρ s))) (sym e) ∙ minus_front_cancel L (get_or ρ i K.none) (value K ρ s) (omega arith))
  join_value false false i j s e w = refl

  insert_load : (p : Bool) (i : ℕ) (s : List Atom) → load K ρ (insert p i s) ≤ K.weight (get_or ρ i K.none) + load K ρ s
  insert_load p i [] = omega arith
  insert_load p i (b ∷ s) = go (ltb i b.place) (eqb i b.place) (insert_load p i s)
    where
      go : (c d : Bool) → load K ρ (insert p i s) ≤ K.weight (get_or ρ i K.none) + load K ρ s → load K ρ (cond c (record { kept = p; place = i } ∷ b ∷ s) (cond d (join p b.kept i b.place s) (b ∷ insert p i s))) ≤ K.weight (get_or ρ i K.none) + (K.weight (get_or ρ b.place K.none) + load K ρ s)
      go true d t = omega arith
      go false true t = join_load p b.kept i b.place s
      go false false t = omega arith

  insert_value : (p : Bool) (i : ℕ) (s : List Atom) → K.weight (get_or ρ i K.none) + load K ρ s ≤ law_limit → value K ρ (insert p i s) ≡ K.plus (signed K p (get_or ρ i K.none)) (value K ρ s)
  insert_value p i [] w = refl
  insert_value p i (b ∷ s) w = go (ltb i b.place) (eqb i b.place) refl (insert_value p i s (omega arith))
    where
      go : (c d : Bool) → eqb i b.place ≡ d → value K ρ (insert p i s) ≡ K.plus (signed K p (get_or ρ i K.none)) (value K ρ s) → value K ρ (cond c (record { kept = p; place = i } ∷ b ∷ s) (cond d (join p b.kept i b.place s) (b ∷ insert p i s))) ≡ K.plus (signed K p (get_or ρ i K.none)) (K.plus (signed K b.kept (get_or ρ b.place K.none)) (value K ρ s))
      go true d e t = refl
      go false true e t = join_value p b.kept i b.place s (eqb-true i b.place e) w
      go false false e t =
          let x = get_or ρ i K.none in
          let y = get_or ρ b.place K.none in
          let l = value_weight s (omega arith) in
          let u = signed_weight p x (omega arith) in
          let v = signed_weight b.kept y (omega arith) in
          ap (K.plus (signed K b.kept y)) t ∙ plus_front L (signed K b.kept y) (signed K p x) (value K ρ s) (omega arith)

  flat_load : (p : Bool) (e : Expr) (s : List Atom) → load K ρ (flat p e s) ≤ size K ρ e + load K ρ s
  flat_load p (var i) s = insert_load p i s
  flat_load p nil s = omega arith
  flat_load p (a ⊕ b) s = omega (arith, flat_load p a (flat p b s), flat_load p b s)
  flat_load p (⊖ a) s = flat_load (not p) a s

  signed_none : (p : Bool) → signed K p K.none ≡ K.none
  signed_none true = refl
  signed_none false = minus_none L

  signed_add : (p : Bool) (x y : V) → 3 * (K.weight x + K.weight y) ≤ law_limit → signed K p (K.plus x y) ≡ K.plus (signed K p x) (signed K p y)
  signed_add true x y w = refl
  signed_add false x y w = minus_plus L x y w

  signed_not : (p : Bool) (x : V) → 3 * K.weight x ≤ law_limit → signed K (not p) x ≡ signed K p (K.minus x)
  signed_not true x w = refl
  signed_not false x w = sym (minus_minus L x w)

  flat_value : (p : Bool) (e : Expr) (s : List Atom) → 3 * (size K ρ e + load K ρ s) ≤ law_limit → value K ρ (flat p e s) ≡ K.plus (signed K p (val K ρ e)) (value K ρ s)
  flat_value p (var i) s w = insert_value p i s (omega arith)
  flat_value p nil s w =
      sym (ap (λ n. K.plus n (value K ρ s)) (signed_none p) ∙ unit_left L (value K ρ s) (omega (arith, value_weight s (omega arith))))
  flat_value p (a ⊕ b) s w =
      let x = val K ρ a in
      let y = val K ρ b in
      let l = flat_load p b s in
      let t = value_weight s (omega arith) in
      let wx = val_weight a (omega arith) in
      let wy = val_weight b (omega arith) in
      let ux = signed_weight p x (omega arith) in
      let uy = signed_weight p y (omega arith) in
      flat_value p a (flat p b s) (omega arith) ∙ ap (K.plus (signed K p x)) (flat_value p b s (omega arith)) ∙ sym (L.assoc (signed K p x) (signed K p y) (value K ρ s) (omega arith)) ∙ ap (λ z. K.plus z (value K ρ s)) (sym (signed_add p x y (omega arith)))
  flat_value p (⊖ a) s w =
      let wx = val_weight a (omega arith) in
      flat_value (not p) a s w ∙ ap (λ z. K.plus z (value K ρ s)) (signed_not p (val K ρ a) (omega arith))

  norm_value : (e : Expr) → 3 * size K ρ e ≤ law_limit → value K ρ (norm e) ≡ val K ρ e
  norm_value e w =
      flat_value true e [] (omega arith) ∙ L.unit (val K ρ e) (omega (arith, val_weight e (omega arith)))

  -- two sums with one normal form are equal
  pub solve : (e f : Expr) → 3 * size K ρ e ≤ law_limit → 3 * size K ρ f ≤ law_limit → norm e ≡ norm f → val K ρ e ≡ val K ρ f
  solve e f w v n = sym (norm_value e w) ∙ ap (value K ρ) n ∙ norm_value f v

  given_at_most : (ps : List (Expr × Expr)) → 2 * (size K ρ (lefts ps) + size K ρ (rights ps)) ≤ law_limit → Given K ρ ps → AtMost K (val K ρ (lefts ps)) (val K ρ (rights ps))
  given_at_most [] w g = inr refl
  given_at_most (p ∷ ps) w g =
      let a = val_weight p.0 (omega arith) in
      let b = val_weight p.1 (omega arith) in
      let c = val_weight (lefts ps) (omega arith) in
      let d = val_weight (rights ps) (omega arith) in
      plus_at_most L (val K ρ p.0) (val K ρ p.1) (val K ρ (lefts ps)) (val K ρ (rights ps)) (omega arith) g.0 (given_at_most ps (omega arith) g.1)

  -- l <= r, where the sum of the given orders is l <= r after what both sides share
  pub linear : (ps : List (Expr × Expr)) (l r : Expr) → Given K ρ ps → 3 * (size K ρ l + size K ρ r + size K ρ (lefts ps) + size K ρ (rights ps)) ≤ law_limit → norm (rights ps ⊕ l) ≡ norm (r ⊕ lefts ps) → AtMost K (val K ρ l) (val K ρ r)
  linear ps l r g w n =
      let x = val K ρ l in
      let y = val K ρ r in
      let p = val K ρ (lefts ps) in
      let q = val K ρ (rights ps) in
      let wx = val_weight l (omega arith) in
      let wy = val_weight r (omega arith) in
      let wp = val_weight (lefts ps) (omega arith) in
      let wq = val_weight (rights ps) (omega arith) in
      let s : AtMost K (K.plus p x) (K.plus q x) = plus_at_most_left L p q x (omega arith) (given_at_most ps (omega arith) g) in
      at_most_unshift L x y p (omega arith) (rw (L.comm x p (omega arith), ← solve (rights ps ⊕ l) (r ⊕ lefts ps) (omega arith) (omega arith) n) s)

  -- l less than r, where one of the orders whose sum it is, the first, is strict
  pub linear_less : (a b : Expr) (ps : List (Expr × Expr)) (l r : Expr) → K.cmp (val K ρ a) (val K ρ b) ≡ Less → Given K ρ ps → 3 * (size K ρ l + size K ρ r + size K ρ (a ⊕ lefts ps) + size K ρ (b ⊕ rights ps)) ≤ law_limit → norm ((b ⊕ rights ps) ⊕ l) ≡ norm (r ⊕ (a ⊕ lefts ps)) → K.cmp (val K ρ l) (val K ρ r) ≡ Less
  linear_less a b ps l r e g w n =
      let x = val K ρ l in
      let y = val K ρ r in
      let p = val K ρ (lefts ps) in
      let q = val K ρ (rights ps) in
      let s = val K ρ a in
      let t = val K ρ b in
      let wx = val_weight l (omega arith) in
      let wy = val_weight r (omega arith) in
      let wp = val_weight (lefts ps) (omega arith) in
      let wq = val_weight (rights ps) (omega arith) in
      let ws = val_weight a (omega arith) in
      let wt = val_weight b (omega arith) in
      let sp = L.plus_weight s p (omega arith) in
      let tp = L.plus_weight t p (omega arith) in
      let tq = L.plus_weight t q (omega arith) in
      let sums : K.cmp (K.plus s p) (K.plus t q) ≡ Less =
      less_then_at_most L (K.plus s p) (K.plus t p) (K.plus t q) (omega arith) (plus_less_left L s t p (omega arith) e) (plus_at_most_right L p q t (omega arith) (given_at_most ps (omega arith) g)) in
      let both = plus_less_left L (K.plus s p) (K.plus t q) x (omega arith) sums in
      less_unshift L x y (K.plus s p) (omega arith) (rw (L.comm x (K.plus s p) (omega arith), ← solve ((b ⊕ rights ps) ⊕ l) (r ⊕ (a ⊕ lefts ps)) (omega arith) (omega arith) n) both)

  equations_sum : (ps : List (Expr × Expr)) → Equations K ρ ps → val K ρ (lefts ps) ≡ val K ρ (rights ps)
  equations_sum [] g = refl
  equations_sum (p ∷ ps) g = ap₂ K.plus g.0 (equations_sum ps g.1)

  -- l = r, where the sum of the given equations is l = r after what both sides share
  pub linear_equal : (ps : List (Expr × Expr)) (l r : Expr) → Equations K ρ ps → 3 * (size K ρ l + size K ρ r + size K ρ (lefts ps) + size K ρ (rights ps)) ≤ law_limit → norm (rights ps ⊕ l) ≡ norm (r ⊕ lefts ps) → val K ρ l ≡ val K ρ r
  linear_equal ps l r g w n =
      let x = val K ρ l in
      let y = val K ρ r in
      let p = val K ρ (lefts ps) in
      let wx = val_weight l (omega arith) in
      let wy = val_weight r (omega arith) in
      let wp = val_weight (lefts ps) (omega arith) in
      plus_cancel L x y p (omega arith) (omega arith) (L.comm x p (omega arith) ∙ ap (λ z. K.plus z x) (equations_sum ps g) ∙ solve (rights ps ⊕ l) (r ⊕ lefts ps) (omega arith) (omega arith) n)

module _ {V : Type 0} {K : Kind V} (L : Lawful K) where
  -- (a + b) - (c + b) is a - c
  pub shared_goes : (a b c : V) → 3 * (K.weight a + 2 * K.weight b + K.weight c) ≤ law_limit → K.plus (K.plus a b) (K.minus (K.plus c b)) ≡ K.plus a (K.minus c)
  shared_goes a b c w =
      solve L (a ∷ b ∷ c ∷ []) ((var 0 ⊕ var 1) ⊕ ⊖ (var 2 ⊕ var 1)) (var 0 ⊕ ⊖ (var 2)) (omega arith) (omega arith) refl

  -- a at most b + c and c at most d give a - d at most b
  pub bound_moves : (a b c d : V) → 6 * (K.weight a + K.weight b + K.weight c + K.weight d) ≤ law_limit → AtMost K a (K.plus b c) → AtMost K c d → AtMost K (K.plus a (K.minus d)) b
  bound_moves a b c d w e f =
      linear L (a ∷ b ∷ c ∷ d ∷ []) ((var 0, var 1 ⊕ var 2) ∷ (var 2, var 3) ∷ []) (var 0 ⊕ ⊖ (var 3)) (var 1) (e, (f, tt)) (omega arith) refl

  -- a less than b and b at most c + d give a - d less than c
  pub less_bound_moves : (a b c d : V) → 6 * (K.weight a + K.weight b + K.weight c + K.weight d) ≤ law_limit → K.cmp a b ≡ Less → AtMost K b (K.plus c d) → K.cmp (K.plus a (K.minus d)) c ≡ Less
  less_bound_moves a b c d w e f =
      linear_less L (a ∷ b ∷ c ∷ d ∷ []) (var 0) (var 1) ((var 1, var 2 ⊕ var 3) ∷ []) (var 0 ⊕ ⊖ (var 3)) (var 2) e (f, tt) (omega arith) refl

  -- a + b = c and c + d = b give a = -d
  pub equations_give : (a b c d : V) → 6 * (K.weight a + K.weight b + K.weight c + K.weight d) ≤ law_limit → K.plus a b ≡ c → K.plus c d ≡ b → a ≡ K.minus d
  equations_give a b c d w e f =
      linear_equal L (a ∷ b ∷ c ∷ d ∷ []) ((var 0 ⊕ var 1, var 2) ∷ (var 2 ⊕ var 3, var 1) ∷ []) (var 0) (⊖ (var 3)) (e, (f, tt)) (omega arith) refl
