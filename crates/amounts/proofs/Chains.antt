-- Chains over the whole numbers below n, read as the sums, counts and least values that the definitions speak of. Assumes nothing.
use Rattle.std.proofs.Common.{◌≡◌, ℕ, zero, suc, ◌+◌, ◌<◌, Bool, true, false, cond, List, [], ◌∷◌, ◌++◌, map, length, get_or, Option, Some, None, sym, refl, ap, ◌∙◌, subst, add-one, zero-add, arith}
use Rattle.std.specs.Fn.{Called, CalledAt}
use Rattle.std.specs.Iterator.{Drains}
use Rattle.std.specs.Array.{IsFromFnResult, IsFromFnResultFrom}
use Rattle.std.specs.Iterator.Adapters.{map_source, map_callee, filter_source, filter_callee, filter_steps, filter_map_source, filter_map_callee, filter_map_steps}
use Rattle.std.specs.List.{fold, reduce, filter, filter_map, cons_option, range_with_len, FoldsTo}
use Rattle.std.specs.declared.iter.Filter.{Filter}
use Rattle.std.specs.declared.iter.FilterMap.{FilterMap}
use Rattle.std.specs.declared.iter.Map.{Map}
use Rattle.std.specs.declared.ops.Range.{Range}
use Rattle.std.proofs.iter.Yields.{nat_range_steps}
use Rattle.std.proofs.lemmas.Fn.{fold_over}
use Rattle.std.proofs.lemmas.Iterator.{maps, YieldsList-from_map, YieldsList-from_range}
use Rattle.std.proofs.lemmas.Iterator.Consumers.{YieldsList-from_filter, YieldsList-from_filter_map, count_from_yields_List}
use Rattle.std.proofs.lemmas.List.{map-id, length-append, append-nil}
use Rattle.std.proofs.lemmas.List.Elements.{filter-append, filter_map-append}
use Rattle.std.proofs.lemmas.List.FromFn.{map-range_with_len_more}
use Rattle.std.proofs.lemmas.List.Sums.{fold-append}
use denote.Param.Members.{Mut}
use denote.Ref.{Bor}
use Rattle.amounts.specs.Kind.{Kind, smaller}
use Rattle.amounts.specs.Least.{better, least_of}
use Rattle.amounts.specs.Sums.{sum_below, tally}

-- what f gives of one number more
mapped_more : {X : Type 0} (f : ℕ → X) (n : ℕ) → map f (range_with_len 0 (suc n)) ≡ map f (range_with_len 0 n) ++ f n ∷ []
mapped_more f n = let e = map-range_with_len_more f 0 n n (omega arith) in let i : n + 1 ≡ suc n = add-one n in subst (λ k. map f (range_with_len 0 k) ≡ map f (range_with_len 0 n) ++ f n ∷ []) i e

range_more : (n : ℕ) → range_with_len 0 (suc n) ≡ range_with_len 0 n ++ n ∷ []
range_more n = sym (map-id (range_with_len 0 (suc n))) ∙ mapped_more (λ i. i) n ∙ ap (λ l. l ++ n ∷ []) (map-id (range_with_len 0 n))

-- ---- sums
module _ {V : Type 0} (K : Kind V) where
  sum_folded : (f : ℕ → V) (n : ℕ) → fold K.plus K.none (map f (range_with_len 0 n)) ≡ sum_below K n f
  unfolding sum_below
  sum_folded f zero = refl
  sum_folded f (suc n) =
      ap (fold K.plus K.none) (mapped_more f n) ∙ fold-append K.plus K.none (map f (range_with_len 0 n)) (f n ∷ []) ∙ ap (λ x. K.plus x (f n)) (sum_folded f n)

  -- `(0..n).map(h)`, folded into a sum
  pub sum_of_map : {F G : Type 0} (m : Mut G (ℕ × Unit {0}) V) (g : Mut F (V × (V × Unit {0})) V) {f : F} {k : G} {s : Map (Range ℕ) G} (n : ℕ) (h : ℕ → V) {end : ℕ} {init r : V}
      → (xs : List V) × (f' : F) × Drains (maps nat_range_steps m) s xs × FoldsTo {P = F × V} (λ p x q. Called g p.0 (p.1, (x, tt)) q.1 q.0) (f, init) xs (f', r)
      → map_source s ≡ record { start = 0; end = end } → map_callee s ≡ k → end ≡ n → init ≡ K.none
      → ((x : ℕ) (y : V) (q : G) → Called m k (x, tt) y q → (q ≡ k) × (y ≡ h x))
      → ((a x b : V) (q : F) → Called g f (a, (x, tt)) b q → (q ≡ f) × (b ≡ K.plus a x)) → r ≡ sum_below K n h
  sum_of_map m g {f} {k} {s} n h {end} {init} {r} ran source callee long none gives adds =
      fold_over (maps nat_range_steps m) (λ x. x) g (λ ys a. a ≡ fold K.plus K.none ys) f
      (λ ys a x b q i c. let e = adds a x b q c in (e.1 ∙ ap (λ y. K.plus y x) i ∙ sym (fold-append K.plus K.none ys (x ∷ [])), e.0))
      s (map h (range_with_len 0 n)) init r (YieldsList-from_map m h (YieldsList-from_range 0 end n source (omega arith)) callee gives).runs none ran
      ∙ sum_folded h n

-- ---- counts
tally_filtered : (t : ℕ → Bool) (n : ℕ) → length (filter t (range_with_len 0 n)) ≡ tally n t
unfolding tally
tally_filtered t zero = refl
tally_filtered t (suc n) =
    ap (λ l. length (filter t l)) (range_more n) ∙ ap length (filter-append t (range_with_len 0 n) (n ∷ [])) ∙ length-append (filter t (range_with_len 0 n)) (filter t (n ∷ [])) ∙ last (t n) (tally_filtered t n)
  where
    last : (b : Bool) → length (filter t (range_with_len 0 n)) ≡ tally n t → length (filter t (range_with_len 0 n)) + length (cond b (n ∷ []) []) ≡ cond b (suc (tally n t)) (tally n t)
    last true e = omega (arith, e)
    last false e = omega (arith, e)

-- `(0..n).filter(t).count()`
pub tally_of_filter : {F : Type 0} (g : Mut F (Bor ℕ × Unit {0}) Bool) {f : F} {s : Filter (Range ℕ) F} (n : ℕ) (t : ℕ → Bool) {r : ℕ}
    → (xs : List ℕ) × Drains (filter_steps nat_range_steps g) s xs × (r ≡ length xs)
    → filter_source s ≡ record { start = 0; end = n } → filter_callee s ≡ f
    → ((x : ℕ) (b : Bool) (q : F) → CalledAt g f x b q → (q ≡ f) × (b ≡ t x)) → r ≡ tally n t
tally_of_filter g {s = s} n t {r} ran source callee tests =
    count_from_yields_List s r ran (YieldsList-from_filter g t (YieldsList-from_range 0 n n source (omega arith)) callee tests) ∙ tally_filtered t n

-- ---- the least
module _ {V : Type 0} (K : Kind V) where
  -- one more, at the end
  reduce_more : (xs : List V) (y : V) → reduce (smaller K) (xs ++ y ∷ []) ≡ Some (better K (reduce (smaller K) xs) y)
  reduce_more [] y = refl
  reduce_more (x ∷ xs) y = ap Some (fold-append (smaller K) x xs (y ∷ []))

  least_reduced : (t : ℕ → Bool) (v : ℕ → V) (h : ℕ → Option V) → ((i : ℕ) → h i ≡ cond (t i) (Some (v i)) None) → (n : ℕ) → reduce (smaller K) (filter_map h (range_with_len 0 n)) ≡ least_of K n t v
  unfolding least_of
  least_reduced t v h e zero = refl
  least_reduced t v h e (suc n) =
      ap (λ l. reduce (smaller K) (filter_map h l)) (range_more n) ∙ ap (reduce (smaller K)) (filter_map-append h (range_with_len 0 n) (n ∷ []))
      ∙ last (t n) (h n) (e n) (least_reduced t v h e n)
    where
      last : (b : Bool) (o : Option V) → o ≡ cond b (Some (v n)) None → reduce (smaller K) (filter_map h (range_with_len 0 n)) ≡ least_of K n t v
          → reduce (smaller K) (filter_map h (range_with_len 0 n) ++ cons_option o []) ≡ cond b (Some (better K (least_of K n t v) (v n))) (least_of K n t v)
      last true o q i = ap (λ o. reduce (smaller K) (filter_map h (range_with_len 0 n) ++ cons_option o [])) q ∙ reduce_more (filter_map h (range_with_len 0 n)) (v n) ∙ ap (λ r. Some (better K r (v n))) i
      last false o q i = ap (λ o. reduce (smaller K) (filter_map h (range_with_len 0 n) ++ cons_option o [])) q ∙ ap (reduce (smaller K)) (append-nil (filter_map h (range_with_len 0 n))) ∙ i

  -- `(0..n).filter_map(h)`, folded into the smallest so far
  pub least_of_filter_map : {F G : Type 0} (m : Mut G (ℕ × Unit {0}) (Option V)) (g : Mut F (Option V × (V × Unit {0})) (Option V)) {f : F} {k : G} {s : FilterMap (Range ℕ) G} (n : ℕ) (t : ℕ → Bool) (v : ℕ → V) (h : ℕ → Option V) {end : ℕ} {init r : Option V}
      → (xs : List V) × (f' : F) × Drains (filter_map_steps nat_range_steps m) s xs × FoldsTo {P = F × Option V} (λ p x q. Called g p.0 (p.1, (x, tt)) q.1 q.0) (f, init) xs (f', r)
      → filter_map_source s ≡ record { start = 0; end = end } → filter_map_callee s ≡ k → end ≡ n → init ≡ None
      → ((i : ℕ) → h i ≡ cond (t i) (Some (v i)) None)
      → ((x : ℕ) (y : Option V) (q : G) → Called m k (x, tt) y q → (q ≡ k) × (y ≡ h x))
      → ((a : Option V) (x : V) (b : Option V) (q : F) → Called g f (a, (x, tt)) b q → (q ≡ f) × (b ≡ Some (better K a x))) → r ≡ least_of K n t v
  least_of_filter_map m g {f} {k} {s} n t v h {end} {init} {r} ran source callee long none is gives picks =
      fold_over (filter_map_steps nat_range_steps m) (λ x. x) g (λ ys a. a ≡ reduce (smaller K) ys) f
      (λ ys a x b q i c. let e = picks a x b q c in (e.1 ∙ ap (λ y. Some (better K y x)) i ∙ sym (reduce_more ys x), e.0))
      s (filter_map h (range_with_len 0 n)) init r (YieldsList-from_filter_map m h (YieldsList-from_range 0 end n source (omega arith)) callee gives).runs none ran
      ∙ least_reduced t v h is n

-- `array::from_fn`: what holds of each call's answer holds of what stands at its place
pub made_holds : {F B : Type 0} (g : Mut F (ℕ × Unit {0}) B) {f : F} (P : ℕ → B → Type 0) {ys : List B} {n : ℕ} → IsFromFnResult g f ys n → ((x : ℕ) (y : B) (q : F) → Called g f (x, tt) y q → (q ≡ f) × P x y)
    → (i : ℕ) (d : B) → i < n → P i (get_or ys i d)
made_holds {F} g {f} P {ys} {n} made gives i d l = from f refl n 0 made.each i (zero-add i) l
  where
    from : (p : F) → p ≡ f → (m j : ℕ) → IsFromFnResultFrom g p ys j m → (k : ℕ) → j + k ≡ i → k < m → P i (get_or ys i d)
    from p e zero j c k at l = absurd (omega arith)
    from p e (suc m) j c zero at l =
        let here : j ≡ i = omega arith in
        subst (λ x. P x (get_or ys x d)) here (subst (P j) (sym (c.2.1 d)) (gives j c.1 c.0 (subst (λ (q : F). Called g q (j, tt) c.1 c.0) e c.3)).1)
    from p e (suc m) j c (suc k) at l =
        from c.0 (gives j c.1 c.0 (subst (λ (q : F). Called g q (j, tt) c.1 c.0) e c.3)).0 m (j + 1) c.4 k (omega arith) (omega arith)
