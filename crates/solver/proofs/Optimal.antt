-- Valid labels make an assignment least. Assumes nothing.
use Rattle.std.proofs.Common.{◌≡◌, ℕ, zero, suc, ◌+◌, ◌*◌, ◌^◌, ◌<◌, ◌≤◌, Bool, ◌&&◌, eqb, [], ◌∷◌, refl, ap, ◌∙◌, mul-le-mul, arith}
use Rattle.amounts.specs.Kind.{Kind, Lawful, law_limit, AtMost}
use Rattle.amounts.specs.Sums.{sum_below, copies, table_sum, weights, weighs}
use Rattle.amounts.proofs.Numbers.{tally_le}
use Rattle.amounts.proofs.Sums.{weights_le, sum_weight, sum_plus, sum_at_most}
use Rattle.amounts.proofs.Tables.{weighs_le, table_weight, table_plus, table_at_most}
use Rattle.amounts.proofs.Copies.{copies_weight}
use Rattle.amounts.proofs.Solve.{var, nil, ◌⊕◌, ⊖, solve, linear}
use Rattle.plans.specs.Problem.{Problem, member, count, total}
use Rattle.plans.specs.Sheets.{upward, toll}
use Rattle.plans.specs.Theorems.{Sound, Light}
use Rattle.solver.specs.Residual.{node, sink, above, Charges, Counts, Inside, quoted, LightLabels, ConvexCharges, Valid, whole}
use Rattle.solver.specs.Flows.{LeastByLabels}
use Rattle.plans.proofs.Counting.{counts_weight, double_counting}
use Rattle.plans.proofs.Duality.{quote_light, total_light}
use Rattle.solver.proofs.Subgradient.{subgradient}

pub count_le : {V : Type 0} {K : Kind V} (B : Problem V) → Sound K B → (p : ℕ → ℕ) (w c : ℕ) → count B p w c ≤ 120
unfolding count
count_le B s p w c = omega (arith, s.books, tally_le B.books (λ b. eqb (p b) w && member B b c))

pub quoted_light : {V : Type 0} {K : Kind V} → Lawful K → (B : Problem V) → Sound K B → (b w : ℕ) → b < B.books → w < B.weekends → K.weight (quoted K B b w) ≤ 10 ^ 9
quoted_light L B s b w lb lw = quote_light L (B.quote b w) (s.quotes b w lb lw)

module _ {V : Type 0} {K : Kind V} (L : Lawful K) (B : Problem V) (s : Sound K B) (l : ℕ → V) (light : LightLabels K B l) where
  -- ---- from the labels to a sheet: an entry is the label above less the label
  abbrev e : ℕ → ℕ → V
  e w c = K.plus (l (above B.parent w c)) (K.minus (l (node w c)))

  -- the difference of two labels
  gap_light : (u v : ℕ) → K.weight (K.plus (l u) (K.minus (l v))) ≤ 52 * 10 ^ 10
  unfolding law_limit
  gap_light u v =
      let a = light u in
      let b = light v in
      omega (arith, L.plus_weight (l u) (K.minus (l v)) (omega (arith, L.minus_weight (l v) (omega arith))), L.minus_weight (l v) (omega arith))

  e_light : (w c : ℕ) → K.weight (e w c) ≤ 52 * 10 ^ 10
  e_light w c = gap_light (above B.parent w c) (node w c)

  e_sheet : Light K B e
  e_sheet w c _ _ = omega (arith, e_light w c)

  -- the entries on the way up from x telescope
  telescope : (w k x : ℕ) → x ≤ k → x < B.classes → upward K B.parent (e w) k x ≡ K.plus (l sink) (K.minus (l (node w x)))
  unfolding law_limit upward above
  telescope w zero zero h g = refl
  telescope w (suc k) zero h g = refl
  telescope w zero (suc x) h g = absurd (omega arith)
  telescope w (suc k) (suc x) h g =
      let d = s.above (suc x) (omega arith) g in
      let y = B.parent (suc x) in
      let i = light sink in
      let a = light (node w (suc x)) in
      let b = light (node w y) in
      ap (K.plus (e w (suc x))) (telescope w k y (omega arith) (omega arith))
      ∙ solve L (l sink ∷ l (node w (suc x)) ∷ l (node w y) ∷ []) ((var 2 ⊕ ⊖ (var 1)) ⊕ (var 0 ⊕ ⊖ (var 2))) (var 0 ⊕ ⊖ (var 1)) (omega arith) (omega arith) refl

  -- what the book b pays at w: the label of the sink less that of its node
  abbrev pays : ℕ → ℕ → V
  pays b w = toll K B e b w

  pays_is : (b w : ℕ) → b < B.books → pays b w ≡ K.plus (l sink) (K.minus (l (node w (B.class b))))
  unfolding toll
  pays_is b w h = telescope w (B.class b) (B.class b) (omega arith) (s.classed b h)

  pays_light : (b w : ℕ) → b < B.books → K.weight (pays b w) ≤ 52 * 10 ^ 10
  pays_light b w h = rw (pays_is b w h) (gap_light sink (node w (B.class b)))

  paid : (p : ℕ → ℕ) → V
  paid p = sum_below K B.books (λ b. pays b (p b))

  paid_light : (p : ℕ → ℕ) → K.weight (paid p) ≤ 120 * (52 * 10 ^ 10)
  unfolding law_limit paid
  paid_light p =
      let n = s.books in
      let m = weights_le K (52 * 10 ^ 10) B.books (λ b. pays b (p b)) (λ b h. pays_light b (p b) h) in
      omega (arith, sum_weight L B.books (λ b. pays b (p b)) (omega arith))

  -- what is paid, by nodes
  paid_by_nodes : (p : ℕ → ℕ) → ((b : ℕ) → b < B.books → p b < B.weekends) → paid p ≡ table_sum K B.weekends B.classes (λ w c. copies K (count B p w c) (e w c))
  unfolding paid
  paid_by_nodes p sent = double_counting L B e p s e_sheet sent

  module _ (X : Charges V) (convex : ConvexCharges K B X) where
    prices : (ℕ → ℕ) → V
    prices p = table_sum K B.weekends B.classes (λ w c. X.price w c (count B p w c))

    prices_weigh : (p : ℕ → ℕ) → weighs K B.weekends B.classes (λ w c. X.price w c (count B p w c)) ≤ 128 * 10 ^ 13
    prices_weigh p =
        omega (
          arith,
          mul-le-mul s.weekends s.classes,
          weighs_le K (10 ^ 13) B.weekends B.classes (λ w c. X.price w c (count B p w c)) (λ w c a b. (convex w c a b).price_light (count B p w c) (count_le B s p w c)),
        )

    prices_light : (p : ℕ → ℕ) → K.weight (prices p) ≤ 128 * 10 ^ 13
    unfolding law_limit prices
    prices_light p =
        let h = prices_weigh p in
        omega (arith, table_weight L B.weekends B.classes (λ w c. X.price w c (count B p w c)) (omega arith))

    module _ (word : ℕ → ℕ → Bool) (p f q : ℕ → ℕ) (inside : Inside B word p) (counts : Counts B p f) (valid : Valid K B X word l p f) (other : Inside B word q) where
      -- by books: moves
      one_book : (b : ℕ) → b < B.books → AtMost K (K.plus (quoted K B b (p b)) (pays b (p b))) (K.plus (quoted K B b (q b)) (pays b (q b)))
      unfolding law_limit
      one_book b h =
          let m = valid.moved b (q b) h (other.sent b h) (other.meets b h) in
          let qp = quoted_light L B s b (p b) h (inside.sent b h) in
          let qq = quoted_light L B s b (q b) h (other.sent b h) in
          let s = light sink in
          let lp = light (node (p b) (B.class b)) in
          let lq = light (node (q b) (B.class b)) in
          rw (pays_is b (p b) h, pays_is b (q b) h) (linear L (quoted K B b (p b) ∷ quoted K B b (q b) ∷ l sink ∷ l (node (p b) (B.class b)) ∷ l (node (q b) (B.class b)) ∷ [])
          ((var 4, var 3 ⊕ (var 1 ⊕ ⊖ (var 0))) ∷ []) (var 0 ⊕ (var 2 ⊕ ⊖ (var 3))) (var 1 ⊕ (var 2 ⊕ ⊖ (var 4))) (m, tt) (omega arith) refl)

      books_weigh : (g : ℕ → ℕ) → ((b : ℕ) → b < B.books → g b < B.weekends) → weights K B.books (λ b. quoted K B b (g b)) + weights K B.books (λ b. pays b (g b)) ≤ 10 ^ 14
      books_weigh g sent =
          let n = s.books in
          omega (arith, weights_le K (10 ^ 9) B.books (λ b. quoted K B b (g b)) (λ b h. quoted_light L B s b (g b) h (sent b h)), weights_le K (52 * 10 ^ 10) B.books (λ b. pays b (g b)) (λ b h. pays_light b (g b) h))

      both_weigh : (g : ℕ → ℕ) → ((b : ℕ) → b < B.books → g b < B.weekends) → weights K B.books (λ b. K.plus (quoted K B b (g b)) (pays b (g b))) ≤ 10 ^ 14
      unfolding law_limit
      both_weigh g sent =
          let n = s.books in
          omega (
            arith,
            weights_le K (53 * 10 ^ 10) B.books (λ b. K.plus (quoted K B b (g b)) (pays b (g b))) (λ b h.
                let x = quoted_light L B s b (g b) h (sent b h) in
                let y = pays_light b (g b) h in
                omega (arith, L.plus_weight (quoted K B b (g b)) (pays b (g b)) (omega arith))),
          )

      by_books : AtMost K (K.plus (total K B p) (paid p)) (K.plus (total K B q) (paid q))
      unfolding law_limit total paid
      by_books =
          let a = books_weigh p inside.sent in
          let b = books_weigh q other.sent in
          let c = both_weigh p inside.sent in
          let d = both_weigh q other.sent in
          rw (← sum_plus L B.books (λ b. quoted K B b (p b)) (λ b. pays b (p b)) (omega arith), ← sum_plus L B.books (λ b. quoted K B b (q b)) (λ b. pays b (q b)) (omega arith))
          (sum_at_most L B.books (λ b. K.plus (quoted K B b (p b)) (pays b (p b))) (λ b. K.plus (quoted K B b (q b)) (pays b (q b))) (omega arith) one_book)

      -- by nodes: rises, falls and convexity
      one_node : (w c : ℕ) → w < B.weekends → c < B.classes → AtMost K (K.plus (X.price w c (count B p w c)) (copies K (count B q w c) (e w c))) (K.plus (X.price w c (count B q w c)) (copies K (count B p w c) (e w c)))
      unfolding law_limit
      one_node w c lw lc =
          let x = convex w c lw lc in
          let u = light (above B.parent w c) in
          let v = light (node w c) in
          let r = rw (counts w c lw lc) at (valid.rising w c lw lc) in
          let t = rw (counts w c lw lc) at (valid.falling w c lw lc) in
          let n = count B p w c in
          let wr = x.rise_light n in
          let wf = x.fall_light n in
          let a : AtMost K (e w c) (X.rise w c n) = linear L (l (above B.parent w c) ∷ l (node w c) ∷ X.rise w c n ∷ []) ((var 0, var 1 ⊕ var 2) ∷ []) (var 0 ⊕ ⊖ (var 1)) (var 2) (r, tt) (omega arith) refl in
          let b : AtMost K K.none (K.plus (e w c) (X.fall w c n)) = linear L (l (above B.parent w c) ∷ l (node w c) ∷ X.fall w c n ∷ []) ((var 1, var 0 ⊕ var 2) ∷ []) nil ((var 0 ⊕ ⊖ (var 1)) ⊕ var 2) (t, tt) (omega arith) refl in
          subgradient L 120 (10 ^ 13) (X.price w c) (X.rise w c) (X.fall w c) x (e w c) (52 * 10 ^ 10) (e_light w c) (omega arith) n (count B q w c) (count_le B s p w c) (count_le B s q w c) a b

      nodes_weigh : (g h : ℕ → ℕ) → weighs K B.weekends B.classes (λ w c. K.plus (X.price w c (count B g w c)) (copies K (count B h w c) (e w c))) ≤ 11 * 10 ^ 15
      unfolding law_limit
      nodes_weigh g h =
          omega (
            arith,
            mul-le-mul s.weekends s.classes,
            weighs_le K (8 * 10 ^ 13) B.weekends B.classes (λ w c. K.plus (X.price w c (count B g w c)) (copies K (count B h w c) (e w c))) (λ w c lw lc.
                let x = (convex w c lw lc).price_light (count B g w c) (count_le B s g w c) in
                let n = count_le B s h w c in
                let y = copies_weight L (52 * 10 ^ 10) (count B h w c) (e w c) (e_light w c) (omega arith) in
                omega (arith, L.plus_weight (X.price w c (count B g w c)) (copies K (count B h w c) (e w c)) (omega arith))),
          )

      by_nodes : AtMost K (K.plus (prices p) (paid q)) (K.plus (prices q) (paid p))
      unfolding law_limit prices
      by_nodes =
          let W = B.weekends in
          let C = B.classes in
          let a = prices_weigh p in
          let b = prices_weigh q in
          let c = counts_weight L W C e s.weekends s.classes e_sheet (count B p) (λ w c _ _. count_le B s p w c) in
          let d = counts_weight L W C e s.weekends s.classes e_sheet (count B q) (λ w c _ _. count_le B s q w c) in
          let g = nodes_weigh p q in
          let h = nodes_weigh q p in
          rw (
            paid_by_nodes p inside.sent,
            paid_by_nodes q other.sent,
            ← table_plus L W C (λ w c. X.price w c (count B p w c)) (λ w c. copies K (count B q w c) (e w c)) (omega arith),
            ← table_plus L W C (λ w c. X.price w c (count B q w c)) (λ w c. copies K (count B p w c) (e w c)) (omega arith),
          )
          (table_at_most L W C (λ w c. K.plus (X.price w c (count B p w c)) (copies K (count B q w c) (e w c))) (λ w c. K.plus (X.price w c (count B q w c)) (copies K (count B p w c) (e w c))) (omega arith) one_node)

      least : AtMost K (whole K B X p) (whole K B X q)
      unfolding law_limit whole prices
      least =
          let a = total_light L B s p inside.sent in
          let b = total_light L B s q other.sent in
          let c = paid_light p in
          let d = paid_light q in
          let g = prices_light p in
          let h = prices_light q in
          linear L (total K B p ∷ total K B q ∷ paid p ∷ paid q ∷ prices p ∷ prices q ∷ [])
          ((var 0 ⊕ var 2, var 1 ⊕ var 3) ∷ (var 4 ⊕ var 3, var 5 ⊕ var 2) ∷ []) (var 0 ⊕ var 4) (var 1 ⊕ var 5) (by_books, (by_nodes, tt)) (omega arith) refl

pub least_by_labels : {V : Type 0} {K : Kind V} → Lawful K → LeastByLabels K
least_by_labels L B X s convex word l p f q light inside counts valid other = least L B s l light X convex word p f q inside counts valid other
