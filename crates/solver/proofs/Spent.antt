-- What the walk spends is what the labels say. Assumes nothing.
use Rattle.std.proofs.Common.{◌≡◌, ℕ, suc, ◌*◌, ◌^◌, ◌<◌, ◌≤◌, Bool, cond, eqb, [], ◌∷◌, Option, sym, refl, ap, ◌∙◌, ap₂, mul-le-mul, arith}
use Rattle.std.proofs.lemmas.Bool.{eq-eqb, ne_eqb, cond-true, cond-false, cond_both}
use Rattle.amounts.specs.Kind.{Kind, Lawful, law_limit}
use Rattle.amounts.specs.Sums.{sum_below, table_sum, weights}
use Rattle.amounts.proofs.Order.{plus_cancel}
use Rattle.amounts.proofs.Sums.{weights_le, sum_weight, sum_set}
use Rattle.amounts.proofs.Tables.{weighs_le, table_weight, table_same, table_set}
use Rattle.amounts.proofs.Solve.{var, ◌⊕◌, ⊖, solve}
use Rattle.solver.specs.declared.arcs.Arc.{Arc}
use Rattle.plans.specs.Problem.{Problem, count, total}
use Rattle.solver.specs.Residual.{node, above, Charges, Counts, ButFor, ButAt, quoted, moving, LightLabels, Fits, whole}
use Rattle.solver.specs.Walk.{other_quotes, charged, spent, Walking}
use Rattle.solver.proofs.Hole.{hole}
use Rattle.solver.proofs.Optimal.{quoted_light}

module _ {V : Type 0} {K : Kind V} (L : Lawful K) (B : Problem V) (X : Charges V) (fits : Fits K B X) (word : ℕ → ℕ → Bool) (k : ℕ) (into : ℕ → Bool) (begin : ℕ → V) (b : ℕ) (lb : b < B.books) (l : ℕ → V) (light : LightLabels K B l) (rank : ℕ → ℕ) (via : ℕ → Option Arc) where
  abbrev Walks : (ℕ → ℕ) → (ℕ → ℕ) → ℕ → Type 0
  Walks p f v = Walking K B X word k into begin l rank via b p f v

  abbrev pub Few : (ℕ → ℕ) → Type 0
  Few f = (w c : ℕ) → w < B.weekends → c < B.classes → f (node w c) ≤ 120

  -- while the walk goes on, no count passes the number of books
  pub walked_few : (p f : ℕ → ℕ) (v : ℕ) → Walks p f v → Few f
  walked_few p f v i w c lw lc = (hole K B fits.sound).few p f b v w c lb lw lc i.holed

  pub charged_light : (f : ℕ → ℕ) → Few f → K.weight (charged K B X f) ≤ 128 * 10 ^ 13
  unfolding law_limit charged
  charged_light f few =
      let a = weighs_le K (10 ^ 13) B.weekends B.classes (λ w c. X.price w c (f (node w c))) (λ w c lw lc. (fits.convex w c lw lc).price_light (f (node w c)) (few w c lw lc)) in
      let d = mul-le-mul fits.sound.weekends fits.sound.classes in
      omega (arith, table_weight L B.weekends B.classes (λ w c. X.price w c (f (node w c))) (omega arith))

  -- one count more: its rise is charged
  charged_more : (f g : ℕ → ℕ) (w₀ c₀ : ℕ) → w₀ < B.weekends → c₀ < B.classes → Few f → Few g → g (node w₀ c₀) ≡ suc (f (node w₀ c₀)) → ButAt (node w₀ c₀) f g →
      charged K B X g ≡ K.plus (charged K B X f) (X.rise w₀ c₀ (f (node w₀ c₀)))
  unfolding law_limit charged
  charged_more f g w₀ c₀ lw lc ff fg e o =
      let W = B.weekends in
      let C = B.classes in
      let x = fits.convex w₀ c₀ lw lc in
      let m = f (node w₀ c₀) in
      let pf = x.price_light m (ff w₀ c₀ lw lc) in
      let r = x.rise_light m in
      let tf = charged_light f ff in
      let tg = charged_light g fg in
      let d = mul-le-mul fits.sound.weekends fits.sound.classes in
      let u = fits.sound.weekends in
      let v = fits.sound.classes in
      let wf = weighs_le K (10 ^ 13) W C (λ w c. X.price w c (f (node w c))) (λ w c hw hc. (fits.convex w c hw hc).price_light (f (node w c)) (ff w c hw hc)) in
      let wg = weighs_le K (10 ^ 13) W C (λ w c. X.price w c (g (node w c))) (λ w c hw hc. (fits.convex w c hw hc).price_light (g (node w c)) (fg w c hw hc)) in
      let pg = (fits.convex w₀ c₀ lw lc).price_light (g (node w₀ c₀)) (fg w₀ c₀ lw lc) in
      let both = table_set L W C w₀ c₀ (λ w c. X.price w c (g (node w c))) (λ w c. X.price w c (f (node w c))) lw lc (omega arith) (omega arith)
      (λ w c hw hc n. ap (X.price w c) (o (node w c) (λ z. n (omega arith, omega arith)))) in
      let more : X.price w₀ c₀ (g (node w₀ c₀)) ≡ K.plus (X.price w₀ c₀ m) (X.rise w₀ c₀ m) = ap (X.price w₀ c₀) e ∙ x.step m (omega (arith, fg w₀ c₀ lw lc)) in
      let T = table_sum K W C (λ w c. X.price w c (f (node w c))) in
      let s = L.plus_weight T (X.rise w₀ c₀ m) (omega arith) in
      plus_cancel L (table_sum K W C (λ w c. X.price w c (g (node w c)))) (K.plus T (X.rise w₀ c₀ m)) (X.price w₀ c₀ m) (omega arith) (omega arith)
      (both ∙ ap (K.plus T) more ∙ solve L (T ∷ X.price w₀ c₀ m ∷ X.rise w₀ c₀ m ∷ []) (var 0 ⊕ (var 1 ⊕ var 2)) ((var 0 ⊕ var 2) ⊕ var 1) (omega arith) (omega arith) refl)

  charged_same : (p f : ℕ → ℕ) → Counts B p f → table_sum K B.weekends B.classes (λ w c. X.price w c (count B p w c)) ≡ charged K B X f
  unfolding charged
  charged_same p f h = table_same K B.weekends B.classes _ _ (λ w c lw lc. ap (X.price w c) (sym (h w c lw lc)))

  quote_light : (p : ℕ → ℕ) → ((j : ℕ) → j < B.books → p j < B.weekends) → (j : ℕ) → j < B.books → K.weight (cond (eqb j b) K.none (quoted K B j (p j))) ≤ 10 ^ 9
  quote_light p sent j h = cond_both (eqb j b) K.none (quoted K B j (p j)) (λ x. K.weight x ≤ 10 ^ 9) (λ _. omega (arith, L.none_weight)) (λ _. quoted_light L B fits.sound j (p j) h (sent j h))

  quotes_weigh : (p : ℕ → ℕ) → ((j : ℕ) → j < B.books → p j < B.weekends) → weights K B.books (λ j. cond (eqb j b) K.none (quoted K B j (p j))) ≤ 120 * 10 ^ 9
  quotes_weigh p sent = omega (arith, fits.sound.books, weights_le K (10 ^ 9) B.books (λ j. cond (eqb j b) K.none (quoted K B j (p j))) (quote_light p sent))

  pub quotes_light : (p : ℕ → ℕ) → ((j : ℕ) → j < B.books → p j < B.weekends) → K.weight (other_quotes K B b p) ≤ 120 * 10 ^ 9
  unfolding law_limit other_quotes
  quotes_light p sent = let w = quotes_weigh p sent in omega (arith, sum_weight L B.books (λ j. cond (eqb j b) K.none (quoted K B j (p j))) (omega arith))

  -- another book moved: the difference of its quotes
  quotes_moved : (p q : ℕ → ℕ) (j₀ : ℕ) → j₀ < B.books → (j₀ ≡ b → ⊥) → ((j : ℕ) → j < B.books → p j < B.weekends) → ((j : ℕ) → j < B.books → q j < B.weekends) → ButFor B j₀ p q →
      K.plus (other_quotes K B b q) (quoted K B j₀ (p j₀)) ≡ K.plus (other_quotes K B b p) (quoted K B j₀ (q j₀))
  unfolding law_limit other_quotes
  quotes_moved p q j₀ lj n sp sq o =
      let x = quotes_weigh p sp in
      let y = quotes_weigh q sq in
      let u = quote_light p sp j₀ lj in
      let v = quote_light q sq j₀ lj in
      let s = sum_set L B.books j₀ (λ j. cond (eqb j b) K.none (quoted K B j (q j))) (λ j. cond (eqb j b) K.none (quoted K B j (p j))) lj (omega arith) (omega arith) (λ j h d. ap (λ z. cond (eqb j b) K.none (quoted K B j z)) (o j h d)) in
      let c : (z : V) → cond (eqb j₀ b) K.none z ≡ z = λ z. cond-false (eqb j₀ b) K.none z (ne_eqb j₀ b n) in
      ap (K.plus _) (sym (c (quoted K B j₀ (p j₀)))) ∙ s ∙ ap (K.plus _) (c (quoted K B j₀ (q j₀)))

  -- with the book b the quotes come to the total
  quotes_whole : (p : ℕ → ℕ) → ((j : ℕ) → j < B.books → p j < B.weekends) → total K B p ≡ K.plus (other_quotes K B b p) (quoted K B b (p b))
  unfolding law_limit other_quotes total
  quotes_whole p sent =
      let x = quotes_weigh p sent in
      let y = weights_le K (10 ^ 9) B.books (λ j. quoted K B j (p j)) (λ j h. quoted_light L B fits.sound j (p j) h (sent j h)) in
      let n = fits.sound.books in
      let u = quote_light p sent b lb in
      let v = quoted_light L B fits.sound b (p b) lb (sent b lb) in
      let w = sum_weight L B.books (λ j. quoted K B j (p j)) (omega arith) in
      let s = sum_set L B.books b (λ j. quoted K B j (p j)) (λ j. cond (eqb j b) K.none (quoted K B j (p j))) lb (omega arith) (omega arith) (λ j h d. sym (cond-false (eqb j b) K.none (quoted K B j (p j)) (ne_eqb j b d))) in
      let c : cond (eqb b b) K.none (quoted K B b (p b)) ≡ K.none = cond-true (eqb b b) K.none _ (eq-eqb b b refl) in
      sym (L.unit (sum_below K B.books (λ j. quoted K B j (p j))) (omega arith)) ∙ ap (K.plus _) (sym c) ∙ s

  -- ---- what is spent and the label at the hole add up to the same at every step
  module _ (p f g : ℕ → ℕ) (v w₀ c₀ : ℕ) (lw : w₀ < B.weekends) (lc : c₀ < B.classes) (at : v ≡ above B.parent w₀ c₀)
      (tight : l v ≡ K.plus (l (node w₀ c₀)) (X.rise w₀ c₀ (f (node w₀ c₀)))) (changed : g (node w₀ c₀) ≡ suc (f (node w₀ c₀))) (others : ButAt (node w₀ c₀) f g) (i : Walks p f v) (j : Walks p g (node w₀ c₀)) where
    pub spent_up : K.plus (spent K B X b p g) (l (node w₀ c₀)) ≡ K.plus (spent K B X b p f) (l v)
    unfolding law_limit
    spent_up =
        let q = quotes_light p i.sent in
        let few = walked_few p f v i in
        let few' = walked_few p g (node w₀ c₀) j in
        let t = charged_light f few in
        let r = (fits.convex w₀ c₀ lw lc).rise_light (f (node w₀ c₀)) in
        let n = light (node w₀ c₀) in
        ap (λ z. K.plus (K.plus (other_quotes K B b p) z) (l (node w₀ c₀))) (charged_more f g w₀ c₀ lw lc few few' changed others)
        ∙ solve L (other_quotes K B b p ∷ charged K B X f ∷ X.rise w₀ c₀ (f (node w₀ c₀)) ∷ l (node w₀ c₀) ∷ []) ((var 0 ⊕ (var 1 ⊕ var 2)) ⊕ var 3) ((var 0 ⊕ var 1) ⊕ (var 3 ⊕ var 2)) (omega arith) (omega arith) refl
        ∙ ap (K.plus (spent K B X b p f)) (sym tight)

  module _ (p f g : ℕ → ℕ) (v w₀ c₀ : ℕ) (lw : w₀ < B.weekends) (lc : c₀ < B.classes)
      (tight : l v ≡ K.plus (l (above B.parent w₀ c₀)) (X.fall w₀ c₀ (f (node w₀ c₀)))) (changed : f (node w₀ c₀) ≡ suc (g (node w₀ c₀))) (others : ButAt (node w₀ c₀) f g) (i : Walks p f v) (j : Walks p g (above B.parent w₀ c₀)) where
    pub spent_down : K.plus (spent K B X b p g) (l (above B.parent w₀ c₀)) ≡ K.plus (spent K B X b p f) (l v)
    unfolding law_limit
    spent_down =
        let q = quotes_light p i.sent in
        let few = walked_few p f v i in
        let few' = walked_few p g (above B.parent w₀ c₀) j in
        let t = charged_light g few' in
        let x = fits.convex w₀ c₀ lw lc in
        let m = g (node w₀ c₀) in
        let r = x.rise_light m in
        let n = light (above B.parent w₀ c₀) in
        let back : l v ≡ K.plus (l (above B.parent w₀ c₀)) (K.minus (X.rise w₀ c₀ m)) = tight ∙ ap (λ z. K.plus (l (above B.parent w₀ c₀)) (X.fall w₀ c₀ z)) changed ∙ ap (K.plus (l (above B.parent w₀ c₀))) (x.back m) in
        solve L (other_quotes K B b p ∷ charged K B X g ∷ X.rise w₀ c₀ m ∷ l (above B.parent w₀ c₀) ∷ []) ((var 0 ⊕ var 1) ⊕ var 3) ((var 0 ⊕ (var 1 ⊕ var 2)) ⊕ (var 3 ⊕ ⊖ (var 2))) (omega arith) (omega arith) refl
        ∙ ap₂ (λ z u. K.plus (K.plus (other_quotes K B b p) z) u) (sym (charged_more g f w₀ c₀ lw lc few' few changed (λ u d. sym (others u d)))) (sym back)

  module _ (p q f : ℕ → ℕ) (v j₀ y : ℕ) (lj : j₀ < B.books) (apart : j₀ ≡ b → ⊥) (ly : y < B.weekends)
      (tight : l v ≡ K.plus (l (node (p j₀) (B.class j₀))) (moving K B j₀ (p j₀) y)) (changed : q j₀ ≡ y) (others : ButFor B j₀ p q) (i : Walks p f v) (j : Walks q f (node (p j₀) (B.class j₀))) where
    pub spent_move : K.plus (spent K B X b q f) (l (node (p j₀) (B.class j₀))) ≡ K.plus (spent K B X b p f) (l v)
    unfolding law_limit
    spent_move =
        let few = walked_few p f v i in
        let t = charged_light f few in
        let n = light (node (p j₀) (B.class j₀)) in
        let a = quotes_light p i.sent in
        let d = quotes_light q j.sent in
        let qp = quoted_light L B fits.sound j₀ (p j₀) lj (i.sent j₀ lj) in
        let qy = quoted_light L B fits.sound j₀ y lj ly in
        let e : K.plus (other_quotes K B b q) (quoted K B j₀ (p j₀)) ≡ K.plus (other_quotes K B b p) (quoted K B j₀ y) = rw changed at (quotes_moved p q j₀ lj apart i.sent j.sent others) in
        let ρ = other_quotes K B b q ∷ other_quotes K B b p ∷ charged K B X f ∷ l (node (p j₀) (B.class j₀)) ∷ quoted K B j₀ (p j₀) ∷ quoted K B j₀ y ∷ [] in
        rw tight (solve L ρ ((var 0 ⊕ var 2) ⊕ var 3) ((var 0 ⊕ var 4) ⊕ ((var 2 ⊕ var 3) ⊕ ⊖ (var 4))) (omega arith) (omega arith) refl
        ∙ ap (λ z. K.plus z (K.plus (K.plus (charged K B X f) (l (node (p j₀) (B.class j₀)))) (K.minus (quoted K B j₀ (p j₀))))) e
        ∙ solve L ρ ((var 1 ⊕ var 5) ⊕ ((var 2 ⊕ var 3) ⊕ ⊖ (var 4))) ((var 1 ⊕ var 2) ⊕ (var 3 ⊕ (var 5 ⊕ ⊖ (var 4)))) (omega arith) (omega arith) refl)

  -- the whole cost of an assignment whose counts f has
  pub spent_whole : (p f : ℕ → ℕ) → ((j : ℕ) → j < B.books → p j < B.weekends) → Counts B p f → Few f → whole K B X p ≡ K.plus (spent K B X b p f) (quoted K B b (p b))
  unfolding law_limit whole
  spent_whole p f sent counts few =
      let a = quotes_light p sent in
      let t = charged_light f few in
      let q = quoted_light L B fits.sound b (p b) lb (sent b lb) in
      ap₂ K.plus (quotes_whole p sent) (charged_same p f counts)
      ∙ solve L (other_quotes K B b p ∷ charged K B X f ∷ quoted K B b (p b) ∷ []) ((var 0 ⊕ var 2) ⊕ var 1) ((var 0 ⊕ var 1) ⊕ var 2) (omega arith) (omega arith) refl
