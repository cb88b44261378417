-- The walk as one theorem: there is an assignment with the book at a start, within the words, for which the labels are valid, and its whole cost is what the labels say. Assumes nothing.
use Rattle.std.proofs.Common.{◌≡◌, ℕ, zero, suc, ◌+◌, ◌-◌, ◌*◌, ◌^◌, ◌<◌, ◌≤◌, Bool, true, cond, eqb, [], ◌∷◌, Some, None, Option, sym, refl, ap, ◌∙◌, ap₂, ⊎_elim, arith}
use Rattle.std.proofs.lemmas.Bool.{cases_eq, eq-eqb, ne_eqb, cond-true, cond-false}
use Rattle.amounts.specs.Kind.{Kind, Lawful, law_limit, AtMost}
use Rattle.amounts.proofs.Sums.{sum_same}
use Rattle.amounts.proofs.Solve.{var, ◌⊕◌, linear_equal}
use Rattle.solver.specs.declared.arcs.Arc.{Arc}
use Rattle.solver.specs.declared.arcs.Arc.TheVariants.{Rise, Fall, Move}
use Rattle.plans.specs.Problem.{Problem}
use Rattle.solver.specs.Residual.{node, above, Charges, Counts, ButFor, Inside, quoted, LightLabels, Fits, Valid, whole}
use Rattle.solver.specs.Walk.{other_quotes, charged, spent, Reached, Walking}
use Rattle.solver.proofs.Optimal.{quoted_light}
use Rattle.solver.proofs.Walk.{step_up, step_down, step_move, step_end, down_room, apart}
use Rattle.solver.proofs.Spent.{spent_up, spent_down, spent_move, spent_whole, walked_few, quotes_light, charged_light}

-- a function changed in one place
abbrev pub put : {S : Type 0} → (ℕ → S) → ℕ → S → ℕ → S
put f n x i = cond (eqb i n) x (f i)

put_here : {S : Type 0} (f : ℕ → S) (n : ℕ) (x : S) → put f n x n ≡ x
put_here f n x = cond-true (eqb n n) x (f n) (eq-eqb n n refl)

put_there : {S : Type 0} (f : ℕ → S) (n : ℕ) (x : S) (i : ℕ) → (i ≡ n → ⊥) → put f n x i ≡ f i
put_there f n x i d = cond-false (eqb i n) x (f i) (ne_eqb i n d)

-- a sum put together anew
regroup : {V : Type 0} {K : Kind V} (L : Lawful K) (s t q p g n x y : V) → 6 * (K.weight s + K.weight t + K.weight g + K.weight n + K.weight x + K.weight y) ≤ law_limit → q ≡ K.plus s x → p ≡ K.plus t y → K.plus s g ≡ K.plus t n →
    K.plus (K.plus q g) y ≡ K.plus (K.plus p n) x
regroup L s t q p g n x y h a b e =
    rw (a, b) (linear_equal L (s ∷ t ∷ g ∷ n ∷ x ∷ y ∷ []) ((var 0 ⊕ var 2, var 1 ⊕ var 3) ∷ []) (((var 0 ⊕ var 4) ⊕ var 2) ⊕ var 5) (((var 1 ⊕ var 5) ⊕ var 3) ⊕ var 4) (e, tt) (omega arith) refl)

module _ {V : Type 0} {K : Kind V} (L : Lawful K) (B : Problem V) (X : Charges V) (fits : Fits K B X) (word : ℕ → ℕ → Bool) (k : ℕ) (into : ℕ → Bool) (begin : ℕ → V) (b : ℕ) (lb : b < B.books) (l : ℕ → V) (light : LightLabels K B l) (rank : ℕ → ℕ) (via : ℕ → Option Arc) where
  abbrev Walks : (ℕ → ℕ) → (ℕ → ℕ) → ℕ → Type 0
  Walks p f v = Walking K B X word k into begin l rank via b p f v

  -- the hole has come to a start
  pub record Landed (p f : ℕ → ℕ) (v : ℕ) : Type 0 where
    pub plan : ℕ → ℕ
    pub counts : ℕ → ℕ
    pub hole : ℕ
    pub walks : Walks plan counts hole
    pub start : Reached K B X word k into begin l rank plan counts hole None
    pub paid : K.plus (spent K B X b plan counts) (l hole) ≡ K.plus (spent K B X b p f) (l v)

  onward : (p f q g : ℕ → ℕ) (v u : ℕ) → K.plus (spent K B X b q g) (l u) ≡ K.plus (spent K B X b p f) (l v) → Landed q g u → Landed p f v
  onward p f q g v u e x = record { plan = x.plan; counts = x.counts; hole = x.hole; walks = x.walks; start = x.start; paid = x.paid ∙ e }

  pub landed : (n : ℕ) (p f : ℕ → ℕ) (v : ℕ) → rank v < n → Walks p f v → Landed p f v
  landed zero p f v h i = absurd (omega arith)
  landed (suc n) p f v h i = go (λ q g u m j. landed n q g u m j) (via v) (i.ahead v (omega arith))
    where
      go : ((q g : ℕ → ℕ) (u : ℕ) → rank u < n → Walks q g u → Landed q g u) → (o : Option Arc) → Reached K B X word k into begin l rank p f v o → Landed p f v
      go next None t = record { plan = p; counts = f; hole = v; walks = i; start = t; paid = refl }
      go next (Some (Rise w c)) t =
          let g = put f (node w c) (suc (f (node w c))) in
          let e = put_here f (node w c) (suc (f (node w c))) in
          let o = put_there f (node w c) (suc (f (node w c))) in
          let j = step_up L B X fits word k into begin b lb l light rank via p f g v w c t.0.0 t.0.1 t.1 t.2 t.3 e o i in
          onward p f p g v (node w c) (spent_up L B X fits word k into begin b lb l light rank via p f g v w c t.0.0 t.0.1 t.1 t.3 e o i j) (next p g (node w c) (omega (arith, t.2)) j)
      go next (Some (Fall w c)) t =
          let m = f (node w c) - 1 in
          let g = put f (node w c) m in
          let r = down_room L B X fits word k into begin b lb l light rank via p f v w c t.0.0 t.0.1 t.1 i in
          let e : f (node w c) ≡ suc (g (node w c)) = omega (arith, put_here f (node w c) m) in
          let o = put_there f (node w c) m in
          let j = step_down L B X fits word k into begin b lb l light rank via p f g v w c t.0.0 t.0.1 t.1 t.2 t.3 e o i in
          onward p f p g v (above B.parent w c) (spent_down L B X fits word k into begin b lb l light rank via p f g v w c t.0.0 t.0.1 t.3 e o i j) (next p g (above B.parent w c) (omega (arith, t.2)) j)
      go next (Some (Move j₀ x)) t =
          let q = put p j₀ x in
          let e = put_here p j₀ x in
          let o : ButFor B j₀ p q = λ j _ d. put_there p j₀ x j d in
          let j = step_move L B X fits word k into begin b lb l light rank via p q f v j₀ x t.0.0 t.0.1 t.0.2 t.1 t.2 t.3 e o i in
          let a = apart L B X fits word k into begin b lb l light rank via p q f v j₀ x t.0.0 t.0.1 t.0.2 t.1 t.2 t.3 e o i in
          onward p f q f v (node (p j₀) (B.class j₀)) (spent_move L B X fits word k into begin b lb l light rank via p q f v j₀ x t.0.0 a t.0.1 t.3 e o i j) (next q f (node (p j₀) (B.class j₀)) (omega (arith, t.2)) j)

  -- the book put at the start
  pub record Moved (p : ℕ → ℕ) (word' : ℕ → ℕ → Bool) : Type 0 where
    pub plan : ℕ → ℕ
    pub counts : ℕ → ℕ
    pub place : ℕ
    pub within_into : (place < B.weekends) × (into place ≡ true) × (plan b ≡ place)
    pub counted : Counts B plan counts
    pub within : Inside B word' plan
    pub valid : Valid K B X word' l plan counts
    -- whole plan = whole p + (quote at the new place - quote at the old) + (label at the old place - label at the start)
    pub costs : K.plus (K.plus (whole K B X plan) (begin place)) (quoted K B b (p b)) ≡ K.plus (K.plus (whole K B X p) (l (node (p b) (B.class b)))) (quoted K B b place)

  module _ (p f : ℕ → ℕ) (word' : ℕ → ℕ → Bool) (mate : B.class b ≡ k) (counts : Counts B p f) (i : Walks p f (node (p b) (B.class b)))
      (starts : (x : ℕ) → x < B.weekends → into x ≡ true → AtMost K (l (node x k)) (begin x))
      (even : (x y : ℕ) → x < B.weekends → y < B.weekends → into x ≡ true → into y ≡ true → K.plus (begin x) (quoted K B b y) ≡ K.plus (begin y) (quoted K B b x)) (begins : (x : ℕ) → x < B.weekends → into x ≡ true → K.weight (begin x) ≤ 10 ^ 9)
      (mine : (x : ℕ) → word' b x ≡ into x) (theirs : (j x : ℕ) → (j ≡ b → ⊥) → word' j x ≡ word j x) where
    quotes_same : (q : ℕ → ℕ) (x : ℕ) → other_quotes K B b (put q b x) ≡ other_quotes K B b q
    unfolding other_quotes
    quotes_same q x = sum_same K B.books _ _ (λ j _. ⊎_elim
        (λ (e : j ≡ b). cond-true (eqb j b) K.none _ (eq-eqb j b e) ∙ sym (cond-true (eqb j b) K.none _ (eq-eqb j b e)))
        (λ (d : j ≡ b → ⊥). ap (λ y. cond (eqb j b) K.none (quoted K B j y)) (put_there q b x j d)) (cases_eq j b))

    spent_light : (q g : ℕ → ℕ) → ((j : ℕ) → j < B.books → q j < B.weekends) → ((w c : ℕ) → w < B.weekends → c < B.classes → g (node w c) ≤ 120) → K.weight (spent K B X b q g) ≤ 129 * 10 ^ 13
    unfolding law_limit
    spent_light q g sent few =
        let x = quotes_light L B X fits word k into begin b lb l light rank via q sent in
        let y = charged_light L B X fits word k into begin b lb l light rank via g few in
        omega (arith, L.plus_weight (other_quotes K B b q) (charged K B X g) (omega arith))

    few : (q g : ℕ → ℕ) (v : ℕ) → Walks q g v → (w c : ℕ) → w < B.weekends → c < B.classes → g (node w c) ≤ 120
    few = walked_few L B X fits word k into begin b lb l light rank via

    from_landed : Landed p f (node (p b) (B.class b)) → Moved p word'
    unfolding law_limit
    from_landed z =
        let x = z.start.0 in
        let q = put z.plan b x in
        let g = z.counts in
        let e = put_here z.plan b x in
        let end = step_end L B X fits word k into begin b lb l light rank via z.plan q g word' z.hole x z.start.1 z.start.2 mate z.start.3 z.start.4 starts (λ y ly iy. even y x ly z.start.1 iy z.start.2) begins mine theirs e (λ j _ d. put_there z.plan b x j d) z.walks in
        let old = spent_whole L B X fits word k into begin b lb l light rank via p f i.sent counts (few p f (node (p b) (B.class b)) i) in
        let new = spent_whole L B X fits word k into begin b lb l light rank via q g end.1.sent end.0 (few z.plan g z.hole z.walks) in
        let new' : whole K B X q ≡ K.plus (spent K B X b z.plan g) (quoted K B b x) = new ∙ ap₂ (λ u y. K.plus (K.plus u (charged K B X g)) (quoted K B b y)) (quotes_same z.plan x) e in
        let paid : K.plus (spent K B X b z.plan g) (begin x) ≡ K.plus (spent K B X b p f) (l (node (p b) (B.class b))) = ap (K.plus (spent K B X b z.plan g)) (sym z.start.4) ∙ z.paid in
        let s₁ = spent_light z.plan g z.walks.sent (few z.plan g z.hole z.walks) in
        let s₂ = spent_light p f i.sent (few p f (node (p b) (B.class b)) i) in
        record {
          plan = q;
          counts = g;
          place = x;
          within_into = (z.start.1, z.start.2, e);
          counted = end.0;
          within = end.1;
          valid = end.2;
          costs = regroup L (spent K B X b z.plan g) (spent K B X b p f) (whole K B X q) (whole K B X p) (begin x) (l (node (p b) (B.class b))) (quoted K B b x) (quoted K B b (p b))
              (omega (arith, s₁, s₂, begins x z.start.1 z.start.2, light (node (p b) (B.class b)), quoted_light L B fits.sound b x lb z.start.1, quoted_light L B fits.sound b (p b) lb (i.sent b lb))) new' old paid;
        }

    pub moved : Moved p word'
    moved = from_landed (landed (suc (rank (node (p b) (B.class b)))) p f (node (p b) (B.class b)) (omega arith) i)
