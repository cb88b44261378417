-- The hole: where it is, the counts are those of the assignment with one book put there; each step keeps that. Assumes nothing.
use Rattle.std.proofs.Common.{◌≡◌, ℕ, zero, suc, ◌+◌, ◌*◌, ◌/◌, ◌%◌, ◌<◌, ◌≤◌, Bool, true, false, ◌&&◌, ◌||◌, eqb, ◌⊎◌, sym, refl, ap, ◌∙◌, subst, inl, inr, ⊎_elim, arith}
use Rattle.std.proofs.lemmas.Bool.{cases_Bool, eq-eqb, ne_eqb, eqb-true, eqb-false, and_cases, and_parts, and_from, and_left}
use Rattle.amounts.specs.Kind.{Kind}
use Rattle.amounts.specs.Sums.{bit}
use Rattle.amounts.proofs.Numbers.{bit_le, tally_le, tally_miss, tally_set, tally_has}
use Rattle.plans.specs.Problem.{Problem, climbs, member, count}
use Rattle.plans.specs.Theorems.{Sound}
use Rattle.solver.specs.Residual.{node, sink, above, covers, Counts, Holed, ButFor, ButAt}
use Rattle.solver.specs.Flows.{Hole}
use Rattle.plans.proofs.Climbing.{climbs_two, climbs_le, climbs_here}

module _ (parent : ℕ → ℕ) where
  covers_node : (w₀ c₀ w c : ℕ) → c₀ < 8 → covers parent (node w₀ c₀) w c ≡ (eqb w₀ w && climbs parent c₀ c₀ c)
  unfolding covers
  covers_node w₀ c₀ w c l =
      let p : (w₀ * 8 + c₀) / 8 ≡ w₀ = omega arith in
      let q : (w₀ * 8 + c₀) % 8 ≡ c₀ = omega arith in
      rw (p, q) refl

  sink_covers : (w c : ℕ) → w < 16 → covers parent sink w c ≡ false
  unfolding covers
  sink_covers w c l = and_left (eqb 16 w) (climbs parent 0 0 c) (ne_eqb 16 w (omega arith))

  module _ (root : parent 0 ≡ 0) (C : ℕ) (cs : C ≤ 8) (down : (c : ℕ) → 0 < c → c < C → parent c < c) where
    -- the class itself, and what is above its parent
    climbs_split : (x c : ℕ) → suc x < C → climbs parent (suc x) (suc x) c ≡ (eqb (suc x) c || climbs parent (parent (suc x)) (parent (suc x)) c)
    climbs_split x c l =
        let d = down (suc x) (omega arith) l in
        ap (λ u. eqb (suc x) c || u) (climbs_two parent root C down x (parent (suc x)) (parent (suc x)) c (omega arith) (omega arith) (omega arith))

    -- a hole moved from the node above (w₀, c₀) down to it is felt at (w₀, c₀) alone
    pub covers_above : (w₀ c₀ w c : ℕ) → c₀ < C → w < 16 → bit (covers parent (node w₀ c₀) w c) ≡ bit (covers parent (above parent w₀ c₀) w c) + bit (eqb w₀ w && eqb c₀ c)
    unfolding above
    covers_above w₀ zero w c l k =
        rw (covers_node w₀ 0 w c (omega arith), sink_covers w c k) (omega arith)
    covers_above w₀ (suc c₀) w c l k =
        let d = down (suc c₀) (omega arith) l in
        rw (covers_node w₀ (suc c₀) w c (omega arith), covers_node w₀ (parent (suc c₀)) w c (omega arith), climbs_split c₀ c l)
        (go (eqb w₀ w) (eqb (suc c₀) c) (climbs parent (parent (suc c₀)) (parent (suc c₀)) c) (λ e a. let h = eqb-true (suc c₀) c e in let g = climbs_le parent root C down (parent (suc c₀)) (parent (suc c₀)) c (omega arith) a in omega arith))
      where
        go : (s t u : Bool) → (t ≡ true → u ≡ true → ⊥) → bit (s && (t || u)) ≡ bit (s && u) + bit (s && t)
        go true true true n = absurd (n refl refl)
        go true true false n = refl
        go true false true n = refl
        go true false false n = refl
        go false t u n = refl

-- ---- the steps of the walk
module _ {V : Type 0} {K : Kind V} (B : Problem V) (s : Sound K B) where
  -- the counts of two assignments that differ in the book j
  count_set : (p q : ℕ → ℕ) (j w c : ℕ) → j < B.books → ButFor B j p q →
      count B q w c + bit (eqb (p j) w && member B j c) ≡ count B p w c + bit (eqb (q j) w && member B j c)
  unfolding count
  count_set p q j w c l e = tally_set B.books j (λ i. eqb (q i) w && member B i c) (λ i. eqb (p i) w && member B i c) l (λ i k d. ap (λ u. eqb u w && member B i c) (e i k d))

  covers_book : (b x w c : ℕ) → b < B.books → covers B.parent (node x (B.class b)) w c ≡ (eqb x w && member B b c)
  unfolding member
  covers_book b x w c l = covers_node B.parent x (B.class b) w c (omega (arith, s.classed b l, s.classes))

  -- taking b out of its place leaves the hole there
  hole_begins : (p f : ℕ → ℕ) (b : ℕ) → b < B.books → Counts B p f → Holed B p f b (node (p b) (B.class b))
  hole_begins p f b l h w c lw lc = rw (covers_book b (p b) w c l) (omega (arith, h w c lw lc))

  -- putting b into the hole fills it
  hole_ends : (p q f : ℕ → ℕ) (b x : ℕ) → b < B.books → Holed B p f b (node x (B.class b)) → q b ≡ x → ButFor B b p q → Counts B q f
  hole_ends p q f b x l h e o w c lw lc =
      let a = h w c lw lc in
      let in_hole : bit (covers B.parent (node x (B.class b)) w c) ≡ bit (eqb (q b) w && member B b c) = ap bit (covers_book b x w c l ∙ ap (λ u. eqb u w && member B b c) (sym e)) in
      omega (arith, count_set p q b w c l o)

  -- another book is moved into the hole, which is then where that book was
  hole_moves : (p q f : ℕ → ℕ) (b j y : ℕ) → b < B.books → j < B.books → (j ≡ b → ⊥) → Holed B p f b (node y (B.class j)) → q j ≡ y → ButFor B j p q →
      Holed B q f b (node (p j) (B.class j))
  hole_moves p q f b j y lb lj d h e o w c lw lc =
      let a = h w c lw lc in
      let in_hole : bit (covers B.parent (node y (B.class j)) w c) ≡ bit (eqb (q j) w && member B j c) = ap bit (covers_book j y w c lj ∙ ap (λ u. eqb u w && member B j c) (sym e)) in
      let t : bit (covers B.parent (node (p j) (B.class j)) w c) ≡ bit (eqb (p j) w && member B j c) = ap bit (covers_book j (p j) w c lj) in
      let u : bit (eqb (q b) w && member B b c) ≡ bit (eqb (p b) w && member B b c) = ap (λ z. bit (eqb z w && member B b c)) (o b lb (λ z. d (sym z))) in
      omega (arith, count_set p q j w c lj o)

  count_has : (p : ℕ → ℕ) (b w c : ℕ) → b < B.books → bit (eqb (p b) w && member B b c) ≤ count B p w c
  unfolding count
  count_has p b w c l = tally_has B.books b (λ i. eqb (p i) w && member B i c) l

  -- the hole at (w₀, c₀) is counted there
  hole_counted : (p f : ℕ → ℕ) (b w₀ c₀ : ℕ) → b < B.books → w₀ < B.weekends → c₀ < B.classes → Holed B p f b (node w₀ c₀) → 1 ≤ f (node w₀ c₀)
  hole_counted p f b w₀ c₀ l lw lc h =
      let a = h w₀ c₀ lw lc in
      let k = count_has p b w₀ c₀ l in
      let e : covers B.parent (node w₀ c₀) w₀ c₀ ≡ true = covers_node B.parent w₀ c₀ w₀ c₀ (omega (arith, s.classes)) ∙ and_from (eqb w₀ w₀) _ (eq-eqb w₀ w₀ refl) (climbs_here B.parent s.root B.classes s.above c₀ c₀ refl ∙ eq-eqb c₀ c₀ refl) in
      omega (arith, ap bit e)

  -- the other books are fewer than all
  rest_lt : (p : ℕ → ℕ) (b w c : ℕ) → b < B.books → count B p w c < B.books + bit (eqb (p b) w && member B b c)
  unfolding count
  rest_lt p b w c lb = ⊎_elim
      (λ (e : (eqb (p b) w && member B b c) ≡ true). omega (arith, ap bit e, tally_le B.books (λ j. eqb (p j) w && member B j c)))
      (λ (e : (eqb (p b) w && member B b c) ≡ false). omega (arith, tally_miss B.books b (λ j. eqb (p j) w && member B j c) lb e))
      (cases_Bool (eqb (p b) w && member B b c))

  -- no count rises above the number of books
  holed_le : (p f : ℕ → ℕ) (b v w c : ℕ) → b < B.books → w < B.weekends → c < B.classes → Holed B p f b v → f (node w c) ≤ 120
  holed_le p f b v w c lb lw lc h = omega (arith, s.books, h w c lw lc, rest_lt p b w c lb, bit_le (covers B.parent v w c))

  -- below a hole one more fits
  holed_room : (p f : ℕ → ℕ) (b w c : ℕ) → b < B.books → w < B.weekends → c < B.classes → Holed B p f b (above B.parent w c) → f (node w c) < 120
  holed_room p f b w c lb lw lc h =
      let k₀ = covers_above B.parent s.root B.classes s.classes s.above w c w c lc (omega (arith, s.weekends)) in
      let o : bit (eqb w w && eqb c c) ≡ 1 = ap bit (and_from (eqb w w) (eqb c c) (eq-eqb w w refl) (eq-eqb c c refl)) in
      omega (arith, s.books, h w c lw lc, rest_lt p b w c lb, bit_le (covers B.parent (node w c) w c))

  at_node : (w₀ c₀ w c : ℕ) → c₀ < B.classes → c < B.classes → ((bit (eqb w₀ w && eqb c₀ c) ≡ 1) × (w₀ ≡ w) × (c₀ ≡ c)) ⊎ ((bit (eqb w₀ w && eqb c₀ c) ≡ 0) × (node w c ≡ node w₀ c₀ → ⊥))
  at_node w₀ c₀ w c l k = go (cases_Bool (eqb w₀ w && eqb c₀ c))
    where
      go : ((eqb w₀ w && eqb c₀ c) ≡ true) ⊎ ((eqb w₀ w && eqb c₀ c) ≡ false) → ((bit (eqb w₀ w && eqb c₀ c) ≡ 1) × (w₀ ≡ w) × (c₀ ≡ c)) ⊎ ((bit (eqb w₀ w && eqb c₀ c) ≡ 0) × (node w c ≡ node w₀ c₀ → ⊥))
      go (inl e) = let h = and_parts (eqb w₀ w) (eqb c₀ c) e in inl (ap bit e, eqb-true w₀ w h.0, eqb-true c₀ c h.1)
      go (inr e) = inr (ap bit e, λ h. let m = s.classes in ⊎_elim (λ a. eqb-false w₀ w a (omega arith)) (λ a. eqb-false c₀ c a (omega arith)) (and_cases (eqb w₀ w) (eqb c₀ c) e))

  -- the arc up from (w₀, c₀) is undone: the hole comes down to (w₀, c₀), which counts one more
  hole_comes_down : (p f g : ℕ → ℕ) (b w₀ c₀ : ℕ) → c₀ < B.classes → Holed B p f b (above B.parent w₀ c₀) → g (node w₀ c₀) ≡ suc (f (node w₀ c₀)) → ButAt (node w₀ c₀) f g →
      Holed B p g b (node w₀ c₀)
  hole_comes_down p f g b w₀ c₀ l h e o w c lw lc =
      let a = h w c lw lc in
      let k₀ = covers_above B.parent s.root B.classes s.classes s.above w₀ c₀ w c l (omega (arith, s.weekends)) in
      ⊎_elim (λ (z : (bit (eqb w₀ w && eqb c₀ c) ≡ 1) × (w₀ ≡ w) × (c₀ ≡ c)). let k : g (node w c) ≡ suc (f (node w c)) = subst (λ u. g u ≡ suc (f u)) (omega arith) e in omega arith)
      (λ (z : (bit (eqb w₀ w && eqb c₀ c) ≡ 0) × (node w c ≡ node w₀ c₀ → ⊥)). let k : g (node w c) ≡ f (node w c) = o (node w c) z.1 in omega arith)
      (at_node w₀ c₀ w c l lc)

  -- the arc down into (w₀, c₀) is undone: the hole goes up from there, and (w₀, c₀) counts one less
  hole_goes_up : (p f g : ℕ → ℕ) (b w₀ c₀ : ℕ) → c₀ < B.classes → Holed B p f b (node w₀ c₀) → f (node w₀ c₀) ≡ suc (g (node w₀ c₀)) → ButAt (node w₀ c₀) f g →
      Holed B p g b (above B.parent w₀ c₀)
  hole_goes_up p f g b w₀ c₀ l h e o w c lw lc =
      let a = h w c lw lc in
      let k₀ = covers_above B.parent s.root B.classes s.classes s.above w₀ c₀ w c l (omega (arith, s.weekends)) in
      ⊎_elim (λ (z : (bit (eqb w₀ w && eqb c₀ c) ≡ 1) × (w₀ ≡ w) × (c₀ ≡ c)). let k : f (node w c) ≡ suc (g (node w c)) = subst (λ u. f u ≡ suc (g u)) (omega arith) e in omega arith)
      (λ (z : (bit (eqb w₀ w && eqb c₀ c) ≡ 0) × (node w c ≡ node w₀ c₀ → ⊥)). let k : g (node w c) ≡ f (node w c) = o (node w c) z.1 in omega arith)
      (at_node w₀ c₀ w c l lc)

pub hole : {V : Type 0} (K : Kind V) → Hole K
hole K B s = record {
  begins = hole_begins B s;
  moves = hole_moves B s;
  comes_down = hole_comes_down B s;
  goes_up = hole_goes_up B s;
  counted = hole_counted B s;
  few = holed_le B s;
  room = holed_room B s;
  ends = hole_ends B s;
}
