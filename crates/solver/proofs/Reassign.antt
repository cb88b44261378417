-- The search, the walk and what valid labels say, put together. Assumes nothing.
use Rattle.std.proofs.Common.{◌≡◌, ℕ, ◌^◌, ◌<◌, ◌≤◌, Bool, true, Option, sym, refl, ◌∙◌, subst, arith}
use Rattle.amounts.specs.Kind.{Kind, Lawful}
use Rattle.solver.specs.declared.arcs.Arc.{Arc}
use Rattle.plans.specs.Problem.{Problem}
use Rattle.solver.specs.Residual.{node, quoted, Charges, Counts, Inside, whole}
use Rattle.solver.specs.Search.{nodes, FromOrigins, FromClass, Searchable, Seeks}
use Rattle.solver.specs.Flows.{StartsAt, SearchEnded, Reassigned, SearchEnds, WalkBegins, Reassigns}
use Rattle.solver.proofs.Optimal.{least_by_labels}
use Rattle.solver.proofs.Ends.{found_light, found_valid, found_starts, walk_starts}
use Rattle.solver.proofs.Landing.{moved}

-- the starts are the nodes of the class k at the weekends of `into`, at x with the first label `first x`
pub record OfClass {V : Type 0} (B : Problem V) (Start : ℕ → V → Type 0) (k : ℕ) (into : ℕ → Bool) (first : ℕ → V) : Type 0 where
  pub only : (v : ℕ) (s : V) → Start v s → FromClass B k into first v s
  pub each : (x : ℕ) → x < B.weekends → into x ≡ true → Start (node x k) (first x)

module _ {V : Type 0} {K : Kind V} (L : Lawful K) where
  pub search_ends : SearchEnds K
  search_ends B X word origin begin p f pot g w₀ c₀ lw lc o t d seen rank via i ended =
      let start : FromOrigins origin begin (node w₀ c₀) (begin (node w₀ c₀)) = (omega (arith, g.fits.sound.weekends, g.fits.sound.classes), o, refl) in
      record {
        light = found_light L B X word (FromOrigins origin begin) p f pot g t d seen rank via i ended w₀ c₀ _ lw lc start;
        valid = found_valid L B X word (FromOrigins origin begin) p f pot g t d seen rank via i ended w₀ c₀ _ lw lc start;
        starts = λ v lv ov. found_starts L B X word (FromOrigins origin begin) p f pot g t d seen rank via i ended w₀ c₀ _ lw lc start v (begin v) (lv, ov, refl);
      }

  -- a search from the class of b has ended, however its starts are given
  module _ (B : Problem V) (X : Charges V) (word : ℕ → ℕ → Bool) (b : ℕ) (Start : ℕ → V → Type 0) (into : ℕ → Bool) (first : ℕ → V) (p f : ℕ → ℕ) (pot : ℕ → V) (lb : b < B.books) (inside : Inside B word p) (counts : Counts B p f)
      (g : Searchable K B X word Start p f pot) (at : OfClass B Start (B.class b) into first) (x₀ : ℕ) (lx : x₀ < B.weekends) (ix : into x₀ ≡ true)
      (t : ℕ) (d : ℕ → V) (seen : ℕ → Bool) (rank : ℕ → ℕ) (via : ℕ → Option Arc) (i : Seeks K B X word Start p f pot t d seen rank via) (ended : (v : ℕ) → seen v ≡ true → rank v < nodes) where
    pub walk_from : SearchEnded K B X word into first d rank via p f b
    walk_from =
        let k = B.class b in
        let lk = g.fits.sound.classed b lb in
        let start = at.each x₀ lx ix in
        record {
          light = found_light L B X word Start p f pot g t d seen rank via i ended x₀ k _ lx lk start;
          valid = found_valid L B X word Start p f pot g t d seen rank via i ended x₀ k _ lx lk start;
          starts = λ x hx hi. found_starts L B X word Start p f pot g t d seen rank via i ended x₀ k _ lx lk start (node x k) (first x) (at.each x hx hi);
          underway = walk_starts L B X word Start p f pot g t d seen rank via i ended x₀ k _ lx lk start k into first at.only b lb counts inside.meets;
        }

    pub reassigned_from : ((x y : ℕ) → x < B.weekends → y < B.weekends → into x ≡ true → into y ≡ true → K.plus (first x) (quoted K B b y) ≡ K.plus (first y) (quoted K B b x)) →
        (word' : ℕ → ℕ → Bool) → ((x : ℕ) → word' b x ≡ into x) → ((j x : ℕ) → (j ≡ b → ⊥) → word' j x ≡ word j x) → Reassigned K B X word' first d p b
    reassigned_from even word' mine theirs =
        let fits = g.fits in
        let found = walk_from in
        let light = found.light in
        let begins : (x : ℕ) → x < B.weekends → into x ≡ true → K.weight (first x) ≤ 10 ^ 9 = λ x hx hi. g.begins (node x (B.class b)) (first x) (at.each x hx hi) in
        let m = moved L B X fits word (B.class b) into first b lb d light rank via p f word' refl counts found.underway found.starts even begins mine theirs in
        record {
          assignment = m.plan;
          counts = m.counts;
          counted = m.counted;
          inside = m.within;
          light = light;
          valid = m.valid;
          least = λ q h. least_by_labels L B X fits.sound fits.convex word' d m.plan m.counts q light m.within m.counted m.valid h;
          costs = subst (λ x. K.plus (K.plus (whole K B X m.plan) (first x)) (quoted K B b (p b)) ≡ K.plus (K.plus (whole K B X p) (d (node (p b) (B.class b)))) (quoted K B b x)) (sym m.within_into.2) m.costs;
        }

  -- the starts are given by origins
  of_origins : (B : Problem V) (origin : ℕ → Bool) (begin : ℕ → V) (k : ℕ) (into : ℕ → Bool) (first : ℕ → V) → B.weekends ≤ 16 → k < 8 → StartsAt K B origin begin k into first → OfClass B (FromOrigins origin begin) k into first
  of_origins B origin begin k into first lw lk at = record {
    only = λ v s h. let o = at.only v h.1 in (o.0, o.1, o.2, o.3, h.2 ∙ o.4);
    each = λ x lx ix. let e = at.each x lx ix in (omega arith, e.0, sym e.1);
  }

  pub walk_begins : WalkBegins K
  walk_begins B X word b origin into begin first p f pot lb inside counts g at x₀ lx ix t d seen rank via i ended =
      let s = g.fits.sound in
      walk_from B X word b (FromOrigins origin begin) into first p f pot lb inside counts g (of_origins B origin begin (B.class b) into first s.weekends (omega (arith, s.classed b lb, s.classes)) at) x₀ lx ix t d seen rank via i ended

  pub reassigns : Reassigns K
  reassigns B X word b origin into begin first p f pot lb inside counts g at even x₀ lx ix t d seen rank via i ended word' mine theirs =
      let s = g.fits.sound in
      reassigned_from B X word b (FromOrigins origin begin) into first p f pot lb inside counts g (of_origins B origin begin (B.class b) into first s.weekends (omega (arith, s.classed b lb, s.classes)) at) x₀ lx ix t d seen rank via i ended
      even word' mine theirs
