-- Which arcs lead out of a node, by their stages. Assumes nothing.
use Rattle.std.proofs.Common.{◌≡◌, ℕ, zero, suc, ◌+◌, ◌*◌, ◌<◌, ◌≤◌, Bool, true, sym, refl, ◌∙◌, arith}
use Rattle.amounts.specs.Kind.{Kind}
use Rattle.plans.specs.Problem.{Problem}
use Rattle.plans.specs.Theorems.{Sound}
use Rattle.solver.specs.declared.arcs.Arc.{Arc}
use Rattle.solver.specs.declared.arcs.Arc.TheVariants.{Rise, Fall, Move}
use Rattle.solver.specs.Residual.{node, sink, Live, tail}
use Rattle.solver.specs.Search.{stage}
use Rattle.solver.proofs.Above.{above_root, above_other}

-- the arc leads down from the node of w and c, to that of w and a class below c
pub record FallsFrom {V : Type 0} (B : Problem V) (w c : ℕ) (a : Arc) : Type 0 where
  pub below : ℕ
  pub staged : stage a ≡ 1 + node w below
  pub some : 0 < below
  pub known : below < B.classes
  pub parent : B.parent below ≡ c

-- the arc leads down from the sink, to class 0 at w
pub record FallsFromSink {V : Type 0} (B : Problem V) (a : Arc) : Type 0 where
  pub weekend : ℕ
  pub staged : stage a ≡ 1 + node weekend 0
  pub known : weekend < B.weekends

-- the arc is the move of a book that stands at w and is of class c
pub record MovesFrom {V : Type 0} (B : Problem V) (word : ℕ → ℕ → Bool) (p : ℕ → ℕ) (w c : ℕ) (a : Arc) : Type 0 where
  pub book : ℕ
  pub to : ℕ
  pub staged : stage a ≡ 129 + (book * 16 + to)
  pub books : book < B.books
  pub within : to < B.weekends
  pub allowed : word book to ≡ true
  pub stands : p book ≡ w
  pub classed : B.class book ≡ c

module _ {V : Type 0} {K : Kind V} (B : Problem V) (s : Sound K B) (word : ℕ → ℕ → Bool) (p : ℕ → ℕ) (sent : (j : ℕ) → j < B.books → p j < B.weekends) where
  parent_small : (c : ℕ) → 0 < c → c < B.classes → B.parent c < 8
  parent_small c h l = omega (arith, s.above c h l, s.classes)

  pub falls_from : (w c : ℕ) → w < 16 → c < 8 → (a : Arc) → Live B word a → tail B p a ≡ node w c → 1 ≤ stage a → stage a < 129 → FallsFrom B w c a
  falls_from w c lw lc (Rise v d) live from h l = absurd (omega arith)
  falls_from w c lw lc (Fall v zero) live from h l = absurd (omega (arith, from, above_root B.parent v))
  falls_from w c lw lc (Fall v (suc d)) live from h l =
      let e = above_other B.parent v (suc d) (omega arith) in
      let q = parent_small (suc d) (omega arith) live.1 in
      let same : v ≡ w = omega (arith, from, e, q) in
      record { below = suc d; staged = omega arith; some = omega arith; known = live.1; parent = omega (arith, from, e, q) }
  falls_from w c lw lc (Move j x) live from h l = absurd (omega arith)

  pub falls_from_sink : (a : Arc) → Live B word a → tail B p a ≡ sink → FallsFromSink B a
  falls_from_sink (Rise v d) live from = absurd (omega (arith, live.0, live.1, s.weekends, s.classes))
  falls_from_sink (Fall v zero) live from = record { weekend = v; staged = refl; known = live.0 }
  falls_from_sink (Fall v (suc d)) live from = absurd (omega (arith, from, above_other B.parent v (suc d) (omega arith), parent_small (suc d) (omega arith) live.1, live.0, s.weekends))
  falls_from_sink (Move j x) live from = absurd (omega (arith, from, sent j live.0, s.classed j live.0, s.weekends, s.classes))

  pub moves_from : (w c : ℕ) → w < 16 → c < 8 → (a : Arc) → Live B word a → tail B p a ≡ node w c → 129 ≤ stage a → MovesFrom B word p w c a
  moves_from w c lw lc (Rise v d) live from h = absurd (omega arith)
  moves_from w c lw lc (Fall v d) live from h = absurd (omega (arith, live.0, live.1, s.weekends, s.classes))
  moves_from w c lw lc (Move j x) live from h =
      let q = s.classed j live.0 in
      record { book = j; to = x; staged = refl; books = live.0; within = live.1; allowed = live.2; stands = omega (arith, from, q, s.classes); classed = omega (arith, from, q, s.classes) }

  -- a number that is no class's node has no arc
  pub none_from : (v : ℕ) → v < 128 → ((w c : ℕ) → w < B.weekends → c < B.classes → v ≡ node w c → ⊥) → (a : Arc) → Live B word a → tail B p a ≡ v → ⊥
  none_from v l apart (Rise w c) live from = apart w c live.0 live.1 (sym from)
  none_from v l apart (Fall w zero) live from = omega (arith, from, above_root B.parent w)
  none_from v l apart (Fall w (suc c)) live from = apart w (B.parent (suc c)) live.0 (omega (arith, s.above (suc c) (omega arith) live.1, live.1)) (sym from ∙ above_other B.parent w (suc c) (omega arith))
  none_from v l apart (Move j x) live from = apart (p j) (B.class j) (sent j live.0) (s.classed j live.0) (sym from)
