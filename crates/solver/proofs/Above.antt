-- The node above: the sink over class 0, and else the parent's. Assumes nothing.
use Rattle.std.proofs.Common.{◌≡◌, ℕ, zero, suc, ◌<◌, refl, arith}
use Rattle.solver.specs.Residual.{node, sink, above}

pub above_root : (parent : ℕ → ℕ) (w : ℕ) → above parent w 0 ≡ sink
unfolding above
above_root parent w = refl

pub above_other : (parent : ℕ → ℕ) (w c : ℕ) → 0 < c → above parent w c ≡ node w (parent c)
unfolding above
above_other parent w zero h = absurd (omega arith)
above_other parent w (suc c) h = refl
