use Rattle.std.proofs.Common.{◌≡◌, ℕ, ◌<◌, subst, arith}
use Rattle.solver.specs.Residual.{node}
use Rattle.solver.specs.Search.{stages}
use Rattle.solver.specs.Held.{posed_by, memory_of, Relaxes}
use Rattle.solver.proofs.Sweeping.{relaxes_all, none_there}
use Rattle.solver.proofs.graph.Residual.relax.Goals as goal
use Rattle.solver.proofs.graph.Residual.relax.Goals.{else-spot-weekends-via-then-spot-weekends+else-spot-classes, else-spot-weekends-via-else-spot-weekends}

pub returns-then-spot-classes : goal.returns-then-spot-classes
returns-then-spot-classes g c =
    let K = g.S.Quote.Amount.kind in
    let B = posed_by g.S.Source K c.args.self.now.setting in
    let state = c.args.self.now.state.now in
    let v = c.args.node in
    let w = c.of-spot.result.weekend in
    let k = c.of-spot.result.class in
    let whole : node w k ≡ v = omega (arith, c.of-spot.ensures.weekend, c.of-spot.ensures.class) in
    subst (λ u. Relaxes K B state (memory_of c.args.labels.now) (memory_of c.take_moves.new.labels) u 0 stages) whole
    (relaxes_all g.met.S.Quote.Amount.lawful B state w k (omega (arith, c.weekends.ensures)) (omega (arith, c.classes.ensures)) _ (memory_of c.take_rise.new.labels) (memory_of c.take_falls.new.labels) _
    c.take_rise.ensures c.take_falls.ensures c.take_moves.ensures)

pub returns-else-spot-weekends : goal.returns-else-spot-weekends
returns-else-spot-weekends g c =
    let B = posed_by g.S.Source g.S.Quote.Amount.kind c.args.self.now.setting in
    let v = c.args.node in
    let few = c.args.self.now.setting.roster.now.sound.1 in
    let s = c.of-spot.ensures in
    let apart : (w k : ℕ) → w < B.weekends → k < B.classes → v ≡ node w k → ⊥ = λ w k lw lk e.
    elim c.else-spot-weekends.branch [
      | else-spot-weekends-via-then-spot-weekends+else-spot-classes x ↦ omega (arith, x.if-spot-classes.false, x.classes.ensures, few, s.class)
      | else-spot-weekends-via-else-spot-weekends x ↦ omega (arith, x.if-spot-weekends.false, c.weekends.ensures, few, s.weekend)
    ] in
    none_there g.met.S.Quote.Amount.lawful B c.args.self.now.state.now _ v (omega (arith, c.if-node-eq-SINK.false)) apart
