use Rattle.std.proofs.Common.{◌+◌, sym, ◌∙◌, subst, arith}
use Rattle.solver.specs.Residual.{node}
use Rattle.solver.specs.Held.{posed_by, memory_of, Relaxes}
use Rattle.solver.proofs.Sweeping.{falls_begin, falls_skip, falls_take, falls_end}
use Rattle.solver.proofs.graph.Residual.take_falls.Goals as goal
use Rattle.solver.proofs.graph.Residual.take_falls.Goals.{then-parent-spot, else-parent-spot}

pub loop-class-init : goal.loop-class-init
loop-class-init g c =
    let B = posed_by g.S.Source g.S.Quote.Amount.kind c.args.self.now.setting in
    falls_begin g.met.S.Quote.Amount.lawful B c.args.self.now.state.now c.args.spot.weekend c.args.spot.class c.requires.0 c.requires.1 _

pub loop-class-preserved : goal.loop-class-preserved
loop-class-preserved g c =
    let L = g.met.S.Quote.Amount.lawful in
    let K = g.S.Quote.Amount.kind in
    let B = posed_by g.S.Source K c.args.self.now.setting in
    let state = c.args.self.now.state.now in
    let w = c.args.spot.weekend in
    let k = c.args.spot.class in
    let d = c.loop-class.class in
    let m = memory_of c.args.labels.now in
    let m₁ = memory_of c.loop-class.labels in
    let i = c.loop-class.invariant in
    elim c.if-parent-spot.branch [
      | then-parent-spot x ↦ subst (λ l. Relaxes K B state m (memory_of l) (node w k) 1 (1 + node w (d + 1))) (sym x.labels-is)
          (falls_take L B state w k c.requires.0 c.requires.1 m m₁ (memory_of x.take_fall.new.labels) d i c.loop-class.auto.class (sym c.parent.ensures ∙ x.if-parent-spot.true) x.take_fall.ensures)
      | else-parent-spot x ↦ subst (λ l. Relaxes K B state m (memory_of l) (node w k) 1 (1 + node w (d + 1))) (sym x.labels-is)
          (falls_skip L B state w k c.requires.0 c.requires.1 m m₁ d i (omega (arith, c.classes-class-end.ensures)) (λ e. x.if-parent-spot.false (c.parent.ensures ∙ e)))
    ]

pub returns : goal.returns
returns g c =
    let B = posed_by g.S.Source g.S.Quote.Amount.kind c.args.self.now.setting in
    falls_end g.met.S.Quote.Amount.lawful B c.args.self.now.state.now c.args.spot.weekend c.args.spot.class c.requires.0 c.requires.1 _ _ c.loop-class.class c.loop-class.invariant (omega (arith, c.classes-class-end.ensures, c.loop-class-test.false))
