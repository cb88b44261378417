use Rattle.std.proofs.Common.{◌+◌, ◌*◌, sym, ap, ◌∙◌, subst, arith}
use Rattle.plans.specs.Places.{at}
use Rattle.sources.specs.Tables.{bit_at}
use Rattle.solver.specs.Residual.{node}
use Rattle.solver.specs.Held.{posed_by, memory_of, Relaxes}
use Rattle.solver.proofs.Sweeping.{of_skip, of_take, of_end}
use Rattle.solver.proofs.graph.Residual.take_moves_of.Goals as goal
use Rattle.solver.proofs.graph.Residual.take_moves_of.Goals.{then-has_weekend, else-has_weekend}
use Rattle.solver.specs.States.{sent_of}

pub loop-weekend-preserved : goal.loop-weekend-preserved
loop-weekend-preserved g c =
    let L = g.met.S.Quote.Amount.lawful in
    let K = g.S.Quote.Amount.kind in
    let B = posed_by g.S.Source K c.args.self.now.setting in
    let state = c.args.self.now.state.now in
    let b = c.args.book in
    let x = c.loop-weekend.weekend in
    let m = memory_of c.args.labels.now in
    let m₁ = memory_of c.loop-weekend.labels in
    let i = c.loop-weekend.invariant in
    elim c.if-has_weekend.branch [
      | then-has_weekend y ↦ subst (λ l. Relaxes K B state m (memory_of l) (node (at (sent_of state) b) (B.class b)) (129 + b * 16) (129 + (b * 16 + (x + 1)))) (sym y.labels-is)
          (of_take L B state b c.requires (c.args.self.now.sent c.args.book c.requires) m m₁ (memory_of y.take_move.new.labels) x i y.take_move.ensures)
      | else-has_weekend y ↦ subst (λ l. Relaxes K B state m (memory_of l) (node (at (sent_of state) b) (B.class b)) (129 + b * 16) (129 + (b * 16 + (x + 1)))) (sym y.labels-is)
          (of_skip L B state b c.requires (c.args.self.now.sent c.args.book c.requires) m m₁ x i (omega (arith, c.weekends-weekend-end.ensures)) (ap (λ word. bit_at word x) (sym c.word_of-word.ensures) ∙ sym y.if-has_weekend.ensures))
    ]

pub returns : goal.returns
returns g c =
    let B = posed_by g.S.Source g.S.Quote.Amount.kind c.args.self.now.setting in
    of_end g.met.S.Quote.Amount.lawful B c.args.self.now.state.now c.args.book c.requires (c.args.self.now.sent c.args.book c.requires) _ _ c.loop-weekend.weekend c.loop-weekend.invariant (omega (arith, c.weekends-weekend-end.ensures, c.loop-weekend-test.false))
