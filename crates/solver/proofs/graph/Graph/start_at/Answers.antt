use Rattle.std.proofs.Common.{◌+◌, sym, ap, ◌∙◌, subst, arith}
use Rattle.solver.specs.Residual.{node}
use Rattle.solver.specs.Held.{posed_by, memory_of}
use Rattle.solver.proofs.Beginning.{Starting, starting_none, starting_skip, starting_more}
use Rattle.solver.proofs.graph.Graph.start_at.Goals as goal
use Rattle.solver.proofs.graph.Graph.start_at.Goals.{then-has_weekend, else-has_weekend}

pub loop-weekend-init : goal.loop-weekend-init
loop-weekend-init g c =
    let K = g.S.Quote.Amount.kind in
    starting_none K (posed_by g.S.Source K c.args.self.now.setting) c.args.book c.args.into _ c.reset.ensures.new c.reset.ensures.marks

pub loop-weekend-preserved : goal.loop-weekend-preserved
loop-weekend-preserved g c =
    let K = g.S.Quote.Amount.kind in
    let B = posed_by g.S.Source K c.args.self.now.setting in
    let b = c.args.book in
    let into = c.args.into in
    let n = c.loop-weekend.weekend in
    let l = c.loop-weekend.labels in
    let i = c.loop-weekend.invariant in
    let m₀ = memory_of c.reset.new.self in
    elim c.if-has_weekend.branch [
      | then-has_weekend y ↦
          let given = y.give.ensures in
          starting_more K B b into m₀ (memory_of l) _ given.0 n y.node.result y.soft_quote.result (omega (arith, y.node.ensures.within)) l.sized.0 l.sized.1 l.sized.2 given.1 given.2 (sym y.if-has_weekend.ensures)
          (y.node.ensures.is ∙ ap (node n) c.class_of-class.ensures.value) y.soft_quote.ensures (ap memory_of y.labels-is ∙ given.3) i
      | else-has_weekend y ↦ subst (λ l. Starting K B b into m₀ (memory_of l) (n + 1)) (sym y.labels-is) (starting_skip K B b into m₀ (memory_of l) n (sym y.if-has_weekend.ensures) i)
    ]
