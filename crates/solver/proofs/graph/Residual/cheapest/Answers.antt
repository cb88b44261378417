use Rattle.std.proofs.Common.{sym, refl, subst}
use Rattle.plans.specs.Sheets.{some_below}
use Rattle.solver.specs.Soft.{soft_kind}
use Rattle.solver.specs.Starting.{Found}
use Rattle.solver.proofs.Placing.{found_shut, found_open}
use Rattle.solver.proofs.graph.Residual.cheapest.Goals as goal
use Rattle.solver.proofs.graph.Residual.cheapest.Goals.{then-has_weekend, else-has_weekend}

pub loop-weekend-init : goal.loop-weekend-init
unfolding some_below
loop-weekend-init g c = refl

pub loop-weekend-preserved : goal.loop-weekend-preserved
loop-weekend-preserved g c =
    let quotes = g.S.Source.table c.args.self.now.setting.source.now c.args.book in
    let n = c.loop-weekend.weekend in
    let found = c.loop-weekend.found in
    elim c.if-has_weekend.branch [
      | then-has_weekend w ↦ subst (Found quotes _) (sym w.found-is)
          (found_open (soft_kind g.S.Quote.Amount.kind) quotes c.args.word c.requires n found c.loop-weekend.invariant w.if-has_weekend.ensures w.price_weekend.result w.cheaper.result w.price_weekend.ensures w.cheaper.ensures)
      | else-has_weekend w ↦ subst (Found quotes _) (sym w.found-is) (found_shut quotes c.args.word c.requires n found c.loop-weekend.invariant w.if-has_weekend.ensures)
    ]
