use Rattle.std.proofs.Common.{sym, ap, ◌∙◌, arith}
use Rattle.sources.specs.Tables.{bit_at}
use Rattle.solver.specs.Held.{memory_of, old_of, posed_by}
use Rattle.solver.specs.Reassigning.{stays_by}
use Rattle.solver.proofs.Beginning.{tried_skip, tried_more, tried_all}
use Rattle.solver.proofs.graph.Residual.stays.Goals as goal
use Rattle.solver.proofs.graph.Residual.stays.Goals.{else-has_weekend-via-then-has_weekend+else-not-stays_by, else-has_weekend-via-else-has_weekend}

pub loop-weekend-preserved : goal.loop-weekend-preserved
loop-weekend-preserved g c =
    let K = g.S.Quote.Amount.kind in
    let B = posed_by g.S.Source K c.args.self.now.setting in
    let state = c.args.self.now.state.now in
    let old = old_of K (memory_of c.args.labels.now) in
    let b = c.args.book in
    let n = c.loop-weekend.weekend in
    let i = c.loop-weekend.invariant in
    elim c.else-has_weekend.branch [
      | else-has_weekend-via-then-has_weekend+else-not-stays_by w ↦ (
        tried_more K B state old b c.args.into n (ap (λ m. stays_by K B state (old_of K m) b n) (sym i.1) ∙ sym w.if-not-stays_by.ensures.value) i.0,
        ap memory_of w.labels-is ∙ w.stays_by.ensures.same ∙ i.1,
      )
      | else-has_weekend-via-else-has_weekend w ↦ (tried_skip K B state old b c.args.into n (sym w.if-has_weekend.ensures) i.0, ap memory_of w.labels-is ∙ i.1)
    ]

pub returns-clause-stays : goal.returns-clause-stays
returns-clause-stays g c _ =
    let B = posed_by g.S.Source g.S.Quote.Amount.kind c.args.self.now.setting in
    let own = ap (bit_at c.args.into) (sym c.weekend_of-from.ensures) ∙ sym c.if-not-has_weekend.ensures in
    tried_all g.met.S.Quote.Amount.lawful B c.args.self.now.state.now _ c.args.book c.args.into c.loop-weekend.weekend (omega (arith, c.weekends-weekend-end.ensures, c.loop-weekend-test.false)) c.requires (c.args.self.now.sent c.args.book c.requires) own c.loop-weekend.invariant.0
