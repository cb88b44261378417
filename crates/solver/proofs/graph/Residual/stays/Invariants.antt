use Rattle.std.proofs.Common.{◌≡◌}
use Rattle.solver.specs.Held.{memory_of, old_of, posed_by}
use Rattle.solver.proofs.Beginning.{Tried}
use Rattle.solver.proofs.graph.Residual.stays.Given as goal

abbrev pub invariant-loop-weekend : goal.invariant-loop-weekend
invariant-loop-weekend g l =
    let K = g.S.Quote.Amount.kind in
    Tried K (posed_by g.S.Source K l.fn.self.setting) l.fn.self.state.now (old_of K (memory_of l.initial.labels)) l.book l.into l.weekend × (memory_of l.labels ≡ memory_of l.initial.labels)
