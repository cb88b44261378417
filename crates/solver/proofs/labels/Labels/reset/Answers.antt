use Rattle.std.proofs.Common.{ap₂, ◌+◌, arith}
use Rattle.amounts.specs.Models.{ranked}
use Rattle.solver.proofs.Banks.{bank_blank, bank_moved}
use Rattle.solver.proofs.labels.Labels.reset.Goals as goal

pub returns-clause-new : goal.returns-clause-new
returns-clause-new g c = bank_blank g.X.Amount.kind 129 _ _ (λ v l. ap₂ ranked (c.clear_new.ensures.new (129 + v) (omega arith) (omega arith)) (c.clear_new-2.ensures.new (129 + v) (omega arith) (omega arith)))

pub returns-clause-old : goal.returns-clause-old
returns-clause-old g c = bank_moved g.X.Amount.kind 0 _ _ 0 _ _ (λ v l. ap₂ ranked (c.clear_new.ensures.old (0 + v) (omega arith)) (c.clear_new-2.ensures.old (0 + v) (omega arith)))
