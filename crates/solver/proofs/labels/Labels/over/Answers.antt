use Rattle.std.proofs.Common.{ap₂, pos, ◌+◌, arith}
use Rattle.std.proofs.lemmas.List.{get_or-replicate}
use Rattle.amounts.specs.Models.{money, ranked}
use Rattle.solver.proofs.Banks.{bank_blank}
use Rattle.solver.proofs.labels.Labels.over.Goals as goal

pub returns : goal.returns
returns g c = bank_blank g.X.Amount.kind 0 _ _ (λ v l. ap₂ ranked (get_or-replicate 258 (0 + v) (money (pos 0)) (money (pos 0)) (omega arith)) (c.clear_all.ensures (0 + v)))
