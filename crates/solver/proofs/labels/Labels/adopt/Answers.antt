use Rattle.std.proofs.Common.{◌+◌, get_or, ap, ◌∙◌, ap₂, pos, arith}
use Rattle.amounts.specs.Sums.{item}
use Rattle.amounts.specs.Models.{money, ranked}
use Rattle.solver.proofs.Banks.{bank_moved}
use Rattle.solver.proofs.labels.Labels.adopt.Goals as goal

pub returns : goal.returns
returns g c =
    let K = g.X.Amount.kind in
    let l = c.args.self.now in
    bank_moved K 129 _ _ 0 _ _ (λ v h. ap₂ ranked
    (c.copy_within.ensures.by_index.0 (0 + v) (money (pos 0)) (omega arith) (omega arith) ∙ ap (λ i. get_or l.heads i (money (pos 0))) (omega arith))
    (c.copy_within-2.ensures.by_index.0 (0 + v) K.none (omega arith) (omega arith) ∙ ap (item K l.sheet.now) (omega arith)))
