use Rattle.std.proofs.Common.{rules, ℕ}
use Rattle.amounts.specs.Least.{or_none}
use Rattle.plans.specs.Places.{at}
use Rattle.amounts.proofs.Chains.{sum_of_map}
use Rattle.plans.proofs.assignments.total_of.Goals as goal

pub returns : goal.returns
returns g c =
    let k = g.S.Quote.Amount.kind in
    let quotes : ℕ → g.row.S-Quote.Denot = λ b. or_none k (g.S.Source.table c.args.source.now b (at c.args.assignment.now b)) in
    sum_of_map k _ _ _ quotes c.fold.ensures.ran c.map.ensures.source c.map.ensures.closure c.books.ensures c.zero.ensures (λ x y q k. search rules) (λ a x b q k. search rules)
