use Rattle.std.proofs.Common.{not, rules}
use Rattle.plans.specs.Sheets.{goes, stranded}
use Rattle.plans.proofs.Below.{some_of_any}
use Rattle.plans.proofs.checks.stranded.Goals as goal

pub returns : goal.returns
unfolding stranded
returns g c =
    let s = c.args.source.now in
    some_of_any _ _ (λ b. not (goes (g.S.Source.weeks s) (g.S.Source.table s b))) c.any.ensures.ran c.books.ensures (λ x b q k. search rules)
