use Rattle.std.proofs.Common.{is_some, rules}
use Rattle.plans.proofs.Below.{some_of_any}
use Rattle.plans.proofs.checks.has_open.Goals as goal

pub returns : goal.returns
returns g c = some_of_any _ _ (λ w. is_some (g.S.Source.table c.args.source.now c.args.book w)) c.any.ensures.ran c.weekends.ensures (λ x b q k. search rules)
