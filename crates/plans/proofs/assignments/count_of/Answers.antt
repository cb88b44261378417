use Rattle.std.proofs.Common.{◌==◌, ◌&&◌, rules}
use Rattle.plans.specs.Places.{at}
use Rattle.plans.specs.Posed.{is_member}
use Rattle.amounts.proofs.Chains.{tally_of_filter}
use Rattle.plans.proofs.assignments.count_of.Goals as goal

pub returns : goal.returns
returns c = tally_of_filter _ _ (λ b. (at c.args.assignment.now b == c.args.weekend) && is_member c.args.roster.now b c.args.class) c.count.ensures.ran c.filter.ensures.source c.filter.ensures.closure (λ x b q k. search rules)
