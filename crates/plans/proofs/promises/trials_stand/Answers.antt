use Rattle.plans.proofs.Keeping.{plan_is, within_is, kept_is}
use Rattle.plans.proofs.Bests.{best_is, one_of_three}
use Rattle.plans.proofs.promises.trials_stand.Goals as goal

pub returns : goal.returns
returns g c = record {
  plans = plan_is g.X.Amount.kind;
  within = within_is g.met.X.Amount.lawful;
  sieved = kept_is g.met.X.Amount.lawful;
  best = best_is g.met.X.Amount.lawful;
  three = one_of_three g.met.X.Amount.lawful;
}
