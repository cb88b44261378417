use Rattle.plans.proofs.Climbing.{member_is, toll_by_members}
use Rattle.plans.proofs.Counting.{double_counting}
use Rattle.plans.proofs.promises.counts_stand.Goals as goal

pub returns : goal.returns
returns g c = record {
  members = member_is g.X.Amount.kind;
  tolls = toll_by_members g.met.X.Amount.lawful;
  counted = double_counting g.met.X.Amount.lawful;
}
