use Rattle.solver.proofs.Begin.{soft_fits, cold_valid, search_steps}
use Rattle.solver.proofs.Undoing.{walk}
use Rattle.solver.proofs.Reassign.{search_ends, walk_begins, reassigns}
use Rattle.solver.proofs.flow_promises.searches_stand.Goals as goal

pub returns : goal.returns
returns g c = record {
  soft = soft_fits g.met.X.Amount.lawful;
  cold = cold_valid g.met.X.Amount.lawful;
  kept = search_steps g.met.X.Amount.lawful;
  ended = search_ends g.met.X.Amount.lawful;
  begun = walk_begins g.met.X.Amount.lawful;
  walked = walk g.met.X.Amount.lawful;
  reassigned = reassigns g.met.X.Amount.lawful;
}
