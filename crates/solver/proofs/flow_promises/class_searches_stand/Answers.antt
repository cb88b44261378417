use Rattle.solver.proofs.OneClass.{cold_by_rises, class_search, class_search_ends, class_reassigns}
use Rattle.solver.proofs.flow_promises.class_searches_stand.Goals as goal

pub returns-clause-cold : goal.returns-clause-cold
returns-clause-cold g c = cold_by_rises g.met.X.Amount.lawful

pub returns-clause-kept : goal.returns-clause-kept
returns-clause-kept g c = class_search g.met.X.Amount.lawful

pub returns-clause-ended : goal.returns-clause-ended
returns-clause-ended g c = class_search_ends g.met.X.Amount.lawful

pub returns-clause-reassigned : goal.returns-clause-reassigned
returns-clause-reassigned g c = class_reassigns g.met.X.Amount.lawful
