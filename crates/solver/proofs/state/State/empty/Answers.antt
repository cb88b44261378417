use Rattle.std.proofs.Common.{refl}
use Rattle.solver.specs.States.{sent_of, words_of}
use Rattle.solver.proofs.state.State.empty.Goals as goal

pub returns-clause-sent : goal.returns-clause-sent
unfolding sent_of
returns-clause-sent c = refl

pub returns-clause-words : goal.returns-clause-words
unfolding words_of
returns-clause-words c = refl
