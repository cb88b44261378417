use Rattle.std.proofs.Common.{refl}
use Rattle.solver.proofs.Stated.{sent_kept, words_set}
use Rattle.solver.proofs.state.State.widen.Goals as goal

pub returns-clause-sent : goal.returns-clause-sent
returns-clause-sent c = sent_kept c.args.self.now _ c.args.book _ _ refl refl

pub returns-clause-words : goal.returns-clause-words
returns-clause-words c = words_set c.args.self.now _ c.args.book c.args.word _ refl refl
