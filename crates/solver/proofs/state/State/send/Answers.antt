use Rattle.std.proofs.Common.{refl}
use Rattle.solver.proofs.Stated.{sent_set, words_kept}
use Rattle.solver.proofs.state.State.send.Goals as goal

pub returns-clause-sent : goal.returns-clause-sent
returns-clause-sent c = sent_set c.args.self.now _ c.args.book c.args.weekend _ refl refl

pub returns-clause-words : goal.returns-clause-words
returns-clause-words c = words_kept c.args.self.now _ c.args.book _ _ refl refl
