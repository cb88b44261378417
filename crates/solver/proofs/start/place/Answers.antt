use Rattle.std.proofs.Common.{◌^◌, set, refl, ap, ◌∙◌}
use Rattle.std.proofs.lemmas.Nat.{one_shl}
use Rattle.solver.specs.States.{words_of}
use Rattle.solver.proofs.Stated.{sent_same, words_same}
use Rattle.solver.proofs.start.place.Goals as goal

pub returns-clause-sent : goal.returns-clause-sent
returns-clause-sent c = sent_same c.widen.new.self _ refl ∙ c.widen.ensures.sent ∙ c.send.ensures.sent

pub returns-clause-words : goal.returns-clause-words
returns-clause-words c = words_same c.widen.new.self _ refl ∙ c.widen.ensures.words ∙ ap (set (words_of c.send.new.self) c.args.book) (one_shl c.args.weekend 16 c.requires.near) ∙ ap (λ l. set l c.args.book (2 ^ c.args.weekend)) c.send.ensures.words
