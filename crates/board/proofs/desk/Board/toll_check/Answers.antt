use Rattle.std.proofs.Common.{sym, ◌∙◌, arith}
use Rattle.std.proofs.lemmas.Bool.Decides.{nat_tests}
use Rattle.board.specs.Boards.{posed}
use Rattle.board.specs.Questions.{toll_check}
use Rattle.board.proofs.Checks.{all_light, never_wrong}
use Rattle.board.proofs.desk.Board.toll_check.Goals as goal

pub returns-clause-answer : goal.returns-clause-answer
unfolding toll_check
returns-clause-answer g c =
    grind (arith, nat_tests, all_light)

pub returns-clause-sound : goal.returns-clause-sound
returns-clause-sound g c =
    λ e possible. (never_wrong g.met.S.Quote.Amount.lawful (posed g.S.Source c.args.self.now) c.look_at_quotes.ensures).toll possible c.args.sheet.now (sym (returns-clause-answer g c) ∙ e)
