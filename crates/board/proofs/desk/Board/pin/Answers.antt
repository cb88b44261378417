use Rattle.std.proofs.Common.{refl, arith}
use Rattle.std.proofs.lemmas.Bool.Decides.{nat_tests}
use Rattle.board.proofs.Pins.{pin_turn}
use Rattle.board.proofs.desk.Board.pin.Goals as goal
use Rattle.board.proofs.desk.Board.pin.Goals.{then-other-weekend+then-is_some, else-other-weekend, else-other-weekend-via-then-other-weekend+else-is_some, else-other-weekend-via-else-other-weekend}

pub loop-other-preserved : goal.loop-other-preserved
loop-other-preserved g c =
    let p = c.loop-other.self-inside in
    let turn = pin_turn g.S.Source c.args.self.now p.layer p.roster p.bounds p.limit c.args.book c.args.weekend c.loop-other.other c.loop-other.invariant in
    elim c.if-other-weekend.branch [
      | then-other-weekend+then-is_some w ↦ rw w.self-inside-is (turn w.strike.new.self w.strike.ensures.same (grind (arith, nat_tests)))
      | else-other-weekend w ↦ rw w.self-inside-is (turn p.layer refl (grind (arith, nat_tests)))
    ]
