use Rattle.std.proofs.Common.{◌≡◌, drop}
use Rattle.board.specs.Boards.{after_all}
use Rattle.board.specs.Calls.{steps}
use Rattle.board.proofs.desk.Board.play.Given as goal

-- the calls that are left make of the board what all make of the first
abbrev pub invariant-loop-call : goal.invariant-loop-call
invariant-loop-call g l =
    after_all g.S.Source g.S.Quote.Amount.kind l.self (steps (drop l.call-index l.calls)) ≡ after_all g.S.Source g.S.Quote.Amount.kind l.initial.self (steps l.calls)
