use Rattle.std.proofs.Common.{◌≡◌}
use Rattle.board.specs.Boards.{desk, under}
use Rattle.board.specs.Standing.{with_struck, pinned}
use Rattle.board.proofs.desk.Board.pin.Given as goal

abbrev pub invariant-loop-other : goal.invariant-loop-other
invariant-loop-other g l =
    desk l.self-inside.layer l.self-inside.roster l.self-inside.bounds l.self-inside.limit
    ≡ record { below = l.fn.self.below; standing = with_struck l.fn.self.standing (pinned (under g.S.Source l.fn.self) l.fn.self.standing l.book l.weekend l.other) }
