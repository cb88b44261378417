use Rattle.std.proofs.Common.{ℕ, ◌<◌, ◌≤◌, IfSome}
use Rattle.board.specs.Boards.{posed}
use Rattle.board.proofs.desk.Board.look_at_quotes.Given as goal

-- every pair of the books before this one
abbrev pub invariant-loop-book : goal.invariant-loop-book
invariant-loop-book g l =
    (b : ℕ) → b < l.book → (w : ℕ) → w < (posed g.S.Source l.fn.self).weekends → IfSome ((posed g.S.Source l.fn.self).quote b w) (λ x. g.S.Quote.Amount.kind.weight x ≤ 1000000000)

-- every pair of this book up to this weekend
abbrev pub invariant-loop-weekend : goal.invariant-loop-weekend
invariant-loop-weekend g l =
    (w : ℕ) → w < l.weekend → IfSome ((posed g.S.Source l.fn.self).quote l.book w) (λ x. g.S.Quote.Amount.kind.weight x ≤ 1000000000)
