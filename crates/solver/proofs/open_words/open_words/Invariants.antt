use Rattle.std.proofs.Common.{ℕ, ◌<◌, get_or}
use Rattle.solver.specs.Held.{WordOf}
use Rattle.solver.proofs.open_words.open_words.Given as goal

abbrev pub invariant-loop-book : goal.invariant-loop-book
invariant-loop-book g l = (b : ℕ) → b < l.book → WordOf g.S.Quote.Amount.kind (g.S.Source.table l.source b) (g.S.Source.weeks l.source) (get_or l.word-items b 0)
