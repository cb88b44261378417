use Rattle.std.proofs.Common.{◌≡◌, ℕ, ◌^◌, ◌<◌, ◌≤◌, ◌&&◌, ltb, is_some, IfSome}
use Rattle.sources.specs.Tables.{bit_at}
use Rattle.solver.proofs.open_words.open_word.Given as goal

abbrev pub invariant-loop-weekend : goal.invariant-loop-weekend
invariant-loop-weekend g l =
    ((w : ℕ) → bit_at l.word w ≡ (ltb w l.weekend && is_some (g.S.Source.table l.source l.book w)))
    × ((w : ℕ) → w < l.weekend → IfSome (g.S.Source.table l.source l.book w) (λ x. g.S.Quote.Amount.kind.weight x ≤ 10 ^ 9))
