use Rattle.std.proofs.Common.{ap, ◌∙◌, arith, rules, below_more}
use lib.Bits.{bit_or}
use Rattle.std.proofs.lemmas.Nat.{one_shl}
use Rattle.sources.specs.Tables.{bit_at}
use Rattle.solver.proofs.Opening.{word_shut, word_open}
use Rattle.solver.proofs.open_words.open_word.Goals as goal
use Rattle.solver.proofs.open_words.open_word.Goals.{then-is_some, else-is_some}

pub loop-weekend-preserved : goal.loop-weekend-preserved
loop-weekend-preserved g c =
    let s = c.args.source.now in
    let row = g.S.Source.table s c.args.book in
    let n = c.loop-weekend.weekend in
    let word = c.loop-weekend.word in
    let pinned = c.quote.ensures.pinned in (
      elim c.if-is_some.branch [
        | then-is_some y ↦ λ w.
            ap (λ x. bit_at x w) (y.word-is ∙ ap (bit_or word) (one_shl n 16 (omega (arith, c.weekends-weekend-end.ensures, g.met.S.Source.ranges.few_weeks s))))
            ∙ word_open row n word c.loop-weekend.invariant.0 c.quote.result pinned y.if-is_some.ensures w
        | else-is_some y ↦ λ w. ap (λ x. bit_at x w) y.word-is ∙ word_shut row n word c.loop-weekend.invariant.0 c.quote.result pinned y.if-is_some.ensures w
      ],
      below_more _ _ c.loop-weekend.invariant.1 (search rules),
    )
