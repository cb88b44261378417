use Rattle.std.proofs.Common.{◌≡◌, length, is_some, ap, inl, arith, rules}
use Rattle.solver.proofs.Opening.{words_on}
use Rattle.solver.proofs.open_words.open_words.Goals as goal

pub returns-clause-bits : goal.returns-clause-bits
returns-clause-bits g c =
    let s = c.args.source.now in
    let few = g.met.S.Source.ranges.few_books s in
    let books = c.books.ensures in
    let long : length c.loop-book.word-items ≡ c.books.result = search rules in
    words_on (λ b w. is_some (g.S.Source.table s b w)) c.books.result 120 c.loop-book.word-items long (λ b l. (c.loop-book.invariant b (omega (arith, long, c.loop-book.auto.book-end))).bits)
    (λ b h w. ap is_some (g.met.S.Source.ranges.outside s b w (inl (omega arith))))
