use Rattle.std.proofs.Common.{◌<◌, set, ap, ◌∙◌, arith}
use Rattle.std.proofs.lemmas.List.{length-take, get_or-take}
use Rattle.sources.specs.Tables.{bit_at}
use Rattle.solver.proofs.Stated.{words_long}
use Rattle.solver.proofs.Widened.{widened_more}
use Rattle.solver.proofs.graph.Graph.widen_all.Goals as goal
use Rattle.solver.specs.States.{words_of}

pub reassign-requires-clause-some : goal.reassign-requires-clause-some
reassign-requires-clause-some g c =
    let within : c.loop-book.book < g.S.Source.count c.args.self.now.setting.source.now = omega (arith, c.books.ensures, length-take c.books.result c.args.words.now) in
    let some = c.requires.some c.loop-book.book within in
    (some.0, some.1, ap (λ word. bit_at word some.0) (get_or-take c.books.result c.args.words.now c.loop-book.book 0 (omega (arith, c.books.ensures))) ∙ some.2)

pub loop-book-preserved : goal.loop-book-preserved
loop-book-preserved g c =
    let r = c.reassign.ensures in
    let word = get_or-take c.books.result c.args.words.now c.loop-book.book 0 (omega (arith, length-take c.books.result c.args.words.now)) in
    (r.shown, widened_more c.args.words.now (words_of c.loop-book.state) _ c.loop-book.book (omega (arith, c.books.ensures, length-take c.books.result c.args.words.now, words_long c.loop-book.state, g.met.S.Source.ranges.few_books c.args.self.now.setting.source.now)) (r.words ∙ ap (set (words_of c.loop-book.state) c.loop-book.book) word) c.loop-book.invariant.1)
