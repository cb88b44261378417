use Rattle.std.proofs.Common.{subst, arith}
use Rattle.std.proofs.lemmas.List.{length-take}
use Rattle.plans.specs.Posed.{meaning}
use Rattle.solver.specs.Starting.{Found}
use Rattle.solver.proofs.Placing.{none_open, placed_none, placed_room, placed_more, within_none, within_more}
use Rattle.solver.proofs.graph.Graph.first_state.Goals as goal

pub loop-book-init : goal.loop-book-init
loop-book-init g c =
    let s = c.args.self.now.setting.source.now in
    let source = meaning g.S.Source s in
    let roster = c.args.self.now.setting.roster.now in
    (placed_none source roster _ c.empty-state.ensures.words c.empty-state.ensures.counts, within_none source roster (g.met.S.Source.ranges.some_week s) _ c.empty-state.ensures.sent)

pub returns-in_err-best : goal.returns-in_err-best
returns-in_err-best g c =
    let s = c.args.self.now.setting.source.now in
    let books = c.books.ensures in
    let long = length-take c.books.result c.args.words.now in
    let offered = subst (λ t. Found (g.S.Source.table t.source.now c.loop-book.book) (g.S.Source.weeks t.source.now) c.cheapest.result) c.residual_of.ensures.setting c.cheapest.ensures in
    rw c.from_residual.ensures (none_open (g.S.Source.count s) (g.S.Source.weeks s) (g.S.Source.table s) c.loop-book.book (omega arith)
    (subst (Found (g.S.Source.table s c.loop-book.book) (g.S.Source.weeks s)) c.in_err-best.was offered))

pub place-requires-clause-room : goal.place-requires-clause-room
place-requires-clause-room g c =
    let s = c.args.self.now.setting.source.now in
    let books = c.books.ensures in
    let long = length-take c.books.result c.args.words.now in
    let offered = subst (λ t. Found (g.S.Source.table t.source.now c.loop-book.book) (g.S.Source.weeks t.source.now) c.cheapest.result) c.residual_of.ensures.setting c.cheapest.ensures in
    let few = g.met.S.Source.ranges.few_books s in
    let weeks = g.met.S.Source.ranges.few_weeks s in
    let found = subst (Found (g.S.Source.table s c.loop-book.book) (g.S.Source.weeks s)) c.in_ok-best.was offered in
    placed_room (meaning g.S.Source s) c.args.self.now.setting.roster.now c.loop-book.book c.loop-book.state c.loop-book.invariant.0 c.in_ok-best.best.place (omega arith) (omega (arith, found.0))

pub loop-book-preserved : goal.loop-book-preserved
loop-book-preserved g c =
    let s = c.args.self.now.setting.source.now in
    let books = c.books.ensures in
    let long = length-take c.books.result c.args.words.now in
    let offered = subst (λ t. Found (g.S.Source.table t.source.now c.loop-book.book) (g.S.Source.weeks t.source.now) c.cheapest.result) c.residual_of.ensures.setting c.cheapest.ensures in
    let few = g.met.S.Source.ranges.few_books s in
    let found = subst (Found (g.S.Source.table s c.loop-book.book) (g.S.Source.weeks s)) c.in_ok-best.was offered in
    let source = meaning g.S.Source s in
    let roster = c.args.self.now.setting.roster.now in
    let before = c.loop-book.invariant in (
      placed_more source roster c.loop-book.book c.loop-book.state before.0 c.in_ok-best.best.place c.place.new.state (omega arith) c.place.ensures.sent c.place.ensures.words found.0 found.1 c.place.ensures.counts,
      within_more source roster c.loop-book.book c.loop-book.state before.0 c.in_ok-best.best.place c.place.new.state (omega arith) c.place.ensures.sent c.place.ensures.words found.0 before.1,
    )

pub residual_of-requires : goal.residual_of-requires
residual_of-requires g c = λ b _. c.loop-book.invariant.1 b
