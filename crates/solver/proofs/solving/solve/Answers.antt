use Rattle.std.proofs.Common.{◌≡◌, true, sym, ap, ◌∙◌, subst, MatchOption}
use Rattle.std.specs.Result.{result_ok}
use Rattle.plans.specs.Places.{at}
use Rattle.plans.specs.Posed.{put}
use Rattle.plans.specs.Sheets.{stranded}
use Rattle.plans.proofs.Posing.{bounds_straight}
use Rattle.solver.specs.Held.{memory_of, old_of}
use Rattle.solver.specs.Solutions.{LeastAssignment, SolvedIn}
use Rattle.solver.proofs.Opened.{asked_sound}
use Rattle.solver.proofs.Widened.{least_of_lem}
use Rattle.solver.proofs.solving.solve.Goals as goal

pub returns-clause-right : goal.returns-clause-right
returns-clause-right g c =
    let K = g.S.Quote.Amount.kind in
    let B = put g.S.Source c.args.setting.now K.none in
    let sound = asked_sound g.met.S.Source.ranges g.met.S.Quote.Amount.lawful c.args.setting.now c.open_words-words.ensures.light in
    let e = c.least_state-found.ensures in
    let labels = old_of K (memory_of c.least_state-found.new.labels) in
    let solved = subst (λ o. MatchOption o (stranded B.books B.weekends B.quote ≡ true) (λ s. SolvedIn K B s labels)) (c.ok_or.ensures.ok_part ∙ ap result_ok c.in_ok-state.was) e in
    (c.if-work-lt-PLACES.false, subst (λ p. LeastAssignment K B (at p)) (sym c.weekends.ensures) (least_of_lem g.met.S.Quote.Amount.lawful B sound (λ w k _ _. bounds_straight c.args.setting.now.bounds.now w k) c.in_ok-state.state labels solved))

pub invariant_of-graph : goal.invariant_of-graph
invariant_of-graph g c = record { sound = asked_sound g.met.S.Source.ranges g.met.S.Quote.Amount.lawful c.args.setting.now c.open_words-words.ensures.light }
