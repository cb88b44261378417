use Rattle.std.proofs.Common.{sym, refl, ap, subst, subst₂}
use Rattle.plans.proofs.Posing.{bounds_straight}
use Rattle.solver.specs.Held.{old_of, posed_by, memory_of, Searches, ShownIn}
use Rattle.solver.specs.Reassigning.{Stays}
use Rattle.solver.proofs.Retaken.{stay_shown, walkable}
use Rattle.solver.proofs.graph.Graph.reassign.Goals as goal

pub returns-then-stays-clause-shown : goal.returns-then-stays-clause-shown
returns-then-stays-clause-shown g c =
    let K = g.S.Quote.Amount.kind in
    let B = posed_by g.S.Source K c.args.self.now.setting in
    let e = c.if-stays.ensures in
    let w = c.widen.ensures in
    let over = c.residual_of-residual.ensures in
    let stays = subst₂ (λ t s. Stays K (posed_by g.S.Source K t) s (old_of K (memory_of c.args.labels.now)) c.args.book c.args.into) over.setting over.state (e.stays refl) in
    stay_shown g.met.S.Quote.Amount.lawful B c.args.self.now.sound c.args.state.now c.widen.new.self (old_of K (memory_of c.args.labels.now)) _ c.args.book c.args.into c.requires.book c.requires.shown stays w.sent w.counts w.words (ap (old_of K) e.same)

pub augment-requires : goal.augment-requires
augment-requires g c =
    let K = g.S.Quote.Amount.kind in
    let B = posed_by g.S.Source K c.args.self.now.setting in
    let state = c.args.state.now in
    let some = c.requires.some in
    let over = c.residual_of-residual.ensures in
    let searches = subst₂ (λ t s. Searches K (posed_by g.S.Source K t) s (memory_of c.start_at.new.labels) (memory_of c.search.new.labels)) over.setting over.state c.search.ensures in
    let shown = subst (λ m. ShownIn K B state (old_of K m)) (sym c.if-stays.ensures.same) c.requires.shown in
    walkable g.met.S.Quote.Amount.lawful B c.args.self.now.sound (λ w k _ _. bounds_straight c.args.self.now.setting.bounds.now w k) state (memory_of c.stays.new.labels) (memory_of c.start_at.new.labels) (memory_of c.search.new.labels) c.args.book c.args.into some.0 c.requires.book some.1 some.2 shown c.start_at.ensures searches

pub residual_of-residual-requires : goal.residual_of-residual-requires
residual_of-residual-requires g c = c.requires.shown.inside.sent
