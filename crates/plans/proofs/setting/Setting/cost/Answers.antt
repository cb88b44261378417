use Rattle.std.proofs.Common.{◌<◌, ◌≤◌, is_some, sym, ap, ◌∙◌, ⊎_elim, inr, arith}
use Rattle.std.proofs.lemmas.Bool.{cases_lt, false≢true}
use Rattle.plans.proofs.setting.Setting.cost.Goals as goal

-- past the weekends of the source a book is shut, and there is no toll
pub toll-requires : goal.toll-requires
toll-requires g c =
    let s = c.args.self.now.source.now in
    let w = c.args.weekend in
    let few = g.met.S.Source.ranges.few_weeks s in
    ⊎_elim
    (λ (l : w < 16). l)
    (λ (l : 16 ≤ w). absurd (false≢true (ap is_some (sym (c.in_ok-quote.ensures.pinned ∙ g.met.S.Source.ranges.outside s c.args.book w (inr (omega (arith, few, l))))))))
    (cases_lt w 16)
