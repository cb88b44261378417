use Rattle.std.proofs.Common.{ℕ, ◌+◌, sym, ap, ◌∙◌, ap₂}
use Rattle.amounts.specs.Sums.{item}
use Rattle.plans.specs.Places.{at}
use Rattle.plans.specs.Sheets.{upward}
use Rattle.plans.proofs.Climbing.{upward_top, upward_step}
use Rattle.plans.proofs.tolls.+climb.Goals as goal

pub returns-then-class-eq0 : goal.returns-then-class-eq0
returns-then-class-eq0 g t c =
    let r = c.args.roster.now in
    let k = g.X.Amount.kind in
    c.entry_at-own.ensures ∙ sym (upward_top (at r.parents) r.sound.2 r.classes r.sound.3 k (λ i. item k c.args.sheet.now (c.args.start + i)) c.args.class c.if-class-eq0.true)

pub returns : goal.returns
returns g t c =
    let r = c.args.roster.now in
    let k = g.X.Amount.kind in
    let e : ℕ → g.row.X.Denot = λ i. item k c.args.sheet.now (c.args.start + i) in
    c.sum.ensures
    ∙ ap₂ k.plus c.entry_at-own.ensures (c.climb-above.ensures ∙ ap (λ x. upward k (at r.parents) e x x) c.parent.ensures)
    ∙ sym (upward_step (at r.parents) r.sound.2 r.classes r.sound.3 k e c.args.class c.if-class-eq0.false c.requires.known)
