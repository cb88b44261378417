use Rattle.std.proofs.Common.{◌+◌, sym, ap, ◌∙◌, ap₂, arith}
use Rattle.plans.specs.Places.{at}
use Rattle.plans.specs.Sheets.{upward}
use Rattle.plans.proofs.Climbing.{parent_below, upward_top, upward_step}
use Rattle.plans.proofs.class_tree.Roster.+sum_up.Goals as goal

pub returns-then-class-eq0 : goal.returns-then-class-eq0
returns-then-class-eq0 g t c = λ e gives.
    let r = c.args.self.now in
    gives c.args.class c.entry-own.result (omega arith) c.entry-own.ensures
    ∙ sym (upward_top (at r.parents) r.sound.2 (c.args.class + 1) (λ x some _. parent_below r x some) g.X.Amount.kind e c.args.class c.if-class-eq0.true)

pub returns : goal.returns
returns g t c = λ e gives.
    let r = c.args.self.now in
    let k = g.X.Amount.kind in
    let low = parent_below r c.args.class (omega (arith, c.if-class-eq0.false)) in
    c.sum.ensures
    ∙ ap₂ k.plus (gives c.args.class c.entry-own.result (omega arith) c.entry-own.ensures)
    (c.sum_up-above.ensures e (λ x y l p. gives x y (omega (arith, low, c.parent.ensures)) p) ∙ ap (λ x. upward k (at r.parents) e x x) c.parent.ensures)
    ∙ sym (upward_step (at r.parents) r.sound.2 (c.args.class + 1) (λ x some _. parent_below r x some) k e c.args.class c.if-class-eq0.false (omega arith))
