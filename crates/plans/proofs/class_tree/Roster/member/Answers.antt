use Rattle.std.proofs.Common.{sym, ap, ◌∙◌, arith}
use Rattle.plans.specs.Places.{at}
use Rattle.plans.specs.Problem.{climbs}
use Rattle.plans.proofs.Climbing.{climbs_step, climbs_here, climbs_top}
use Rattle.plans.proofs.class_tree.Roster.member.Goals as goal
use Rattle.plans.proofs.class_tree.Roster.member.Goals.{then-loop-at_class-test+else-at_class-ne0, else-loop-at_class-test}

pub loop-at_class-preserved : goal.loop-at_class-preserved
loop-at_class-preserved c =
    let sound = c.args.self.now.sound in
    let up = at c.args.self.now.parents in
    let low = sound.3 c.loop-at_class.at_class (omega arith) c.loop-at_class.invariant.0 in (
      omega (arith, low, c.parent-at_class.ensures),
      ap (λ x. climbs up x x c.args.class) c.parent-at_class.ensures
          ∙ climbs_step up sound.2 c.args.self.now.classes sound.3 c.loop-at_class.at_class c.args.class c.loop-at_class-test.true c.if-at_class-ne0.true c.loop-at_class.invariant.0
          ∙ c.loop-at_class.invariant.1,
    )

pub returns : goal.returns
returns c =
    let sound = c.args.self.now.sound in
    let up = at c.args.self.now.parents in
    let n = c.args.self.now.classes in
    let x = c.loop-at_class.at_class in
    elim c.loop-at_class-test.branch [
      | then-loop-at_class-test+else-at_class-ne0 w ↦ sym (climbs_top up sound.2 n sound.3 x c.args.class w.if-at_class-ne0.false) ∙ c.loop-at_class.invariant.1
      | else-loop-at_class-test w ↦ sym (climbs_here up sound.2 n sound.3 x c.args.class w.loop-at_class-test.false) ∙ c.loop-at_class.invariant.1
    ]
