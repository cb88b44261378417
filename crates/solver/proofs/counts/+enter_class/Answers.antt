use Rattle.std.proofs.Common.{◌+◌, ◌&&◌, ◌==◌, set, ap, ◌∙◌}
use Rattle.amounts.specs.Sums.{bit}
use Rattle.plans.specs.Places.{at}
use Rattle.plans.specs.Problem.{climbs}
use Rattle.solver.specs.Residual.{node}
use Rattle.solver.proofs.Entering.{entered_more}
use Rattle.solver.proofs.counts.+enter_class.Goals as goal

pub returns-then-spot-ne0 : goal.returns-then-spot-ne0
returns-then-spot-ne0 t c w k h =
    let r = c.args.roster.now in
    (entered_more (at r.parents) r.sound.2 r.classes r.sound.3 r.sound.1 c.args.counts.now c.told-counts c.args.spot.weekend c.args.spot.class c.args.spot.near c.requires.known w k h
    c.if-spot-ne0.true c.parent-class.result (at c.enter_class.new.counts (node w k)) c.parent-class.ensures (c.enter_class.ensures w k h ∙ ap (λ n. at (set c.args.counts.now n (at c.args.counts.now n + 1)) (node w k) + bit (c.args.spot.weekend == w && climbs (at r.parents) c.parent-class.result c.parent-class.result k)) c.node.ensures.is))
