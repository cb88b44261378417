use Rattle.std.proofs.Common.{◌+◌, ◌*◌, ◌<◌, sym, ap, ◌∙◌, arith}
use Rattle.plans.specs.Places.{at}
use Rattle.solver.specs.Residual.{above}
use Rattle.solver.proofs.Above.{above_root, above_other}
use Rattle.solver.proofs.nodes.Spot.above.Goals as goal

pub returns-then-self-eq0-clause-is : goal.returns-then-self-eq0-clause-is
returns-then-self-eq0-clause-is c = let parent = at c.args.roster.now.parents in sym (ap (above parent c.args.self.weekend) c.if-self-eq0.true ∙ above_root parent c.args.self.weekend)

pub returns-else-self-eq0-clause-is : goal.returns-else-self-eq0-clause-is
returns-else-self-eq0-clause-is c =
    let some : 0 < c.args.self.class = omega (arith, c.if-self-eq0.false) in
    ap (λ p. c.args.self.weekend * 8 + p) c.parent.ensures ∙ sym (above_other (at c.args.roster.now.parents) c.args.self.weekend c.args.self.class some)
