use Rattle.std.proofs.Common.{◌+◌, sym, ap, ◌∙◌}
use Rattle.solver.specs.Search.{nodes}
use Rattle.solver.specs.Held.{memory_of, written, marked}
use Rattle.solver.proofs.Offering.{offered_taken}
use Rattle.solver.proofs.labels.Labels.offer.Goals as goal

pub returns-then-takes : goal.returns-then-takes
returns-then-takes g c =
    let l = c.args.self.now in
    let v = c.args.node in
    let x = c.args.label in
    let given = c.give.ensures in
    offered_taken g.X.Amount.kind (memory_of l) _ v x c.args.arc given.0 c.requires l.sized.0 l.sized.1 l.sized.2 given.1 given.2 (sym c.if-takes.ensures.value)
    (given.3 ∙ ap (λ m. marked (written m (nodes + v) x) v given.0) c.if-takes.ensures.same)
