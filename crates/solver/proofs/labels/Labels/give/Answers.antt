use Rattle.std.proofs.Common.{None, refl, ap}
use Rattle.solver.specs.declared.marks.Mark.{Mark}
use Rattle.solver.specs.Held.{marked}
use Rattle.solver.proofs.labels.Labels.give.Goals as goal

pub returns : goal.returns
returns g c =
    let mark : Mark = record { rank = None; arc = c.args.arc; ranked = tt } in
    (mark, refl, refl, ap (λ m. marked m c.args.node mark) c.write.ensures)
