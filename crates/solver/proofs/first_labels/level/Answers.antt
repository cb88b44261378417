use Rattle.std.proofs.Common.{sym, ap, ◌∙◌, arith}
use Rattle.solver.specs.Soft.{soft_kind, violation}
use Rattle.solver.proofs.Flat.{level_under, level_inside, level_over}
use Rattle.solver.proofs.first_labels.level.Goals as goal

pub returns-then-members-lower : goal.returns-then-members-lower
returns-then-members-lower g c =
    c.opposite.ensures ∙ ap (soft_kind g.X.Amount.kind).minus c.violation-one.ensures
    ∙ sym (level_under (soft_kind g.X.Amount.kind) (violation g.X.Amount.kind) c.args.lower c.args.upper c.args.members (omega arith))

pub returns-then-members-upper : goal.returns-then-members-upper
returns-then-members-upper g c = c.violation-one.ensures ∙ sym (level_over (soft_kind g.X.Amount.kind) (violation g.X.Amount.kind) c.args.lower c.args.upper c.args.members (omega arith) (omega arith))

pub returns-else-members-upper : goal.returns-else-members-upper
returns-else-members-upper g c = c.zero.ensures ∙ sym (level_inside (soft_kind g.X.Amount.kind) (violation g.X.Amount.kind) c.args.lower c.args.upper c.args.members (omega arith) (omega arith))
