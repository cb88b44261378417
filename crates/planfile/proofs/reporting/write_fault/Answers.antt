use Rattle.std.proofs.Common.{◌∙◌, rules}
use Rattle.planfile.specs.Lines.{fault_line}
use Rattle.planfile.proofs.Writes.{writes_then, same_sheet}
use Rattle.planfile.proofs.reporting.write_fault.Goals as goal

pub returns : goal.returns
unfolding fault_line
returns c =
    let w = writes_then c.item.ensures.wrote (writes_then c.item-2.ensures.wrote (writes_then c.item-3.ensures.wrote c.text.ensures)) in
    same_sheet (rw (c.from.ensures ∙ c.number.ensures, c.from-2.ensures) at w.wrote) (search rules)
