use Rattle.std.proofs.Common.{rules}
use Rattle.planfile.specs.Lines.{accepted_line, counts_line}
use Rattle.planfile.proofs.Writes.{writes_then, same_sheet}
use Rattle.planfile.proofs.reporting.write_counts.Goals as goal

pub returns : goal.returns
unfolding accepted_line counts_line
returns c =
    let w = writes_then (writes_then c.item.ensures.wrote c.text.ensures)
    (writes_then c.item-2.ensures.wrote (writes_then c.item-3.ensures.wrote (writes_then c.item-4.ensures.wrote
    (writes_then c.item-5.ensures.wrote (writes_then c.item-6.ensures.wrote c.text-2.ensures))))) in
    same_sheet w.wrote (search rules)
