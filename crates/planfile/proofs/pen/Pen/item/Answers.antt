use Rattle.std.proofs.Common.{◌∙◌}
use Rattle.planfile.proofs.Writes.{writes_then}
use Rattle.planfile.proofs.pen.Pen.item.Goals as goal

pub returns-clause-wrote : goal.returns-clause-wrote
returns-clause-wrote c = rw (c.as_bytes.ensures.value ∙ c.format.ensures.text) at (writes_then c.text.ensures c.text-2.ensures)
