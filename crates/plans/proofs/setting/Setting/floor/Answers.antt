use Rattle.std.proofs.Common.{ap, ◌∙◌, ap₂}
use Rattle.plans.specs.Sheets.{toll, cheapest, floor}
use Rattle.plans.proofs.setting.Setting.floor.Goals as goal

pub returns : goal.returns
unfolding floor cheapest toll
returns g c = let k = g.S.Quote.Amount.kind in c.sum.ensures ∙ ap₂ k.plus c.costs.ensures (c.opposite.ensures ∙ ap k.minus c.ceilings.ensures)
