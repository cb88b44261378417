use Rattle.std.proofs.Common.{sym, ap, ◌∙◌}
use Rattle.std.specs.Ordering.{is_lt}
use Rattle.std.proofs.lemmas.Bool.{or_left}
use Rattle.plans.specs.Sheets.{toll, cheapest, floor, accepts}
use Rattle.plans.proofs.Below.{or_passes}
use Rattle.plans.proofs.setting.Setting.toll_accepts.Goals as goal

pub returns-then-stranded : goal.returns-then-stranded
unfolding accepts
returns-then-stranded g c = c.if-stranded.true ∙ sym (or_left _ _ (sym c.if-stranded.ensures))

pub returns-else-stranded : goal.returns-else-stranded
unfolding accepts floor cheapest toll
returns-else-stranded g c =
    c.is_lt.ensures
    ∙ ap is_lt (c.compare.ensures ∙ ap (g.S.Quote.Amount.kind.cmp c.args.limit) c.floor.ensures)
    ∙ sym (or_passes _ _ (sym c.if-stranded.ensures))
