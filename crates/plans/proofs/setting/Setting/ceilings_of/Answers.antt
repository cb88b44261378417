use Rattle.std.proofs.Common.{rules}
use Rattle.amounts.proofs.Chains.{sum_of_map}
use Rattle.plans.specs.Posed.{bounds_ceiling}
use Rattle.plans.proofs.setting.Setting.ceilings_of.Goals as goal

pub returns : goal.returns
returns g c =
    let k = g.S.Quote.Amount.kind in
    let s = c.args.self.now in
    sum_of_map k _ _ s.roster.now.classes (bounds_ceiling k s.roster.now.classes s.bounds.now c.args.sheet.now c.args.weekend) c.fold.ensures.ran c.map.ensures.source c.map.ensures.closure c.classes-classes.ensures c.zero.ensures
    (λ x y q k. search rules) (λ a x b q k. search rules)
