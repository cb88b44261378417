use Rattle.std.proofs.Common.{ℕ, rules}
use Rattle.amounts.specs.Sums.{sum_below, table_sum}
use Rattle.amounts.proofs.Chains.{sum_of_map}
use Rattle.plans.specs.Posed.{bounds_ceiling}
use Rattle.plans.proofs.setting.Setting.ceilings.Goals as goal

pub returns : goal.returns
unfolding table_sum
returns g c =
    let k = g.S.Quote.Amount.kind in
    let s = c.args.self.now in
    let row : ℕ → g.row.S-Quote.Denot = λ w. sum_below k s.roster.now.classes (bounds_ceiling k s.roster.now.classes s.bounds.now c.args.sheet.now w) in
    sum_of_map k _ _ _ row c.fold.ensures.ran c.map.ensures.source c.map.ensures.closure c.weekends.ensures c.zero.ensures (λ x y q k. search rules) (λ a x b q k. search rules)
