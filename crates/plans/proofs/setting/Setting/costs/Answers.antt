use Rattle.std.proofs.Common.{ℕ, rules}
use Rattle.amounts.specs.Least.{or_none}
use Rattle.plans.specs.Posed.{roster_toll}
use Rattle.plans.specs.Sheets.{smallest}
use Rattle.amounts.proofs.Chains.{sum_of_map}
use Rattle.plans.proofs.setting.Setting.costs.Goals as goal

pub returns : goal.returns
returns g c =
    let k = g.S.Quote.Amount.kind in
    let s = c.args.self.now.source.now in
    let least : ℕ → g.row.S-Quote.Denot = λ b. or_none k (smallest k (g.S.Source.weeks s) (g.S.Source.table s b) (roster_toll k c.args.self.now.roster.now c.args.sheet.now b)) in
    sum_of_map k _ _ _ least c.fold.ensures.ran c.map.ensures.source c.map.ensures.closure c.books.ensures c.zero.ensures (λ x y q k. search rules) (λ a x b q k. search rules)
