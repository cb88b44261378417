use Rattle.std.proofs.Common.{ℕ, Bool, Option, Some, None, cond, is_some, option_map, ◌≡◌, refl, rules}
use Rattle.amounts.specs.Kind.{Kind}
use Rattle.amounts.specs.Least.{or_none}
use Rattle.plans.specs.Posed.{roster_toll}
use Rattle.amounts.proofs.Chains.{least_of_filter_map}
use Rattle.plans.proofs.setting.Setting.cheapest.Goals as goal

tolled : {V : Type 0} (K : Kind V) (toll : V) (o : Option V) → option_map (λ q. K.plus q toll) o ≡ cond (is_some o) (Some (K.plus (or_none K o) toll)) None
tolled K toll None = refl
tolled K toll (Some q) = refl

pub returns : goal.returns
returns g c =
    let k = g.S.Quote.Amount.kind in
    let quotes = g.S.Source.table c.args.self.now.source.now c.args.book in
    let tolls = roster_toll k c.args.self.now.roster.now c.args.sheet.now c.args.book in
    let opens : ℕ → Bool = λ w. is_some (quotes w) in
    let cost : ℕ → g.row.S-Quote.Denot = λ w. k.plus (or_none k (quotes w)) (tolls w) in
    least_of_filter_map k _ _ _ opens cost (λ w. option_map (λ q. k.plus q (tolls w)) (quotes w)) c.fold.ensures.ran c.filter_map.ensures.source c.filter_map.ensures.closure c.weekends.ensures refl
    (λ w. tolled k (tolls w) (quotes w)) (λ x y q k. search rules) (λ a x b q k. search rules)
