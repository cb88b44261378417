use Rattle.std.proofs.Common.{◌≡◌, ◌<◌, ◌≤◌, pos, get_or, nat_abs, ap, ⊎_elim, arith, rules}
use Rattle.std.proofs.lemmas.Bool.{cases_lt}
use Rattle.std.proofs.lemmas.List.{get_or_past}
use Rattle.amounts.specs.declared.money.Money.{Money}
use Rattle.amounts.specs.Models.{money}
use Rattle.amounts.proofs.Chains.{made_holds}
use Rattle.plans.proofs.heads.coins.Goals as goal

pub returns : goal.returns
returns c =
    let none = money (pos 0) in
    let light = λ (x : Money). nat_abs x.value ≤ 128 in
    record {
      value = λ i l. made_holds _ (λ i x. x ≡ money (get_or c.args.sheet.now i (pos 0))) c.from_fn.ensures.items (λ x y q k. search rules) i none l;
      light = λ i.
          ⊎_elim
          (λ (l : i < 128). made_holds _ (λ i x. nat_abs x.value ≤ 128) c.from_fn.ensures.items (λ x y q k. search rules) i none l)
          (λ (l : 128 ≤ i). omega (arith, ap (λ (x : Money). nat_abs x.value) (get_or_past c.from_fn.result i none (omega (arith, c.from_fn.ensures.items.long)))))
          (cases_lt i 128);
    }
