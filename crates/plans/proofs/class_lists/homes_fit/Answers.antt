use Rattle.std.proofs.Common.{ltb, ◌≡◌, true, false, rules, tests}
use Rattle.std.proofs.lemmas.Iterator.{cases_from_all, YieldsList-from_slice}
use Rattle.plans.proofs.Padding.{all_passes}
use Rattle.plans.proofs.class_lists.homes_fit.Goals as goal

pub returns : goal.returns
returns c =
    let n = c.args.classes in
    all_passes (λ x. ltb x n) c.args.homes.now c.all.result
    (cases_from_all _ _ _ (λ x. ltb x n ≡ true) (λ x. ltb x n ≡ false) c.all.ensures.ran (YieldsList-from_slice c.args.homes.now cc) (λ x q k. search (rules, tests)) (λ x q k. search (rules, tests)))
