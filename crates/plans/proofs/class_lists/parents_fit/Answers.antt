use Rattle.std.proofs.Common.{ℕ, length, leb, ◌≡◌, ◌≤◌, ◌&&◌, true, false, ap, sym, ◌∙◌, rules, tests}
use Rattle.std.proofs.lemmas.Bool.{and_from, le-leb}
use Rattle.std.proofs.lemmas.Iterator.{cases_from_all, YieldsList-from_slice}
use Rattle.std.proofs.lemmas.Iterator.Consumers.{YieldsList-at, YieldsList-from_enumerate}
use Rattle.plans.specs.Rosters.{passes, parent_fits}
use Rattle.plans.proofs.Padding.{all_placed}
use Rattle.plans.proofs.class_lists.parents_fit.Goals as goal

pub returns-then-contains : goal.returns-then-contains
returns-then-contains c =
    let xs = c.args.parents.now in
    let some : 1 ≤ length xs = search rules in
    let few : length xs ≤ 8 = search rules in
    all_placed parent_fits xs c.all.result
    (cases_from_all _ _ _ (λ (p : ℕ × ℕ). parent_fits p.0 p.1 ≡ true) (λ (p : ℕ × ℕ). parent_fits p.0 p.1 ≡ false) c.all.ensures.ran
    (YieldsList-from_enumerate (YieldsList-at c.enumerate.ensures.source (YieldsList-from_slice xs cc)) c.enumerate.ensures.count) (λ x q k. search (rules, tests)) (λ x q k. search (rules, tests)))
    ∙ ap (λ b. b && passes parent_fits 0 xs) (sym (and_from (leb 1 (length xs)) (leb (length xs) 8) (le-leb 1 (length xs) some) (le-leb (length xs) 8 few)))
