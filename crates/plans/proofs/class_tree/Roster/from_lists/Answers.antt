use Rattle.std.proofs.Common.{ap, sym, ◌≤◌, ◌∙◌, get_or, length, lit<, arith, rules}
use Rattle.plans.proofs.Padding.{fitting, homes_low, padded_reads}
use Rattle.plans.proofs.class_tree.Roster.from_lists.Goals as goal

pub row_of-requires : goal.row_of-requires
row_of-requires c =
    let f = fitting c.args.parents.now (sym c.parents_fit.ensures ∙ c.if-not-parents_fit.false) in
    (lit< tt, (f.few, λ i. omega (arith, f.few, f.known i)))

pub row_of-requires-2 : goal.row_of-requires-2
row_of-requires-2 c =
    let f = fitting c.args.parents.now (sym c.parents_fit.ensures ∙ c.if-not-parents_fit.false) in
    let low = homes_low _ c.in_ok-homes.homes.now f.some (sym c.homes_fit.ensures ∙ c.if-not-homes_fit.false) in
    let few : length c.in_ok-homes.homes.now ≤ 120 = search rules in
    (lit< tt, (few, λ i. omega (arith, f.few, low i)))

pub new-requires-clause-above : goal.new-requires-clause-above
new-requires-clause-above c = λ x l.
    let f = fitting c.args.parents.now (sym c.parents_fit.ensures ∙ c.if-not-parents_fit.false) in
    omega (arith, f.low x, padded_reads 8 c.args.parents.now x, ap (λ xs. get_or xs x 0) c.row_of.ensures)

pub new-requires-clause-classed : goal.new-requires-clause-classed
new-requires-clause-classed c = λ b l.
    let f = fitting c.args.parents.now (sym c.parents_fit.ensures ∙ c.if-not-parents_fit.false) in
    let low = homes_low _ c.in_ok-homes.homes.now f.some (sym c.homes_fit.ensures ∙ c.if-not-homes_fit.false) in
    omega (arith, low b, padded_reads 120 c.in_ok-homes.homes.now b, ap (λ xs. get_or xs b 0) c.row_of-2.ensures)
