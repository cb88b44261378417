use Rattle.std.proofs.Common.{◌≡◌, ◌≤◌, get_or, Some, None, is_some, sym, refl, ap, ◌∙◌, subst, arith}
use Rattle.std.specs.Ordering.{is_lt}
use Rattle.std.proofs.lemmas.List.{get_or_default}
use Rattle.solver.specs.Search.{nodes}
use Rattle.solver.specs.Soft.{soft_kind}
use Rattle.solver.specs.Held.{memory_of, rank_in}
use Rattle.solver.proofs.Marked.{unranked}
use Rattle.solver.proofs.Offering.{takes_seen}
use Rattle.solver.proofs.Relaxed.{read_new}
use Rattle.solver.proofs.labels.Labels.takes.Goals as goal

pub returns-then-is_none-clause-value : goal.returns-then-is_none-clause-value
returns-then-is_none-clause-value g c =
    let K = g.X.Amount.kind in
    let m = memory_of c.args.self.now in
    let v = c.args.node in
    let x = c.args.label in
    let is : get_or m.marks v None ≡ Some c.in-Some.mark = get_or_default m.marks v None _ (omega (arith, c.args.self.now.sized.2)) ∙ c.in-Some.is in
    let open' = subst (λ o. nodes ≤ rank_in o) (sym is) (unranked c.in-Some.mark.rank c.if-is_none.ensures) in
    let new = read_new K m v v c.read.result c.requires refl c.read.ensures.read in
    c.is_lt.ensures ∙ ap is_lt (c.compare.ensures ∙ ap ((soft_kind K).cmp x) new) ∙ sym (takes_seen K m v x open' (ap is_some is))
