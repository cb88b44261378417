use Rattle.std.proofs.Common.{◌+◌, ◌-◌, set, sym, refl, ap, subst}
use Rattle.plans.specs.Places.{at}
use Rattle.solver.specs.Undone.{Undone}
use Rattle.solver.proofs.Stated.{sent_same, words_same}
use Rattle.solver.proofs.graph.Graph.undo.Goals as goal

pub returns-in-Rise-clause-after : goal.returns-in-Rise-clause-after
returns-in-Rise-clause-after g c =
    let s = c.args.state.now in
    subst (Undone s _) (sym c.in-Rise.is) (sent_same s _ refl, words_same s _ refl, ap (λ n. set s.counts n (at s.counts n + 1)) c.node-node.ensures.is)

pub returns-in-Fall-clause-after : goal.returns-in-Fall-clause-after
returns-in-Fall-clause-after g c =
    let s = c.args.state.now in
    subst (Undone s _) (sym c.in-Fall.is) (sent_same s _ refl, words_same s _ refl, ap (λ n. set s.counts n (at s.counts n - 1)) c.node.ensures.is)
