use Rattle.std.proofs.Common.{◌≡◌, ◌+◌, sym, refl, ap, ◌∙◌, subst, arith}
use Rattle.solver.specs.Search.{nodes}
use Rattle.solver.specs.Held.{memory_of, open_of, key_of}
use Rattle.solver.proofs.Picked.{Best, scan_shut, scan_open, scan_all}
use Rattle.solver.proofs.labels.Labels.pick.Goals as goal
use Rattle.solver.proofs.labels.Labels.pick.Goals.{then-is_open, else-is_open}

pub loop-node-preserved : goal.loop-node-preserved
loop-node-preserved g c =
    let K = g.X.Amount.kind in
    let L = g.met.X.Amount.lawful in
    let i = c.loop-node.invariant in
    let v = c.loop-node.node in
    let m = memory_of c.args.self.now in
    elim c.if-is_open.branch [
      | then-is_open w ↦ (
        rw w.found-is (subst (Best K m (v + 1)) (sym w.cheaper.ensures) (scan_open L m v c.loop-node.found _ i.0 (ap (λ m. open_of m v) (sym i.1) ∙ sym w.if-is_open.ensures) refl
            (w.key_of-cost.ensures.value ∙ ap (λ m. key_of K m v) i.1))),
        ap memory_of w.self-is ∙ w.key_of-cost.ensures.same ∙ i.1,
      )
      | else-is_open w ↦ (
        rw w.found-is (scan_shut K m v c.loop-node.found i.0 (ap (λ m. open_of m v) (sym i.1) ∙ sym w.if-is_open.ensures)),
        ap memory_of w.self-is ∙ i.1,
      )
    ]

pub returns-clause-found : goal.returns-clause-found
returns-clause-found g c =
    let K = g.X.Amount.kind in
    let i = c.loop-node.invariant in
    let all : c.loop-node.node ≡ nodes = omega arith in
    scan_all K (memory_of c.args.self.now) c.loop-node.found (rw all at i.0)
