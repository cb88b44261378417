use Rattle.std.proofs.Common.{refl, ap, ◌∙◌, ap₂}
use Rattle.solver.specs.Soft.{soft_kind}
use Rattle.solver.specs.Held.{memory_of}
use Rattle.solver.proofs.Beginning.{read_old}
use Rattle.solver.proofs.Relaxed.{read_new}
use Rattle.solver.proofs.labels.Labels.key_of.Goals as goal

pub returns-clause-value : goal.returns-clause-value
returns-clause-value g c =
    let K = g.X.Amount.kind in
    let m = memory_of c.args.self.now in
    let v = c.args.node in
    let a = c.read-new.ensures in
    let b = c.read-old.ensures in
    let new = read_new K m v v c.read-new.result c.requires refl a.read in
    let old = read_old K m _ v v c.read-old.result a.same c.requires refl b.read in
    c.sum.ensures ∙ ap₂ (soft_kind K).plus new (c.opposite.ensures ∙ ap (soft_kind K).minus old)
