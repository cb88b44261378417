use Rattle.std.proofs.Common.{sym, ◌∙◌, subst, arith}
use Rattle.solver.specs.Held.{ShownIn}
use Rattle.solver.proofs.Augmented.{undoable, Step, step, start_weekend, shown}
use Rattle.solver.proofs.graph.Graph.augment.Given as given
use Rattle.solver.proofs.graph.Graph.augment.Goals as goal

pub undo-hole-requires : goal.undo-hole-requires
undo-hole-requires g c = undoable g.met.S.Quote.Amount.lawful _ _ _ _ _ c.requires _ _ _ c.loop-arc.invariant.0 c.in-Some.ensures

-- what one turn of the loop does
turn : (g : given.Over) (c : goal.After-undo-hole g) → Step g.met.S.Quote.Amount.lawful _ _ _ _ _ c.requires c.loop-arc.state c.undo-hole.new.state c.loop-arc.hole c.undo-hole.result
turn g c =
    let o = c.undo-hole.ensures in
    step g.met.S.Quote.Amount.lawful _ _ _ _ _ c.requires _ _ _ _ c.in-Some.arc c.loop-arc.invariant.0 c.in-Some.ensures o.next o.after

pub loop-arc-smaller : goal.loop-arc-smaller
loop-arc-smaller g c = (turn g c).less

pub loop-arc-preserved : goal.loop-arc-preserved
loop-arc-preserved g c = let s = turn g c in (s.walks, s.words ∙ c.loop-arc.invariant.1, s.within)

pub of-requires : goal.of-requires
of-requires g c = omega (arith, start_weekend g.met.S.Quote.Amount.lawful _ _ _ _ _ c.requires _ _ c.loop-arc.invariant.0 c.in_default.ensures)

pub returns-clause-shown : goal.returns-clause-shown
returns-clause-shown g c =
    subst (ShownIn g.S.Quote.Amount.kind _ c.put.new.state) (sym c.adopt.ensures) (shown g.met.S.Quote.Amount.lawful _ _ _ _ _ c.requires _ _ _ c.loop-arc.invariant.0 c.in_default.ensures (rw (← c.of.ensures.weekend) c.put.ensures))
