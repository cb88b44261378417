use Rattle.std.proofs.Common.{◌+◌, ◌*◌, sym, subst, arith}
use Rattle.solver.specs.Residual.{node}
use Rattle.solver.specs.Held.{posed_by, memory_of, Relaxes}
use Rattle.solver.proofs.Sweeping.{moves_skip, moves_take, moves_end}
use Rattle.solver.proofs.graph.Residual.take_moves.Goals as goal
use Rattle.solver.proofs.graph.Residual.take_moves.Goals.{then-stands_at, else-stands_at}

pub loop-book-preserved : goal.loop-book-preserved
loop-book-preserved g c =
    let L = g.met.S.Quote.Amount.lawful in
    let K = g.S.Quote.Amount.kind in
    let B = posed_by g.S.Source K c.args.self.now.setting in
    let state = c.args.self.now.state.now in
    let w = c.args.spot.weekend in
    let k = c.args.spot.class in
    let b = c.loop-book.book in
    let m = memory_of c.args.labels.now in
    let m₁ = memory_of c.loop-book.labels in
    let i = c.loop-book.invariant in
    elim c.if-stands_at.branch [
      | then-stands_at y ↦ subst (λ l. Relaxes K B state m (memory_of l) (node w k) 129 (129 + (b + 1) * 16)) (sym y.labels-is)
          (moves_take L B state w k c.requires.0 c.requires.1 m m₁ (memory_of y.take_moves_of.new.labels) b i (sym y.if-stands_at.ensures) y.take_moves_of.ensures)
      | else-stands_at y ↦ subst (λ l. Relaxes K B state m (memory_of l) (node w k) 129 (129 + (b + 1) * 16)) (sym y.labels-is)
          (moves_skip L B state w k c.requires.0 c.requires.1 m m₁ b i (sym y.if-stands_at.ensures))
    ]

pub returns : goal.returns
returns g c =
    let B = posed_by g.S.Source g.S.Quote.Amount.kind c.args.self.now.setting in
    moves_end g.met.S.Quote.Amount.lawful B c.args.self.now.state.now c.args.spot.weekend c.args.spot.class c.requires.0 c.requires.1 _ _ c.loop-book.book c.loop-book.invariant (omega (arith, c.books-book-end.ensures, c.loop-book-test.false))
