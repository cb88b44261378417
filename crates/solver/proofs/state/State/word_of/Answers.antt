use Rattle.std.proofs.Common.{sym, arith}
use Rattle.solver.proofs.Stated.{word_read}
use Rattle.solver.proofs.state.State.word_of.Goals as goal

pub returns : goal.returns
returns c = let s = c.args.self.now in sym (word_read s c.args.book _ (omega (arith, s.sized.0)))
