use Rattle.std.proofs.Common.{sym, ◌∙◌, arith}
use Rattle.solver.proofs.Stated.{sent_read}
use Rattle.solver.proofs.state.State.weekend_of.Goals as goal

pub returns : goal.returns
returns c = let s = c.args.self.now in c.from.ensures ∙ sym (sent_read s c.args.book _ (omega (arith, s.sized.0)))
