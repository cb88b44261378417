use Rattle.std.proofs.Common.{arith}
use Rattle.solver.specs.Held.{posed_by, memory_of}
use Rattle.solver.proofs.Sweeping.{sink_begin, sink_take, sink_end}
use Rattle.solver.proofs.graph.Residual.take_sink.Goals as goal

pub loop-weekend-init : goal.loop-weekend-init
loop-weekend-init g c = sink_begin g.met.S.Quote.Amount.lawful (posed_by g.S.Source g.S.Quote.Amount.kind c.args.self.now.setting) c.args.self.now.state.now _

pub loop-weekend-preserved : goal.loop-weekend-preserved
loop-weekend-preserved g c =
    let B = posed_by g.S.Source g.S.Quote.Amount.kind c.args.self.now.setting in
    sink_take g.met.S.Quote.Amount.lawful B c.args.self.now.state.now _ _ (memory_of c.take_fall.new.labels) c.loop-weekend.weekend c.loop-weekend.invariant c.take_fall.ensures

pub returns : goal.returns
returns g c =
    let B = posed_by g.S.Source g.S.Quote.Amount.kind c.args.self.now.setting in
    sink_end g.met.S.Quote.Amount.lawful B c.args.self.now.state.now _ _ c.loop-weekend.weekend c.loop-weekend.invariant (omega (arith, c.weekends-weekend-end.ensures, c.loop-weekend-test.false))
