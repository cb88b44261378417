use Rattle.std.proofs.Common.{◌≡◌, sym, subst, add-one, arith}
use Rattle.solver.specs.Search.{nodes}
use Rattle.solver.specs.Held.{posed_by, memory_of, NoneOpen, NearestOpen}
use Rattle.solver.proofs.Sought.{Sought, sought_begin, sought_next, sought_end, sought_all}
use Rattle.solver.proofs.graph.Residual.search.Goals as goal

pub loop-turn-init : goal.loop-turn-init
loop-turn-init g c = sought_begin g.met.S.Quote.Amount.lawful (posed_by g.S.Source g.S.Quote.Amount.kind c.args.self.now.setting) c.args.self.now.state.now _ c.args.labels.now.sized.2

pub returns-in_default : goal.returns-in_default
returns-in_default g c =
    let L = g.met.S.Quote.Amount.lawful in
    let B = posed_by g.S.Source g.S.Quote.Amount.kind c.args.self.now.setting in
    let state = c.args.self.now.state.now in
    let e = c.in_default.ensures in
    let m₀ = memory_of c.args.labels.now in
    let i = subst (λ m. Sought L B state m₀ m c.loop-turn.turn) (sym e.same) c.loop-turn.invariant in
    sought_end L B state m₀ _ c.loop-turn.turn i c.pick.new.self.sized.2 (subst NoneOpen (sym e.same) e.found)

pub loop-turn-preserved : goal.loop-turn-preserved
loop-turn-preserved g c =
    let K = g.S.Quote.Amount.kind in
    let L = g.met.S.Quote.Amount.lawful in
    let B = posed_by g.S.Source K c.args.self.now.setting in
    let state = c.args.self.now.state.now in
    let e = c.in-Some.ensures in
    let u = c.in-Some.nearest.place in
    let m₀ = memory_of c.args.labels.now in
    let m = memory_of c.pick.new.self in
    let i = subst (λ m. Sought L B state m₀ m c.loop-turn.turn) (sym e.same) c.loop-turn.invariant in
    let n = subst (λ m. NearestOpen K m u) (sym e.same) e.found in
    rw add-one (sought_next L B state m₀ m (memory_of c.settle.new.self) (memory_of c.relax.new.labels) c.loop-turn.turn u i n c.pick.new.self.sized.2 c.settle.ensures c.relax.ensures)

pub returns : goal.returns
returns g c =
    let B = posed_by g.S.Source g.S.Quote.Amount.kind c.args.self.now.setting in
    let all : c.loop-turn.turn ≡ nodes = omega arith in
    sought_all g.met.S.Quote.Amount.lawful B c.args.self.now.state.now _ _ (rw all at c.loop-turn.invariant) c.loop-turn.labels.sized.2
