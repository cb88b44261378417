use Rattle.std.proofs.Common.{◌≡◌, [], get_or, Ok, Err, sym, ◌∙◌, arith}
use Rattle.planfile.specs.Progress.{start}
use Rattle.planfile.specs.Reading.{turned, walked}
use Rattle.planfile.specs.Records.{stepped}
use Rattle.std.proofs.lemmas.Grind.{common_steps}
use Rattle.planfile.proofs.Walks.{walk_stop}
use Rattle.planfile.proofs.reader.walk.Goals as goal

pub returns-in_err-so_far : goal.returns-in_err-so_far
returns-in_err-so_far c =
    let m : c.map_err.result ≡ turned c.loop-i.i-counter Ok (stepped c.args.kind c.loop-i.so_far (get_or c.args.rows.now c.loop-i.i-counter [])) = grind (arith, common_steps) in
    let e : walked c.args.kind 0 start c.args.rows.now ≡ Err c.in_err-so_far.field-0.0
    = walk_stop c.args.kind c.args.rows.now c.loop-i.i-counter c.loop-i.so_far c.loop-i.invariant.rest c.in_err-so_far.field-0.0 c.loop-i-test.true (sym m ∙ c.in_err-so_far.was) in
    grind (arith, e)
