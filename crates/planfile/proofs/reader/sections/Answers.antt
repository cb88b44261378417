use Rattle.std.proofs.Common.{arith}
use Rattle.std.proofs.lemmas.List.{drop-drop, get_or-drop}
use Rattle.planfile.specs.Reading.{sectioned}
use Rattle.planfile.proofs.reader.sections.Goals as goal

pub returns : goal.returns
unfolding sectioned
returns c =
    let f1 = c.split_at.ensures.front in let b1 = c.split_at.ensures.back in let n1 = c.from.ensures in
    let l2 = c.split_at-2.ensures.front_len in let b2 = c.split_at-2.ensures.back in let n2 = c.from-2.ensures in
    let f3 = c.split_at-3.ensures.front in let b3 = c.split_at-3.ensures.back in let n3 = c.from-3.ensures in
    let f4 = c.split_at-4.ensures.front in let b4 = c.split_at-4.ensures.back in let n4 = c.from-4.ensures in
    let f5 = c.split_at-5.ensures.front in let b5 = c.split_at-5.ensures.back in let n5 = c.from-5.ensures in
    let r = c.read_price.ensures in
    simp (r, l2, f1, f3, f4, f5, b5, b4, b3, b2, b1, n1, n2, n3, n4, n5, drop-drop, get_or-drop) (grind arith)
