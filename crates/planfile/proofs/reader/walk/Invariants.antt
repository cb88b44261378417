use Rattle.std.proofs.Common.{◌≡◌, drop}
use Rattle.planfile.specs.Progress.{start}
use Rattle.planfile.specs.Reading.{walked}
use Rattle.planfile.proofs.Walks.{placed}
use Rattle.planfile.proofs.reader.walk.Given as goal

abbrev pub invariant-loop-i : goal.invariant-loop-i
invariant-loop-i l = record {
  rest : walked l.kind 0 start l.rows ≡ walked l.kind l.i-counter l.so_far (drop l.i-counter l.rows);
  counted : placed l.so_far ≡ l.i-counter;
}
