use Rattle.board.proofs.Runs.{runs_sound, runs_uncrossed, runs_never_wrong}
use Rattle.board.proofs.worked.runs_stand.Goals as goal

pub returns : goal.returns
returns g c = record {
  sound = runs_sound g.met.X.Amount.lawful;
  straight = runs_uncrossed g.met.X.Amount.lawful;
  checks = runs_never_wrong g.met.X.Amount.lawful;
}
