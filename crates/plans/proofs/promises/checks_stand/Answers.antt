use Rattle.plans.proofs.Verdicts.{toll_check_sound, head_check_sound}
use Rattle.plans.proofs.promises.checks_stand.Goals as goal

pub returns : goal.returns
returns g c = record { toll = toll_check_sound g.met.X.Amount.lawful; head = head_check_sound g.X.Amount.kind }
