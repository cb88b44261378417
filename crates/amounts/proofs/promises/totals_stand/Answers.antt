use Rattle.amounts.proofs.Lists.{total_perm, total_at_most}
use Rattle.amounts.proofs.promises.totals_stand.Goals as goal

pub returns : goal.returns
returns g c = record {
  permuted = total_perm g.met.X.Amount.lawful;
  ordered = total_at_most g.met.X.Amount.lawful;
}
