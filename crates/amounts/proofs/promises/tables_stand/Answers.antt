use Rattle.amounts.proofs.Tables.{table_exchange}
use Rattle.amounts.proofs.promises.tables_stand.Goals as goal

pub returns : goal.returns
returns g c = table_exchange g.met.X.Amount.lawful
