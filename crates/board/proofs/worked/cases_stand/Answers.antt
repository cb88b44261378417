use Rattle.board.proofs.Stands.{cases_stand}
use Rattle.board.proofs.worked.cases_stand.Goals as goal

pub returns : goal.returns
returns c = cases_stand
