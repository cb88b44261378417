use Rattle.amounts.specs.RankedLaws.{ranked_lawful}
use Rattle.amounts.proofs.promises.ranked_stands.Goals as goal

pub returns : goal.returns
returns g c = λ K M h l. ranked_lawful h l
