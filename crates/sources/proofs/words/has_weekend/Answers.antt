use Rattle.std.proofs.Common.{sym, ◌∙◌, arith}
use Rattle.std.proofs.lemmas.Bool.{le-ltb}
use Rattle.sources.proofs.Bits16.{bit_past}
use Rattle.sources.proofs.words.has_weekend.Goals as goal

pub returns-else-weekend-lt16 : goal.returns-else-weekend-lt16
returns-else-weekend-lt16 c = le-ltb c.args.weekend 16 c.if-weekend-lt16.false ∙ sym (bit_past c.args.word c.args.weekend (omega arith) c.if-weekend-lt16.false)
