use Rattle.std.proofs.Common.{◌<◌, length, arith}
use Rattle.std.proofs.lemmas.Nat.{one_shl}
use Rattle.sources.proofs.Bits16.{lift_is, lift_only}
use Rattle.sources.proofs.struck_pairs.StruckPairs.lift.Goals as goal

pub returns-then-weekend-lt16 : goal.returns-then-weekend-lt16
returns-then-weekend-lt16 c =
    let words = c.args.self.now.words in
    let within : c.args.book < length c.args.self.now.words = omega arith in
    let bit = one_shl c.args.weekend 16 c.if-weekend-lt16.true in
    record {
      after = lift_is words c.args.book c.args.weekend _ c.if-book-lt120.true c.if-weekend-lt16.true within bit;
      exact = λ hb hw. lift_only words c.args.book c.args.weekend _ hb hw within bit;
    }
