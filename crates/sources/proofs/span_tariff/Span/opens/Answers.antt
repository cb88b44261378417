use Rattle.std.proofs.Common.{arith}
use Rattle.std.proofs.lemmas.Bool.Decides.{nat_tests}
use Rattle.sources.specs.Spans.{span_opens}
use Rattle.sources.proofs.span_tariff.Span.opens.Goals as goal

pub returns-then-self-weekend : goal.returns-then-self-weekend
unfolding span_opens
returns-then-self-weekend g c = grind (arith, nat_tests)

pub returns-else-self-weekend : goal.returns-else-self-weekend
unfolding span_opens
returns-else-self-weekend g c = grind (arith, nat_tests)
