use Rattle.std.proofs.Common.{sym}
use Rattle.sources.proofs.Tariffs.{opened, quote_none, quote_some}
use Rattle.sources.proofs.span_tariff.Span.quote.Goals as goal

pub returns-then-not-opens : goal.returns-then-not-opens
returns-then-not-opens g c = quote_none _ _ _ _ (sym c.if-not-opens.ensures)

pub overflow_sub-weekend : goal.overflow_sub-weekend
overflow_sub-weekend g c = (opened _ _ _ _ _ _ (sym c.if-not-opens.ensures)).low

pub returns : goal.returns
returns g c = quote_some _ _ _ _ c.times.result c.sum.result (sym c.if-not-opens.ensures) c.times.ensures c.sum.ensures
