use Rattle.std.proofs.Common.{sym, ◌∙◌, arith}
use Rattle.std.proofs.lemmas.Bool.{ltb-false}
use Rattle.sources.proofs.Tariffs.{span_closed, span_missing, span_answer, span_light}
use Rattle.sources.proofs.span_tariff.SpanTariffSource.quote.Goals as goal

pub returns-then-not-has-clause-pinned : goal.returns-then-not-has-clause-pinned
returns-then-not-has-clause-pinned g c = span_closed _ _ _ _ _ _ (sym c.if-not-has.ensures)

pub returns-in_err-span-clause-pinned : goal.returns-in_err-span-clause-pinned
returns-in_err-span-clause-pinned g c = c.from_residual.ensures ∙ sym (span_missing _ _ _ _ _ _ (ltb-false _ _ (sym c.in_err-span.ensures.lookup.0)))

pub returns-clause-pinned : goal.returns-clause-pinned
returns-clause-pinned g c =
    let found = c.in_ok-span.ensures.lookup in
    span_answer _ _ _ _ c.weekends.result _ _ c.in_ok-span.field-0.now _ c.weekends.ensures c.quote.ensures (sym c.if-not-has.ensures) found.3.0 found.1

pub returns-clause-light : goal.returns-clause-light
returns-clause-light g c = span_light g.met.X.Amount.lawful c.weekends.result _ c.in_ok-span.field-0.now _ (omega arith) c.quote.ensures
