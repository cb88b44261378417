use Rattle.std.proofs.Common.{◌+◌, ◌*◌, None, sym, ◌∙◌}
use Rattle.std.proofs.lemmas.Bool.{ltb-false}
use Rattle.std.proofs.lemmas.Option.{slice_get_past}
use Rattle.sources.proofs.Pairs.{pair_closed, pair_open, pair_read}
use Rattle.sources.proofs.quote_table.QuoteTableSource.quote.Goals as goal

pub returns-then-not-opens-clause-pinned : goal.returns-then-not-opens-clause-pinned
returns-then-not-opens-clause-pinned g c = pair_closed _ _ _ _ _ _ _ (sym c.if-not-opens.ensures)

pub returns-in_err-amount-clause-pinned : goal.returns-in_err-amount-clause-pinned
returns-in_err-amount-clause-pinned g c =
    let past = slice_get_past c.args.self.now.quotes.now (c.args.book * c.weekends.result + c.args.weekend) (ltb-false _ _ (sym c.in_err-amount.ensures.lookup.0)) in
    c.from_residual.ensures ∙ pair_open _ _ _ _ _ _ _ c.weekends.result None c.weekends.ensures (sym c.if-not-opens.ensures) past

pub returns-clause-pinned : goal.returns-clause-pinned
returns-clause-pinned g c =
    let found = c.in_ok-amount.ensures.lookup in
    c.then_some.ensures ∙ pair_read _ _ _ _ _ _ _ c.weekends.result c.weight.result c.in_ok-amount.field-0.now c.weekends.ensures (sym c.if-not-opens.ensures) found.3.0 found.1 c.weight.ensures
