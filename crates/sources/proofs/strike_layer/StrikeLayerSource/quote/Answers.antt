use Rattle.std.proofs.Common.{sym, ◌∙◌}
use Rattle.sources.proofs.Layers.{struck_shut, free_as_below}
use Rattle.sources.proofs.strike_layer.StrikeLayerSource.quote.Goals as goal

pub returns-then-is_struck : goal.returns-then-is_struck
returns-then-is_struck g c = record { pinned = sym (struck_shut _ _ _ _ (sym c.if-is_struck.ensures)); light = tt }

pub returns : goal.returns
returns g c = record { pinned = c.quote.ensures.pinned ∙ sym (free_as_below _ _ _ _ (sym c.if-is_struck.ensures)); light = c.quote.ensures.light }
