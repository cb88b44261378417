-- The cheapest of some places. Assumes nothing.
use Rattle.std.specs.Prelude.{cond, Some, None, Option}
use Rattle.std.specs.Ordering.{is_lt}
use Rattle.amounts.specs.Kind.{Kind}
use Rattle.solver.specs.declared.choices.Choice.{Choice}

-- the cheaper of what was found so far, if anything, and one more; of equal ones the first
abbrev pub cheaper : {V : Type 0} → Kind V → Option (Choice V) → Choice V → Choice V
cheaper K None more = more
cheaper K (Some best) more = cond (is_lt (K.cmp more.cost best.cost)) more best
