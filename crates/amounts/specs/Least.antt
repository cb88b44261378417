-- The least of the values that pass a test. Assumes nothing.
use Rattle.std.specs.Prelude.{ℕ, zero, suc, Bool, cond, Some, None, Option}
use Rattle.amounts.specs.Kind.{Kind, smaller}

module _ {V : Type 0} (K : Kind V) where
  -- the smaller of what was found and y
  abbrev pub better : Option V → V → V
  better None y = y
  better (Some x) y = smaller K x y

  -- the least v i of the i below n that pass the test; of equal ones the first
  unfoldable pub least_of : ℕ → (ℕ → Bool) → (ℕ → V) → Option V
  least_of zero t v = None
  least_of (suc n) t v = cond (t n) (Some (better (least_of n t v) (v n))) (least_of n t v)

  -- nothing where there is none
  abbrev pub or_none : Option V → V
  or_none None = K.none
  or_none (Some x) = x
