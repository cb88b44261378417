-- What a layer of struck pairs leaves.
use Rattle.std.proofs.Common.{◌≡◌, ℕ, true, false, List, None, Option}
use Rattle.std.proofs.lemmas.Bool.{cond-true, cond-false}
use Rattle.sources.specs.Strikes.{struck_at, struck_out}

module _ {X : Type 0} (below : ℕ → ℕ → Option X) (words : List ℕ) (b w : ℕ) where
  pub struck_shut : struck_at words b w ≡ true → struck_out below words b w ≡ None
  unfolding struck_out
  struck_shut e = cond-true _ _ _ e

  pub free_as_below : struck_at words b w ≡ false → struck_out below words b w ≡ below b w
  unfolding struck_out
  free_as_below e = cond-false _ _ _ e
