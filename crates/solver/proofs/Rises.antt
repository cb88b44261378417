-- The rise and the fall, case by case. Assumes nothing.
use Rattle.std.proofs.Common.{◌≡◌, ℕ, ◌<◌, ◌≤◌, refl}
use Rattle.std.proofs.lemmas.Bool.{lt-ltb, le-ltb, le-leb, lt-leb}
use Rattle.amounts.specs.Kind.{Kind}
use Rattle.solver.specs.Soft.{rise, fall}

module _ {V : Type 0} (K : Kind V) (one : V) (lower upper m : ℕ) where
  pub rise_under : m < lower → rise K one lower upper m ≡ K.minus one
  unfolding rise
  rise_under h = rw (lt-ltb m lower h) refl

  pub rise_inside : lower ≤ m → m < upper → rise K one lower upper m ≡ K.none
  unfolding rise
  rise_inside h g = rw (le-ltb m lower h, lt-ltb m upper g) refl

  pub rise_over : lower ≤ m → upper ≤ m → rise K one lower upper m ≡ one
  unfolding rise
  rise_over h g = rw (le-ltb m lower h, le-ltb m upper g) refl

  pub fall_under : m ≤ lower → fall K one lower upper m ≡ one
  unfolding fall
  fall_under h = rw (le-leb m lower h) refl

  pub fall_inside : lower < m → m ≤ upper → fall K one lower upper m ≡ K.none
  unfolding fall
  fall_inside h g = rw (lt-leb m lower h, le-leb m upper g) refl

  pub fall_over : lower < m → upper < m → fall K one lower upper m ≡ K.minus one
  unfolding fall
  fall_over h g = rw (lt-leb m lower h, lt-leb m upper g) refl
