-- What a kind of amounts is: its operations, and its laws, which hold of amounts that are light enough. Assumes nothing.
use Rattle.std.specs.Prelude.{◌≡◌, ℕ, ◌+◌, ◌^◌, ◌≤◌, ◌⊎◌}
use Rattle.std.specs.declared.cmp.Ordering.TheVariants.{Less, Equal, Greater}
use Rattle.std.specs.declared.cmp.Ordering.{Ordering}
use Rattle.std.specs.Ordering.{ordering_reverse}

-- A law holds where the weights of the amounts that it names add up to at most this much; an amount named twice counts twice.
unfoldable pub law_limit : ℕ
law_limit = 10 ^ 17

pub record Kind (V : Type 0) : Type 0 where
  pub none : V
  pub plus : V → V → V
  pub minus : V → V
  pub cmp : V → V → Ordering
  pub weight : V → ℕ

pub record Lawful {V : Type 0} (K : Kind V) : Type 0 where
  pub none_weight : K.weight K.none ≡ 0
  pub minus_weight : (x : V) → K.weight x ≤ law_limit → K.weight (K.minus x) ≡ K.weight x
  pub plus_weight : (x y : V) → K.weight x + K.weight y ≤ law_limit → K.weight (K.plus x y) ≤ K.weight x + K.weight y
  pub unit : (x : V) → K.weight x ≤ law_limit → K.plus x K.none ≡ x
  pub inverse : (x : V) → K.weight x + K.weight x ≤ law_limit → K.plus x (K.minus x) ≡ K.none
  pub comm : (x y : V) → K.weight x + K.weight y ≤ law_limit → K.plus x y ≡ K.plus y x
  pub assoc : (x y z : V) → K.weight x + K.weight y + K.weight z ≤ law_limit → K.plus (K.plus x y) z ≡ K.plus x (K.plus y z)
  -- of two amounts exactly one of less, equal and greater holds, and the mirrored comparison says so too
  pub turn : (x y : V) → K.weight x + K.weight y ≤ law_limit → K.cmp y x ≡ ordering_reverse (K.cmp x y)
  -- equal amounts are identical: these two together
  pub itself : (x : V) → K.weight x + K.weight x ≤ law_limit → K.cmp x x ≡ Equal
  pub same : (x y : V) → K.weight x + K.weight y ≤ law_limit → K.cmp x y ≡ Equal → x ≡ y
  pub trans : (x y z : V) → K.weight x + K.weight y + K.weight z ≤ law_limit → K.cmp x y ≡ Less → K.cmp y z ≡ Less → K.cmp x z ≡ Less
  -- one amount added to both sides keeps the comparison, whichever of the three it is
  pub shift : (x y z : V) → K.weight x + K.weight y + K.weight z ≤ law_limit → K.cmp (K.plus x z) (K.plus y z) ≡ K.cmp x y

module _ {V : Type 0} (K : Kind V) where
  -- x is at most y
  abbrev pub AtMost : V → V → Type 0
  AtMost x y = (K.cmp x y ≡ Less) ⊎ (x ≡ y)

  -- the second where the comparison of two says that the first is the greater, else the first
  abbrev pub picked : Ordering → V → V → V
  picked Less x y = x
  picked Equal x y = x
  picked Greater x y = y

  abbrev pub smaller : V → V → V
  smaller x y = picked (K.cmp x y) x y

  abbrev pub larger : V → V → V
  larger x y = picked (K.cmp x y) y x
