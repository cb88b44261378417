-- The labels of a start, where no book may move yet: each is that of the node above less an entry that the bounds give. Assumes nothing.
use Rattle.std.specs.Prelude.{◌≡◌, ℕ, ◌+◌, ◌%◌, ◌<◌, ◌≤◌, cond, ◌≢◌, nat_lt}
use Rattle.amounts.specs.declared.money.Money.{Money}
use Rattle.amounts.specs.declared.ranked.Ranked.{Ranked}
use Rattle.amounts.specs.Kind.{Kind}
use Rattle.plans.specs.Problem.{Problem}
use Rattle.solver.specs.Soft.{soft_kind, violation}
use Rattle.solver.specs.Residual.{node, sink, above}

-- the entry for m members, where `one` is the price of one violation: between the step from m - 1 members to m and the step to m + 1
module _ {V : Type 0} (K : Kind V) (one : V) (lower upper : ℕ) where
  unfoldable pub level : ℕ → V
  level m = cond (nat_lt m lower) (K.minus one) (cond (nat_lt upper m) one K.none)

-- the labels l of a problem, where f counts the members node by node
module _ {V : Type 0} (K : Kind V) (B : Problem V) (f : ℕ → ℕ) where
  -- the entry of a class at a weekend
  abbrev pub entry : ℕ → ℕ → Ranked Money V
  entry w c = level (soft_kind K) (violation K) (B.lower w c) (B.upper w c) (f (node w c))

  -- the label of the node above less the entry
  abbrev pub under : (ℕ → Ranked Money V) → ℕ → ℕ → Ranked Money V
  under l w c = (soft_kind K).plus (l (above B.parent w c)) ((soft_kind K).minus (entry w c))

  -- the label of the node of w and c is given from the one above, and the others are as before
  pub record Labelled (before after : ℕ → Ranked Money V) (w c : ℕ) : Type 0 where
    pub here : after (node w c) ≡ under before w c
    pub others : (v : ℕ) → (v ≢ node w c) → after v ≡ before v

  -- the nodes before n have their labels; no label weighs more than the number of its class and one, since each class adds at most one violation to the label above
  pub record Flat (l : ℕ → Ranked Money V) (n : ℕ) : Type 0 where
    pub top : l sink ≡ (soft_kind K).none
    pub light : (v : ℕ) → (soft_kind K).weight (l v) ≤ v % 8 + 1
    pub labels : (w c : ℕ) → w < B.weekends → c < B.classes → node w c < n → l (node w c) ≡ under l w c
