-- What the walk changes in the state of an assignment: an arc is undone, and at last a book is put in its place. Assumes nothing.
use Rattle.std.specs.Prelude.{◌≡◌, ℕ, ◌+◌, ◌-◌, ◌<◌, ◌≤◌, slice_set}
use Rattle.plans.specs.Places.{at}
use Rattle.solver.specs.declared.arcs.Arc.{Arc}
use Rattle.solver.specs.declared.arcs.Arc.TheVariants.{Rise, Fall, Move}
use Rattle.solver.specs.declared.state.State.{State}
use Rattle.solver.specs.Residual.{node}
use Rattle.solver.specs.States.{sent_of, words_of}

-- the numbers of the arc are places of the state, and the count at its node can change by one
abbrev pub Undoable : ℕ → State → Arc → Type 0
Undoable classes state (Rise w c) = (w < 16) × (c < classes) × (at state.counts (node w c) < 120)
Undoable classes state (Fall w c) = (w < 16) × (c < classes) × (1 ≤ at state.counts (node w c))
Undoable classes state (Move j x) = (j < 120) × (x < 16) × (at (sent_of state) j < 16)

-- one more is counted at the node that a rise comes from, one fewer at the node that a fall leads to, and the book of a move goes where the move leads: there it fills the hole
abbrev pub Undone : State → State → Arc → Type 0
Undone before after (Rise w c) = (sent_of after ≡ sent_of before) × (words_of after ≡ words_of before) × (after.counts ≡ slice_set before.counts (node w c) (at before.counts (node w c) + 1))
Undone before after (Fall w c) = (sent_of after ≡ sent_of before) × (words_of after ≡ words_of before) × (after.counts ≡ slice_set before.counts (node w c) (at before.counts (node w c) - 1))
Undone before after (Move j x) = (sent_of after ≡ slice_set (sent_of before) j x) × (words_of after ≡ words_of before) × (after.counts ≡ before.counts)

-- the book b is put at the weekend x, and may go to the weekends of the word `into`
abbrev pub Put : State → State → ℕ → ℕ → ℕ → Type 0
Put before after b x into = (sent_of after ≡ slice_set (sent_of before) b x) × (words_of after ≡ slice_set (words_of before) b into) × (after.counts ≡ before.counts)
