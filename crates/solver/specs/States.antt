-- What the state of an assignment holds of its books. Assumes nothing.
use Rattle.std.specs.Prelude.{ℕ, List, map}
use Rattle.solver.specs.declared.state.Sent.{Sent}
use Rattle.solver.specs.declared.state.State.{State}

-- the weekends of the books
unfoldable pub sent_of : State → List ℕ
sent_of state = map (λ (b : Sent). b.weekend) state.books

-- the words of the books
unfoldable pub words_of : State → List ℕ
words_of state = map (λ (b : Sent). b.word) state.books
