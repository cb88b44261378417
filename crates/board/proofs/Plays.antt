-- One call more of a list, and the end of the list.
use Rattle.std.proofs.Common.{◌≡◌, ℕ, ◌+◌, ◌<◌, ◌≤◌, List, ◌∷◌, length, get_or, drop, sym, ap, ◌∙◌}
use Rattle.std.proofs.lemmas.List.{drop_more, drop_all}
use Rattle.amounts.specs.Kind.{Kind}
use Rattle.sources.specs.declared.meaning.Source.{Ghosts}
use Rattle.board.specs.declared.call.Call.{Call}
use Rattle.board.specs.Boards.{Desk, after, after_all}
use Rattle.board.specs.Calls.{step, steps}
use Rattle.board.specs.Standing.{played}

module _ {S V : Type 0} (source : Ghosts S V) (K : Kind V) (calls : List (Call V)) (i : ℕ) where
  pub play_more : (b b' : Desk S V) (call : Call V) → i < length calls → call ≡ get_or calls i call → b' ≡ after source K b (step call)
      → after_all source K b' (steps (drop (i + 1) calls)) ≡ after_all source K b (steps (drop i calls))
  unfolding played
  play_more b b' call h read e =
      ap (λ x. after_all source K x (steps (drop (i + 1) calls))) e
      ∙ sym (ap (λ xs. after_all source K b (steps xs)) (drop_more calls i call h ∙ ap (λ x. x ∷ drop (i + 1) calls) (sym read)))

  pub play_end : (b : Desk S V) → length calls ≤ i → b ≡ after_all source K b (steps (drop i calls))
  unfolding played
  play_end b h = sym (ap (λ xs. after_all source K b (steps xs)) (drop_all i calls h))
