-- The calls of the code, read as steps. Assumes nothing.
use Rattle.std.specs.Prelude.{List, [], ◌∷◌}
use Rattle.board.specs.declared.call.Call.{Call}
use Rattle.board.specs.declared.call.Call.TheVariants.{Strike, Reopen, Pin, Roster, Bounds, Limit, HeadCheck, TollCheck}
use Rattle.board.specs.Standing.{Step, strike, reopen, pin, roster, bounds, limit, question}

abbrev pub step : {Q : Type 0} → Call Q → Step Q
step (Strike b w) = strike b w
step (Reopen b w) = reopen b w
step (Pin b w) = pin b w
step (Roster parents classes) = roster parents.now classes.now
step (Bounds w c lower upper) = bounds w c lower upper
step (Limit amount) = limit amount
step (HeadCheck sheet) = question
step (TollCheck sheet) = question

abbrev pub steps : {Q : Type 0} → List (Call Q) → List (Step Q)
steps [] = []
steps (c ∷ cs) = step c ∷ steps cs
