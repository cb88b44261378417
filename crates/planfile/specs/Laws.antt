-- What reading a file means in one sentence: a file is accepted exactly when it is the layout of a proper description,
-- and what is answered is that description, of which there is only one.
use Rattle.std.specs.Prelude.{◌≡◌, ℕ, List, Ok, Err, Result, ◌≢◌}
use Rattle.planfile.specs.declared.progress.FileKind.{FileKind}
use Rattle.planfile.specs.declared.refusal.Fault.{Fault}
use Rattle.planfile.specs.Description.{Description, Proper, layout}

-- the bytes are the layout of this description, and of no other proper one
pub record IsThe (k : FileKind) (bs : List ℕ) (d : Description) : Type 0 where
  pub proper : Proper k d
  pub laid : layout d ≡ bs
  pub only : (e : Description) → Proper k e → layout e ≡ bs → e ≡ d

-- what an answer says about the bytes that were read
abbrev pub Tells : FileKind → List ℕ → Result Description Fault → Type 0
Tells k bs (Ok d) = IsThe k bs d
Tells k bs (Err f) = (d : Description) → Proper k d → layout d ≢ bs
