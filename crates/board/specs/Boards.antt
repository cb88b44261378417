-- The board of the code: the source below, and the standing board over it. Assumes nothing.
use Rattle.std.specs.Prelude.{List, Result}
use Rattle.amounts.specs.Kind.{Kind}
use Rattle.sources.specs.declared.meaning.Source.{Ghosts}
use Rattle.sources.specs.declared.strike_layer.StrikeLayer.{StrikeLayer}
use Rattle.plans.specs.declared.bound_table.Bounds.{Bounds}
use Rattle.plans.specs.declared.class_tree.Roster.{Roster}
use Rattle.plans.specs.Posed.{Meaning, meaning}
use Rattle.plans.specs.Problem.{Problem}
use Rattle.plans.specs.Rosters.{shape}
use Rattle.board.specs.declared.refusal.Refusal.{Refusal}
use Rattle.board.specs.Refusals.{answered}
use Rattle.board.specs.Standing.{Standing, Step, opened, fault, stepped, played, quote_of, put_by}

-- the source that a board stands over, and what the calls have made of the board
pub record Desk (S V : Type 0) : Type 0 where
  pub below : S
  pub standing : Standing V

-- the same, from the parts of a board in code
abbrev pub desk : {S V : Type 0} → StrikeLayer S → Roster → Bounds → V → Desk S V
desk layer roster bounds limit = record {
  below = layer.below;
  standing = record { struck = layer.struck.words; roster = shape roster; bounds = bounds.table; limit = limit };
}

module _ {S V : Type 0} (source : Ghosts S V) where
  -- what the source under the board means
  abbrev pub under : Desk S V → Meaning V
  under b = meaning source b.below

  -- the same under the board's strikes: what is still open
  abbrev pub under_strikes : Desk S V → Meaning V
  under_strikes b = record { books = (under b).books; weekends = (under b).weekends; quote = quote_of (under b) b.standing }

  -- the problem that a board puts
  abbrev pub posed : Desk S V → Problem V
  posed b = put_by (under b) b.standing

  module _ (K : Kind V) where
    -- the board as it is opened over a source
    abbrev pub fresh : S → Desk S V
    fresh s = record { below = s; standing = opened (meaning source s) K }

    -- what a call answers on a board
    abbrev pub answer : Desk S V → Step V → Result (Unit {0}) Refusal
    answer b s = answered (fault (under b) K b.standing s)

    -- the board after a call: the source below is the same
    abbrev pub after : Desk S V → Step V → Desk S V
    after b s = record { below = b.below; standing = stepped (under b) K b.standing s }

    -- the board after a list of calls
    abbrev pub after_all : Desk S V → List (Step V) → Desk S V
    after_all b ss = record { below = b.below; standing = played (under b) K b.standing ss }
