-- The standing board, what each call makes of it or why it is refused, and the problem that the board puts. Assumes nothing.
use Rattle.std.specs.Prelude.{ℕ, zero, suc, min, Bool, cond, not, ◌&&◌, List, [], ◌∷◌, replicate, is_some, Some, None, Ok, Err, Option, Result, ◌==◌, nat_le, nat_lt}
use Rattle.amounts.specs.Kind.{Kind}
use Rattle.sources.specs.Strikes.{struck_at, struck_out, with_pair, without_pair}
use Rattle.plans.specs.declared.class_lists.RosterFault.{RosterFault}
use Rattle.plans.specs.declared.class_lists.RosterFault.TheVariants.{Short as FewClasses, NoRoster}
use Rattle.plans.specs.declared.bound_table.Bound.{Bound}
use Rattle.plans.specs.Bounding.{bound, bound_at, bound_set, bounds_go}
use Rattle.plans.specs.Places.{at}
use Rattle.plans.specs.Posed.{Meaning}
use Rattle.plans.specs.Problem.{Problem}
use Rattle.plans.specs.Rosters.{Shape, roster_of}
use Rattle.board.specs.declared.refusal.Refusal.{Refusal}
use Rattle.board.specs.declared.refusal.Refusal.TheVariants.{Range, Unknown, Crossed, Heavy, Short, Shut, NotStruck}

-- What a planner's calls have made of the board: the struck pairs (a word for each book, bit w of which says that weekend w is
-- struck), the roster, the bounds for each weekend and class, and the limit.
pub record Standing (V : Type 0) : Type 0 where
  pub struck : List ℕ
  pub roster : Shape
  pub bounds : List Bound
  pub limit : V

-- one call; a question changes nothing, whichever it is
pub data Step (V : Type 0) : Type 0 where
  strike : ℕ → ℕ → Step V
  reopen : ℕ → ℕ → Step V
  pin : ℕ → ℕ → Step V
  roster : List ℕ → List ℕ → Step V
  bounds : ℕ → ℕ → ℕ → ℕ → Step V
  limit : V → Step V
  question : Step V

module _ {V : Type 0} (st : Standing V) where
  abbrev pub with_struck : List ℕ → Standing V
  with_struck words = record { struck = words; roster = st.roster; bounds = st.bounds; limit = st.limit }

  abbrev pub with_bounds : List Bound → Standing V
  with_bounds table = record { struck = st.struck; roster = st.roster; bounds = table; limit = st.limit }

  abbrev pub with_limit : V → Standing V
  with_limit amount = record { struck = st.struck; roster = st.roster; bounds = st.bounds; limit = amount }

-- all bounds from 0 to the number of books
abbrev pub free_bounds : ℕ → List Bound
free_bounds books = replicate 128 (bound 0 (min books 120))

-- why two lists that make no roster are refused
abbrev pub roster_refusal : RosterFault → Refusal
roster_refusal FewClasses = Short
roster_refusal NoRoster = Range

module _ {V : Type 0} (M : Meaning V) where
  -- the quote of a pair that the source has open and that is not struck
  abbrev pub quote_of : Standing V → ℕ → ℕ → Option V
  quote_of st b w = struck_out M.quote st.struck b w

  -- these words with the pair (b, x) struck too, if it is open on the board and x is not the weekend w
  abbrev pub pinned_at : Standing V → ℕ → ℕ → ℕ → List ℕ → List ℕ
  pinned_at st b w x words = cond (is_some (quote_of st b x) && not (x == w)) (with_pair words b x) words

  -- the struck words with every open pair of b struck too, at the weekends below n, but not the pair (b, w)
  unfoldable pub pinned : Standing V → ℕ → ℕ → ℕ → List ℕ
  pinned st b w zero = st.struck
  pinned st b w (suc x) = pinned_at st b w x (pinned st b w x)

  -- a new roster sets all bounds back; lists that make none change nothing
  abbrev pub with_roster : Standing V → Result Shape RosterFault → Standing V
  with_roster st (Ok shape) = record { struck = st.struck; roster = shape; bounds = free_bounds M.books; limit = st.limit }
  with_roster st (Err f) = st

  -- what a taken call makes of the board
  unfoldable pub changed : Standing V → Step V → Standing V
  changed st (strike b w) = with_struck st (with_pair st.struck b w)
  changed st (reopen b w) = with_struck st (without_pair st.struck b w)
  changed st (pin b w) = with_struck st (pinned st b w M.weekends)
  changed st (roster parents classes) = with_roster st (roster_of M.books parents classes)
  changed st (bounds w c lower upper) = with_bounds st (bound_set (bounds_go w c lower upper) st.bounds w c (bound lower upper))
  changed st (limit amount) = with_limit st amount
  changed st question = st

  -- a pair that the board has, or else a refusal
  abbrev pub known_pair : ℕ → ℕ → Option Refusal → Option Refusal
  known_pair b w other = cond (nat_lt b M.books && nat_lt w M.weekends) other (Some Unknown)

  -- refused unless the test passes
  abbrev pub unless : Bool → Refusal → Option Refusal
  unless test r = cond test None (Some r)

  abbrev pub roster_fault : Result Shape RosterFault → Option Refusal
  roster_fault (Ok shape) = None
  roster_fault (Err f) = Some (roster_refusal f)

  -- why a call is refused, or that it is taken: too short a list decides first, then the smallest number
  unfoldable pub fault : Kind V → Standing V → Step V → Option Refusal
  fault K st (strike b w) = known_pair b w (unless (is_some (quote_of st b w)) Shut)
  fault K st (reopen b w) = known_pair b w (unless (struck_at st.struck b w) NotStruck)
  fault K st (pin b w) = known_pair b w (unless (is_some (quote_of st b w)) Shut)
  fault K st (roster parents classes) = roster_fault (roster_of M.books parents classes)
  fault K st (bounds w c lower upper) =
      cond (nat_lt w M.weekends && nat_lt c st.roster.classes) (unless (nat_le lower upper && nat_le upper 120) Crossed) (Some Unknown)
  fault K st (limit amount) = unless (nat_le (K.weight amount) 1000000000000) Heavy
  fault K st question = None

  -- a taken call changes the board, a refused one does not
  abbrev pub settled : Option Refusal → Standing V → Standing V → Standing V
  settled None before after = after
  settled (Some r) before after = before

  unfoldable pub stepped : Kind V → Standing V → Step V → Standing V
  stepped K st s = settled (fault K st s) st (changed st s)

  -- the calls one after another
  unfoldable pub played : Kind V → Standing V → List (Step V) → Standing V
  played K st [] = st
  played K st (s ∷ ss) = played K (stepped K st s) ss

  -- the board as it is opened: no strikes, one class with every book in it, all bounds from 0 to the number of books, limit zero
  unfoldable pub opened : Kind V → Standing V
  opened K = record {
    struck = replicate 120 0;
    roster = record { classes = 1; parents = replicate 8 0; homes = replicate 120 0 };
    bounds = free_bounds M.books;
    limit = K.none;
  }

  -- the problem that a standing board puts
  abbrev pub put_by : Standing V → Problem V
  put_by st = record {
    books = M.books;
    weekends = M.weekends;
    classes = st.roster.classes;
    parent = at st.roster.parents;
    class = at st.roster.homes;
    lower = λ w c. (bound_at st.bounds w c).lower;
    upper = λ w c. (bound_at st.bounds w c).upper;
    quote = quote_of st;
    limit = st.limit;
  }

  -- the problem that the opened board puts after a list of calls
  abbrev pub made_by : Kind V → List (Step V) → Problem V
  made_by K steps = put_by (played K (opened K) steps)
