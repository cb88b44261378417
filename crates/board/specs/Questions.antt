-- What both checks answer. Assumes nothing.
use Rattle.std.specs.Prelude.{ℕ, ◌*◌, Bool, cond, ◌&&◌, List, length, ℤ, pos, Ok, Err, Result, nat_le, nat_lt, slice_index_or, unsigned_abs}
use Rattle.amounts.specs.Kind.{Kind}
use Rattle.amounts.specs.Sums.{item}
use Rattle.plans.specs.Problem.{Problem}
use Rattle.plans.specs.Sheets.{each_below, toll_accepts, head_accepts}
use Rattle.board.specs.declared.refusal.Refusal.{Refusal}
use Rattle.board.specs.declared.refusal.Refusal.TheVariants.{Range, Heavy, Short}

-- a sheet has a place for each weekend and class
abbrev pub places : {V : Type 0} → Problem V → ℕ
places B = B.weekends * B.classes

-- the first n entries weigh at most 10^12 each
abbrev pub light_entries : {V : Type 0} → Kind V → ℕ → List V → Bool
light_entries K n sheet = each_below n (λ i. nat_le (K.weight (item K sheet i)) 1000000000000)

-- the first n entries are -1, 0 or 1
abbrev pub head_entries : ℕ → List ℤ → Bool
head_entries n sheet = each_below n (λ i. nat_le (unsigned_abs (slice_index_or sheet i (pos 0))) 1)

-- too short a sheet decides first, then an amount that is too heavy: the limit, or an entry of a place that is read
unfoldable pub toll_check : {V : Type 0} → Kind V → Problem V → List V → Result Bool Refusal
toll_check K B sheet =
    cond (nat_lt (length sheet) (places B)) (Err Short)
    (cond (nat_le (K.weight B.limit) 1000000000000 && light_entries K (places B) sheet) (Ok (toll_accepts K B sheet)) (Err Heavy))

-- too short a sheet decides first, then an entry that is none of -1, 0 and 1
unfoldable pub head_check : {V : Type 0} → Problem V → List ℤ → Result Bool Refusal
head_check B sheet = cond (nat_lt (length sheet) (places B)) (Err Short) (cond (head_entries (places B) sheet) (Ok (head_accepts B sheet)) (Err Range))
