-- A bound for each of 16 weekends and 8 classes, at place weekend * 8 + class of a list. Assumes nothing.
use Rattle.std.specs.Prelude.{ℕ, ◌+◌, ◌*◌, ◌≤◌, Bool, cond, ◌&&◌, List, nat_le, nat_lt, slice_index_or, slice_set}
use Rattle.plans.specs.declared.bound_table.Bound.{Bound}

-- so many members at least, and so many at most
abbrev pub bound : ℕ → ℕ → Bound
bound lower upper = record { lower = lower; upper = upper }

-- the two do not cross, and neither passes 120
abbrev pub StraightBound : Bound → Type 0
StraightBound b = (b.lower ≤ b.upper) × (b.upper ≤ 120)

-- the bound for a weekend and a class; from 0 to 0 where there is no such weekend or class
abbrev pub bound_at : List Bound → ℕ → ℕ → Bound
bound_at bounds w c = cond (nat_lt w 16 && nat_lt c 8) (slice_index_or bounds (w * 8 + c) (bound 0 0)) (bound 0 0)

-- are these bounds for some weekend and class?
abbrev pub bounds_go : ℕ → ℕ → ℕ → ℕ → Bool
bounds_go w c lower upper = nat_lt w 16 && nat_lt c 8 && nat_le lower upper && nat_le upper 120

-- the bounds with one of them changed, if it goes
abbrev pub bound_set : Bool → List Bound → ℕ → ℕ → Bound → List Bound
bound_set goes bounds w c b = cond goes (slice_set bounds (w * 8 + c) b) bounds
