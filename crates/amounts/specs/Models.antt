-- The kinds of this crate: money, two kinds ranked, and the whole numbers. Assumes nothing.
use Rattle.std.specs.Prelude.{max, cond, ℤ, pos, ◌+ℤ◌, neg_ℤ, int_lt, unsigned_abs}
use Rattle.std.specs.declared.cmp.Ordering.TheVariants.{Less, Equal, Greater}
use Rattle.std.specs.declared.cmp.Ordering.{Ordering}
use Rattle.std.specs.Int.{int_wrap, w64}
use Rattle.std.specs.Ordering.{ordering_then}
use Rattle.amounts.specs.Kind.{Kind}
use Rattle.amounts.specs.declared.money.Money.{Money}
use Rattle.amounts.specs.declared.ranked.Ranked.{Ranked}

abbrev pub compare_z : ℤ → ℤ → Ordering
compare_z x y = cond (int_lt x y) Less (cond (int_lt y x) Greater Equal)

abbrev pub money : ℤ → Money
money z = record { value = z }

-- sums and opposites wrap around at 64 bits
abbrev pub money_kind : Kind Money
money_kind = record {
  none = money (pos 0);
  plus = λ x y. money (int_wrap w64 (x.value +ℤ y.value));
  minus = λ x. money (int_wrap w64 (neg_ℤ x.value));
  cmp = λ x y. compare_z x.value y.value;
  weight = λ x. unsigned_abs x.value;
}

abbrev pub ranked : {V W : Type 0} → V → W → Ranked V W
ranked x y = record { first = x; second = y }

-- summed part by part, compared by the first part and then by the second; as heavy as the heavier part
abbrev pub ranked_kind : {V W : Type 0} → Kind V → Kind W → Kind (Ranked V W)
ranked_kind K M = record {
  none = ranked K.none M.none;
  plus = λ x y. ranked (K.plus x.first y.first) (M.plus x.second y.second);
  minus = λ x. ranked (K.minus x.first) (M.minus x.second);
  cmp = λ x y. ordering_then (K.cmp x.first y.first) (M.cmp x.second y.second);
  weight = λ x. max (K.weight x.first) (M.weight x.second);
}

-- the laws hold of all whole numbers, so that each weighs nothing
abbrev pub integers : Kind ℤ
integers = record { none = pos 0; plus = ◌+ℤ◌; minus = neg_ℤ; cmp = compare_z; weight = λ _. 0 }
