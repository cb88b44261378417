-- Light sums of money as sums of whole numbers. Assumes nothing.
use Rattle.std.specs.Prelude.{◌≡◌, ℕ, zero, suc, ◌+◌, ◌*◌, ◌≤◌, ◌+ℤ◌, neg_ℤ, ◌≤ℤ◌, unsigned_abs, refl}
use Rattle.std.specs.declared.cmp.Ordering.TheVariants.{Less, Equal, Greater}
use Rattle.std.specs.declared.cmp.Ordering.{Ordering}
use Rattle.std.proofs.Common.{ap, ◌∙◌, inl, inr, arith}
use Rattle.amounts.specs.declared.money.Money.{Money}
use Rattle.amounts.specs.Kind.{law_limit, AtMost, picked, smaller, larger}
use Rattle.amounts.specs.Sums.{sum_below, weights, table_sum, weighs, copies}
use Rattle.amounts.specs.Models.{compare_z, money, money_kind, integers}
use Rattle.amounts.proofs.Integers.{le_from_at_most_z, at_most_from_le_z}
use Rattle.amounts.proofs.Numbers.{sum_n_one}
use Rattle.amounts.proofs.Sums.{sum_weight, sum_same}
use Rattle.amounts.proofs.Tables.{rows_weight}
use Rattle.amounts.proofs.Copies.{copies_weight}
use Rattle.amounts.specs.MoneyLaws.{money_lawful, plus_whole, minus_whole}

-- ---- light money counts as whole numbers do
pub money_plus : (x y : Money) → unsigned_abs x.value + unsigned_abs y.value ≤ law_limit → (money_kind.plus x y).value ≡ x.value +ℤ y.value
money_plus x y h = plus_whole x.value y.value h

pub money_minus : (x : Money) → unsigned_abs x.value ≤ law_limit → (money_kind.minus x).value ≡ neg_ℤ x.value
money_minus x h = minus_whole x.value h

pub money_sum : (n : ℕ) (f : ℕ → Money) → weights money_kind n f ≤ law_limit → (sum_below money_kind n f).value ≡ sum_below integers n (λ i. (f i).value)
unfolding sum_below
money_sum zero f h = refl
money_sum (suc n) f h =
    let w = sum_weight money_lawful n f (omega arith) in
    money_plus (sum_below money_kind n f) (f n) (omega arith) ∙ ap (λ z. z +ℤ (f n).value) (money_sum n f (omega arith))

pub money_copies : (k : ℕ) (x : Money) → k * unsigned_abs x.value ≤ law_limit → (copies money_kind k x).value ≡ copies integers k x.value
unfolding copies
money_copies zero x h = refl
money_copies (suc k) x h =
    let w = copies_weight money_lawful (unsigned_abs x.value) k x (omega arith) (omega arith) in
    money_plus (copies money_kind k x) x (omega arith) ∙ ap (λ z. z +ℤ x.value) (money_copies k x (omega arith))

money_picked : (o : Ordering) (x y : Money) → (picked money_kind o x y).value ≡ picked integers o x.value y.value
money_picked Less x y = refl
money_picked Equal x y = refl
money_picked Greater x y = refl

pub money_table : (m n : ℕ) (f : ℕ → ℕ → Money) → weighs money_kind m n f ≤ law_limit → (table_sum money_kind m n f).value ≡ table_sum integers m n (λ i j. (f i j).value)
unfolding table_sum
money_table m n f h =
    money_sum m (λ i. sum_below money_kind n (f i)) (omega (arith, rows_weight money_lawful m n f h))
    ∙ sum_same integers m _ _ (λ i l. money_sum n (f i) (omega (arith, sum_n_one m i (λ i. weights money_kind n (f i)) l)))

pub money_smaller : (x y : Money) → (smaller money_kind x y).value ≡ smaller integers x.value y.value
money_smaller x y = money_picked (compare_z x.value y.value) x y

pub money_larger : (x y : Money) → (larger money_kind x y).value ≡ larger integers x.value y.value
money_larger x y = money_picked (compare_z x.value y.value) y x

pub money_at_most : (x y : Money) → AtMost money_kind x y → x.value ≤ℤ y.value
money_at_most x y (inl e) = le_from_at_most_z x.value y.value (inl e)
money_at_most x y (inr e) = le_from_at_most_z x.value y.value (inr (ap (λ z. z.value) e))

pub at_most_money : (x y : Money) → x.value ≤ℤ y.value → AtMost money_kind x y
at_most_money x y l = go (at_most_from_le_z x.value y.value l)
  where
    go : AtMost integers x.value y.value → AtMost money_kind x y
    go (inl e) = inl e
    go (inr e) = inr (ap money e)
