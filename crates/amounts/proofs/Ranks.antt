-- Sums, copies and the order of ranked amounts, part by part. Assumes nothing.
use Rattle.std.specs.Prelude.{◌≡◌, ℕ, zero, suc, ◌+◌, ◌≤◌}
use Rattle.std.specs.declared.cmp.Ordering.TheVariants.{Less, Equal}
use Rattle.std.proofs.Math.Path.{refl, ap}
use Rattle.std.proofs.Common.{sym, ap₂, ◌∙◌, inl, inr, arith}
use Rattle.amounts.specs.Kind.{Kind, Lawful, law_limit, AtMost}
use Rattle.amounts.specs.Sums.{sum_below, copies}
use Rattle.amounts.specs.Models.{ranked, ranked_kind}
use Rattle.amounts.specs.declared.ranked.Ranked.{Ranked}
use Rattle.amounts.specs.RankedLaws.{Before, before_from_less, less_from_before}

module _ {V W : Type 0} (K : Kind V) (M : Kind W) where
  -- sums and copies are taken part by part
  pub ranked_sum : (n : ℕ) (f : ℕ → Ranked V W) → sum_below (ranked_kind K M) n f ≡ ranked (sum_below K n (λ i. (f i).first)) (sum_below M n (λ i. (f i).second))
  unfolding sum_below
  ranked_sum zero f = refl
  ranked_sum (suc n) f = ap (λ s. (ranked_kind K M).plus s (f n)) (ranked_sum n f)

  pub ranked_copies : (k : ℕ) (x : Ranked V W) → copies (ranked_kind K M) k x ≡ ranked (copies K k x.first) (copies M k x.second)
  unfolding copies
  ranked_copies zero x = refl
  ranked_copies (suc k) x = ap (λ s. (ranked_kind K M).plus s x) (ranked_copies k x)

module _ {V W : Type 0} {K : Kind V} {M : Kind W} (L : Lawful K) (N : Lawful M) where
  -- what is at most another in rank is so in its first part, and in the second where the first parts are the same
  pub first_at_most : (x y : Ranked V W) → K.weight x.first + K.weight y.first ≤ law_limit → AtMost (ranked_kind K M) x y → AtMost K x.first y.first
  first_at_most x y h (inr e) = inr (ap (λ z. z.first) e)
  first_at_most x y h (inl e) = go (before_from_less K M x y e)
    where
      go : Before K M x y → AtMost K x.first y.first
      go (inl a) = inl a
      go (inr b) = inr (L.same x.first y.first h b.0)

  pub second_at_most : (x y : Ranked V W) → K.weight y.first + K.weight y.first ≤ law_limit → x.first ≡ y.first → AtMost (ranked_kind K M) x y → AtMost M x.second y.second
  second_at_most x y h s (inr e) = inr (ap (λ z. z.second) e)
  second_at_most x y h s (inl e) = go (before_from_less K M x y e)
    where
      go : Before K M x y → AtMost M x.second y.second
      go (inl a) = let f : Less ≡ Equal = sym a ∙ ap (λ u. K.cmp u y.first) s ∙ L.itself y.first h in let n : ◌≡◌ {A = ℕ} 0 1 = cc in absurd (omega arith)
      go (inr b) = inl b.1

  -- the other way round: from the second parts, where the first parts are the same
  pub at_most_by_second : (x y : Ranked V W) → K.weight y.first + K.weight y.first ≤ law_limit → x.first ≡ y.first → AtMost M x.second y.second → AtMost (ranked_kind K M) x y
  at_most_by_second x y h s (inl a) = inl (less_from_before K M x y (inr (ap (λ u. K.cmp u y.first) s ∙ L.itself y.first h, a)))
  at_most_by_second x y h s (inr e) = inr (ap₂ ranked s e)
