-- Two kinds ranked keep the laws where the parts do. Assumes nothing. The proof stands here, and not in proofs/, since the implementation cites it, which may name
-- no more than specs/.
use Rattle.std.specs.Prelude.{◌≡◌, ℕ, ◌+◌, ◌≤◌, max, ◌⊎◌}
use Rattle.std.specs.declared.cmp.Ordering.TheVariants.{Less, Equal, Greater}
use Rattle.std.specs.declared.cmp.Ordering.{Ordering}
use Rattle.std.proofs.Math.Path.{refl, ap}
use Rattle.std.proofs.Common.{sym, ap₂, ◌∙◌, inl, inr, arith}
use Rattle.std.specs.Ordering.{ordering_reverse, ordering_then}
use Rattle.amounts.specs.Kind.{Kind, Lawful, law_limit}
use Rattle.amounts.specs.Models.{ranked, ranked_kind}
use Rattle.amounts.specs.declared.ranked.Ranked.{Ranked}

then_turn : (o p : Ordering) → ordering_then (ordering_reverse o) (ordering_reverse p) ≡ ordering_reverse (ordering_then o p)
then_turn Less p = refl
then_turn Equal p = refl
then_turn Greater p = refl

then_equal : (o p : Ordering) → ordering_then o p ≡ Equal → (o ≡ Equal) × (p ≡ Equal)
then_equal Less p e = let n : ◌≡◌ {A = ℕ} 0 1 = cc in absurd (omega arith)
then_equal Equal p e = (refl, e)
then_equal Greater p e = let n : ◌≡◌ {A = ℕ} 0 1 = cc in absurd (omega arith)

then_less : (o p : Ordering) → ordering_then o p ≡ Less → (o ≡ Less) ⊎ ((o ≡ Equal) × (p ≡ Less))
then_less Less p e = inl refl
then_less Equal p e = inr (refl, e)
then_less Greater p e = let n : ◌≡◌ {A = ℕ} 0 1 = cc in absurd (omega arith)

module _ {V W : Type 0} (K : Kind V) (M : Kind W) where
  -- x comes before y: by the first part, or by the second where the first parts are equal
  abbrev pub Before : Ranked V W → Ranked V W → Type 0
  Before x y = (K.cmp x.first y.first ≡ Less) ⊎ ((K.cmp x.first y.first ≡ Equal) × (M.cmp x.second y.second ≡ Less))

  pub before_from_less : (x y : Ranked V W) → (ranked_kind K M).cmp x y ≡ Less → Before x y
  before_from_less x y e = then_less (K.cmp x.first y.first) (M.cmp x.second y.second) e

  pub less_from_before : (x y : Ranked V W) → Before x y → (ranked_kind K M).cmp x y ≡ Less
  less_from_before x y (inl e) = ap (λ o. ordering_then o (M.cmp x.second y.second)) e
  less_from_before x y (inr e) = ap₂ ordering_then e.0 e.1

module _ {V W : Type 0} {K : Kind V} {M : Kind W} (L : Lawful K) (N : Lawful M) where
  before_trans : (x y z : Ranked V W) → (ranked_kind K M).weight x + (ranked_kind K M).weight y + (ranked_kind K M).weight z ≤ law_limit → Before K M x y → Before K M y z → Before K M x z
  before_trans x y z w (inl e) (inl f) = inl (L.trans x.first y.first z.first (omega arith) e f)
  before_trans x y z w (inl e) (inr f) = inl (ap (K.cmp x.first) (sym (L.same y.first z.first (omega arith) f.0)) ∙ e)
  before_trans x y z w (inr e) (inl f) = inl (ap (λ u. K.cmp u z.first) (L.same x.first y.first (omega arith) e.0) ∙ f)
  before_trans x y z w (inr e) (inr f) =
      inr (ap (λ u. K.cmp u z.first) (L.same x.first y.first (omega arith) e.0) ∙ f.0, N.trans x.second y.second z.second (omega arith) e.1 f.1)

  pub ranked_lawful : Lawful (ranked_kind K M)
  ranked_lawful = record {
    none_weight = omega (arith, L.none_weight, N.none_weight);
    minus_weight = λ x w. ap₂ max (L.minus_weight _ (omega arith)) (N.minus_weight _ (omega arith));
    plus_weight = λ x y w. omega (arith, L.plus_weight x.first y.first (omega arith), N.plus_weight x.second y.second (omega arith));
    unit = λ x w. ap₂ ranked (L.unit _ (omega arith)) (N.unit _ (omega arith));
    inverse = λ x w. ap₂ ranked (L.inverse _ (omega arith)) (N.inverse _ (omega arith));
    comm = λ x y w. ap₂ ranked (L.comm _ _ (omega arith)) (N.comm _ _ (omega arith));
    assoc = λ x y z w. ap₂ ranked (L.assoc _ _ _ (omega arith)) (N.assoc _ _ _ (omega arith));
    turn = λ x y w. ap₂ ordering_then (L.turn _ _ (omega arith)) (N.turn _ _ (omega arith)) ∙ then_turn (K.cmp x.first y.first) (M.cmp x.second y.second);
    itself = λ x w. ap₂ ordering_then (L.itself _ (omega arith)) (N.itself _ (omega arith));
    same = λ x y w e.
        let s = then_equal _ _ e in
        ap₂ ranked (L.same _ _ (omega arith) s.0) (N.same _ _ (omega arith) s.1);
    trans = λ x y z w e f. less_from_before K M x z (before_trans x y z w (before_from_less K M x y e) (before_from_less K M y z f));
    shift = λ x y z w. ap₂ ordering_then (L.shift _ _ _ (omega arith)) (N.shift _ _ _ (omega arith));
  }
