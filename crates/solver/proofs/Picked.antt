-- The node with the least key, as the code finds it: node by node. Assumes nothing.
use Rattle.std.proofs.Common.{◌≡◌, ℕ, ◌+◌, ◌*◌, ◌^◌, ◌<◌, ◌≤◌, Bool, true, false, cond, Some, None, Option, Ordering, Less, sym, refl, ap, ◌∙◌, subst, inl, inr, arith, below_more, MatchOption}
use Rattle.std.specs.Ordering.{is_lt}
use Rattle.std.proofs.lemmas.Bool.{both_ways}
use Rattle.amounts.specs.declared.money.Money.{Money}
use Rattle.amounts.specs.declared.ranked.Ranked.{Ranked}
use Rattle.amounts.specs.Kind.{Kind, Lawful, law_limit, AtMost}
use Rattle.amounts.proofs.Order.{at_most_trans, at_most_unless_less}
use Rattle.plans.proofs.Verdicts.{lt_less}
use Rattle.solver.specs.declared.choices.Choice.{Choice}
use Rattle.solver.specs.Search.{nodes}
use Rattle.solver.specs.Soft.{soft_kind}
use Rattle.solver.specs.Choosing.{cheaper}
use Rattle.solver.specs.Held.{Memory, old_of, new_of, open_of, key_of, LightNodes, NoneOpen, NearestOpen}
use Rattle.solver.proofs.Soft.{soft_lawful}

pub less_was : (o : Ordering) → is_lt o ≡ false → o ≡ Less → ⊥
less_was o e l = both_ways (is_lt o) e (ap is_lt l)

module _ {V : Type 0} (K : Kind V) (m : Memory V) where
  -- the best of the nodes below i
  pub record Best (i : ℕ) (k : Choice (Ranked Money V)) : Type 0 where
    pub below : k.place < i
    pub is_open : open_of m k.place ≡ true
    pub key : k.cost ≡ key_of K m k.place
    pub least : LightNodes K (old_of K m) → LightNodes K (new_of K m) → (v : ℕ) → v < i → open_of m v ≡ true → AtMost (soft_kind K) k.cost (key_of K m v)

  abbrev pub Scan : ℕ → Option (Choice (Ranked Money V)) → Type 0
  Scan i found = MatchOption found ((v : ℕ) → v < i → open_of m v ≡ false) (Best i)

  pub scan_shut : (i : ℕ) (found : Option (Choice (Ranked Money V))) → Scan i found → open_of m i ≡ false → Scan (i + 1) found
  scan_shut i None s e = below_more (λ v. open_of m v ≡ false) i s e
  scan_shut i (Some k) s e = record {
    below = omega (arith, s.below);
    is_open = s.is_open;
    key = s.key;
    least = λ old new. below_more (λ v. open_of m v ≡ true → AtMost (soft_kind K) k.cost (key_of K m v)) i (s.least old new) (λ q. absurd (both_ways (open_of m i) e q));
  }

  pub scan_all : (found : Option (Choice (Ranked Money V))) → Scan nodes found → MatchOption found (NoneOpen m) (λ k. NearestOpen K m k.place)
  scan_all None s = s
  scan_all (Some k) s = record { within = s.below; is_open = s.is_open; least = λ old new v l e. subst (λ x. AtMost (soft_kind K) x (key_of K m v)) s.key (s.least old new v l e) }

module _ {V : Type 0} {K : Kind V} (L : Lawful K) (m : Memory V) where
  pub key_light : LightNodes K (old_of K m) → LightNodes K (new_of K m) → (v : ℕ) → (soft_kind K).weight (key_of K m v) ≤ 52 * 10 ^ 10
  unfolding law_limit
  key_light old new v =
      let L' = soft_lawful L in
      let o = L'.minus_weight (old_of K m v) (omega (arith, old v)) in
      omega (arith, new v, old v, o, L'.plus_weight (new_of K m v) ((soft_kind K).minus (old_of K m v)) (omega (arith, new v, old v, o)))

  -- the node i is better than those before
  scan_first : (i : ℕ) → ((v : ℕ) → v < i → open_of m v ≡ false) → (more : Choice (Ranked Money V)) → open_of m i ≡ true → more.place ≡ i → more.cost ≡ key_of K m i → Best K m (i + 1) more
  scan_first i none more e n q = record {
    below = omega arith;
    is_open = ap (open_of m) n ∙ e;
    key = q ∙ ap (key_of K m) (sym n);
    least = λ old new. below_more (λ v. open_of m v ≡ true → AtMost (soft_kind K) more.cost (key_of K m v)) i (λ v l o. absurd (both_ways (open_of m v) (none v l) o)) (λ _. inr q);
  }

  scan_better : (i : ℕ) (best more : Choice (Ranked Money V)) → Best K m i best → open_of m i ≡ true → more.place ≡ i → more.cost ≡ key_of K m i → is_lt ((soft_kind K).cmp more.cost best.cost) ≡ true → Best K m (i + 1) more
  unfolding law_limit
  scan_better i best more s e n q less = record {
    below = omega arith;
    is_open = ap (open_of m) n ∙ e;
    key = q ∙ ap (key_of K m) (sym n);
    least = λ old new. below_more (λ v. open_of m v ≡ true → AtMost (soft_kind K) more.cost (key_of K m v)) i
        (λ v l o. at_most_trans (soft_lawful L) more.cost best.cost (key_of K m v)
        (omega (arith, ap (soft_kind K).weight q, key_light old new i, ap (soft_kind K).weight s.key, key_light old new best.place, key_light old new v)) (inl (lt_less _ less)) (s.least old new v l o)) (λ _. inr q);
  }

  scan_worse : (i : ℕ) (best more : Choice (Ranked Money V)) → Best K m i best → more.cost ≡ key_of K m i → is_lt ((soft_kind K).cmp more.cost best.cost) ≡ false → Best K m (i + 1) best
  unfolding law_limit
  scan_worse i best more s q less = record {
    below = omega (arith, s.below);
    is_open = s.is_open;
    key = s.key;
    least = λ old new. below_more (λ v. open_of m v ≡ true → AtMost (soft_kind K) best.cost (key_of K m v)) i (s.least old new)
        (λ _. subst (AtMost (soft_kind K) best.cost) q (at_most_unless_less (soft_lawful L) more.cost best.cost (omega (arith, ap (soft_kind K).weight q, key_light old new i, ap (soft_kind K).weight s.key, key_light old new best.place)) (less_was _ less)));
  }

  pub scan_open : (i : ℕ) (found : Option (Choice (Ranked Money V))) (more : Choice (Ranked Money V)) → Scan K m i found → open_of m i ≡ true → more.place ≡ i → more.cost ≡ key_of K m i → Best K m (i + 1) (cheaper (soft_kind K) found more)
  scan_open i None more s e n q = scan_first i s more e n q
  scan_open i (Some best) more s e n q = go (is_lt ((soft_kind K).cmp more.cost best.cost)) refl
    where
      go : (t : Bool) → is_lt ((soft_kind K).cmp more.cost best.cost) ≡ t → Best K m (i + 1) (cond t more best)
      go true less = scan_better i best more s e n q less
      go false less = scan_worse i best more s q less
