-- The loop of the search: how it begins, goes on and ends. Assumes nothing.
use Rattle.std.proofs.Common.{◌≡◌, ℕ, suc, ◌*◌, ◌^◌, ◌<◌, ◌≤◌, Bool, true, false, ltb, leb, [], ◌∷◌, length, None, Option, sym, refl, ◌∙◌, subst, ap₂, subst₂, inr, ⊎_elim, arith}
use mathlib.Core.Path.{fun_ext}
use Rattle.std.proofs.lemmas.Bool.{cases_lt, cases_Bool, both_ways, and_parts, and_from, leb-true, le-leb, ltb-true}
use Rattle.amounts.specs.declared.money.Money.{Money}
use Rattle.amounts.specs.declared.ranked.Ranked.{Ranked}
use Rattle.amounts.specs.Kind.{Kind, Lawful, law_limit, AtMost}
use Rattle.amounts.proofs.Numbers.{tally_miss}
use Rattle.amounts.proofs.Solve.{var, ◌⊕◌, ⊖, linear}
use Rattle.plans.specs.Places.{at}
use Rattle.plans.specs.Problem.{Problem}
use Rattle.solver.specs.declared.arcs.Arc.{Arc}
use Rattle.solver.specs.declared.state.State.{State}
use Rattle.solver.specs.Soft.{soft_kind, softened}
use Rattle.solver.specs.Search.{nodes, stages, FromOrigins, Before}
use Rattle.solver.specs.Flows.{soft_charges, Taking, SearchKept}
use Rattle.solver.specs.Held.{bank, Memory, old_of, new_of, seen_of, rank_of, via_of, open_of, key_of, NoneOpen, NearestOpen, word_at, SearchableIn, TakingIn, SeeksIn, Settled, Relaxes, Searches}
use Rattle.solver.proofs.Soft.{soft_lawful}
use Rattle.solver.proofs.Begin.{search_steps}
use Rattle.solver.proofs.Marked.{seen_within}
use Rattle.solver.proofs.Paths.{all_light}
use Rattle.solver.specs.States.{sent_of, words_of}

module _ {V : Type 0} {K : Kind V} (L : Lawful K) (B : Problem V) (state : State) where
  -- t turns were made since the search began
  pub record Sought (m₀ m : Memory V) (t : ℕ) : Type 0 where
    pub old : old_of K m ≡ old_of K m₀
    pub seeks : SearchableIn K B state (seen_of m₀) (new_of K m₀) (old_of K m₀) → ((v : ℕ) → nodes ≤ rank_of m₀ v) → ((v : ℕ) → via_of m₀ v ≡ None) → ((v : ℕ) → (soft_kind K).weight (new_of K m₀ v) ≤ 10 ^ 9) →
        SeeksIn K B state (seen_of m₀) (new_of K m₀) (old_of K m₀) m t

  steps : (m : Memory V) (origin : ℕ → Bool) (begin pot : ℕ → Ranked Money V) → SearchableIn K B state origin begin pot → SearchKept (soft_kind K) (softened B) (soft_charges K B) (word_at (words_of state)) (FromOrigins origin begin) (at (sent_of state)) (at state.counts) pot
  steps m origin begin pot g = search_steps (soft_lawful L) (softened B) (soft_charges K B) (word_at (words_of state)) origin begin (at (sent_of state)) (at state.counts) pot g

  pub sought_begin : (m : Memory V) → length m.marks ≡ 129 → Sought m m 0
  sought_begin m len = record {
    old = refl;
    seeks = λ g late new light. (steps m (seen_of m) (new_of K m) (old_of K m) g).begins (new_of K m) (seen_of m) (rank_of m) (via_of m) late new (λ v s. (seen_within m len v s, s, refl)) (λ v s h. (h.1, inr (sym h.2))) light;
  }

  -- by the keys, u comes before v
  before : (m : Memory V) (origin : ℕ → Bool) (begin : ℕ → Ranked Money V) → ((v : ℕ) → (soft_kind K).weight (new_of K m v) ≤ 26 * 10 ^ 10) → ((v : ℕ) → (soft_kind K).weight (old_of K m v) ≤ 26 * 10 ^ 10) → (u v : ℕ) → AtMost (soft_kind K) (key_of K m u) (key_of K m v) →
      AtMost (soft_kind K) ((soft_kind K).plus (new_of K m u) (old_of K m v)) ((soft_kind K).plus (new_of K m v) (old_of K m u))
  unfolding law_limit
  before m origin begin new old u v h =
      linear (soft_lawful L) (new_of K m u ∷ old_of K m u ∷ new_of K m v ∷ old_of K m v ∷ []) ((var 0 ⊕ ⊖ (var 1), var 2 ⊕ ⊖ (var 3)) ∷ []) (var 0 ⊕ var 3) (var 2 ⊕ var 1) (h, tt) (omega (arith, new u, new v, old u, old v)) refl

  module _ (m₀ m m₁ m' : Memory V) (t u : ℕ) (i : Sought m₀ m t) (n : NearestOpen K m u) (len : length m.marks ≡ 129) (d : Settled m m₁ u t) (r : Relaxes K B state m₁ m' u 0 stages) where
    parts : (seen_of m u ≡ true) × (leb nodes (rank_of m u) ≡ true)
    parts = and_parts (seen_of m u) (leb nodes (rank_of m u)) n.is_open

    module _ (g : SearchableIn K B state (seen_of m₀) (new_of K m₀) (old_of K m₀)) (late : (v : ℕ) → nodes ≤ rank_of m₀ v) (new : (v : ℕ) → via_of m₀ v ≡ None) (light : (v : ℕ) → (soft_kind K).weight (new_of K m₀ v) ≤ 10 ^ 9) where
      s : SeeksIn K B state (seen_of m₀) (new_of K m₀) (old_of K m₀) m t
      s = i.seeks g late new light

      light_new : (v : ℕ) → (soft_kind K).weight (new_of K m v) ≤ 26 * 10 ^ 10
      light_new = all_light (soft_lawful L) (softened B) (soft_charges K B) (word_at (words_of state)) (FromOrigins (seen_of m₀) (new_of K m₀)) (at (sent_of state)) (at state.counts) (old_of K m₀) g _ t (new_of K m) (seen_of m) (rank_of m) (via_of m) s

      light_old : (v : ℕ) → (soft_kind K).weight (old_of K m v) ≤ 26 * 10 ^ 10
      light_old v = subst (λ l. (soft_kind K).weight (l v) ≤ 26 * 10 ^ 10) (sym i.old) (g.light v)

      least : (v : ℕ) → seen_of m v ≡ true → nodes ≤ rank_of m v → Before (soft_kind K) (softened B) (soft_charges K B) (word_at (words_of state)) (FromOrigins (seen_of m₀) (new_of K m₀)) (at (sent_of state)) (at state.counts) (old_of K m₀) (new_of K m) u v
      least v sv rv =
          let b = before m (seen_of m₀) (new_of K m₀) light_new light_old u v (n.least light_old light_new v (seen_within m len v sv) (and_from _ _ sv (le-leb nodes (rank_of m v) rv))) in
          subst (λ l. AtMost (soft_kind K) ((soft_kind K).plus (new_of K m u) (l v)) ((soft_kind K).plus (new_of K m v) (l u))) i.old b

      -- the labels are the same
      new_same : new_of K m₁ ≡ new_of K m
      new_same = ap₂ (bank K nodes) d.heads d.sheet

      old_same : old_of K m₁ ≡ old_of K m
      old_same = ap₂ (bank K 0) d.heads d.sheet

      settled : TakingIn K B state (seen_of m₀) (new_of K m₀) (old_of K m₀) m₁ (suc t) u 0
      settled =
          let T : (ℕ → Ranked Money V) → (ℕ → Bool) → (ℕ → Option Arc) → Type 0 =
          λ l seen via. Taking (soft_kind K) (softened B) (soft_charges K B) (word_at (words_of state)) (FromOrigins (seen_of m₀) (new_of K m₀)) (at (sent_of state)) (at state.counts) (old_of K m₀) (suc t) l seen (rank_of m₁) via u 0 in
          let s₀ : T (new_of K m) (seen_of m) (via_of m) = ((steps m (seen_of m₀) (new_of K m₀) (old_of K m₀) g).settles t (new_of K m) (seen_of m) (rank_of m) (rank_of m₁) (via_of m) u s n.within parts.0 (leb-true nodes (rank_of m u) parts.1) least d.rank d.ranks).1 in
          let s₁ = subst (λ l. T l (seen_of m) (via_of m)) (sym new_same) s₀ in
          subst₂ (T (new_of K m₁)) (sym (fun_ext d.seen)) (sym (fun_ext d.via)) s₁

      next : SeeksIn K B state (seen_of m₀) (new_of K m₀) (old_of K m₀) m' (suc t)
      next =
          let taking = subst (λ l. SearchableIn K B state (seen_of m₀) (new_of K m₀) l → TakingIn K B state (seen_of m₀) (new_of K m₀) l m₁ (suc t) u 0 → TakingIn K B state (seen_of m₀) (new_of K m₀) l m' (suc t) u stages) (old_same ∙ i.old) (r.taking (seen_of m₀) (new_of K m₀) (suc t)) in
          (steps m (seen_of m₀) (new_of K m₀) (old_of K m₀) g).goes_on (suc t) (new_of K m') (seen_of m') (rank_of m') (via_of m') u (taking g settled)

    pub sought_next : Sought m₀ m' (suc t)
    sought_next = record { old = r.kept.old ∙ ap₂ (bank K 0) d.heads d.sheet ∙ i.old; seeks = next }

  -- no node is left
  pub sought_end : (m₀ m : Memory V) (t : ℕ) → Sought m₀ m t → length m.marks ≡ 129 → NoneOpen m → Searches K B state m₀ m
  sought_end m₀ m t i len none = record {
    old = i.old;
    ended = λ g late new light. (t, i.seeks g late new light, λ v sv. ⊎_elim (λ (l : rank_of m v < nodes). l) (λ (l : nodes ≤ rank_of m v). absurd (both_ways (open_of m v) (none v (seen_within m len v sv)) (and_from _ _ sv (le-leb nodes (rank_of m v) l)))) (cases_lt (rank_of m v) nodes));
  }

  -- every node is settled
  pub sought_all : (m₀ m : Memory V) → Sought m₀ m nodes → length m.marks ≡ 129 → Searches K B state m₀ m
  sought_all m₀ m i len = record {
    old = i.old;
    ended = λ g late new light.
        let s = i.seeks g late new light in
        (nodes, s, λ v sv. ⊎_elim (λ (e : ltb (rank_of m v) nodes ≡ true). ltb-true (rank_of m v) nodes e) (λ (e : ltb (rank_of m v) nodes ≡ false). let h = tally_miss nodes v (λ v. ltb (rank_of m v) nodes) (seen_within m len v sv) e in absurd (omega (arith, h, s.counted))) (cases_Bool (ltb (rank_of m v) nodes)));
  }
