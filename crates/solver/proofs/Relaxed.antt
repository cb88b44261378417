-- The arcs out of a settled node, as the code takes them: one that is offered, some that are not there, and one after another. Assumes nothing.
use Rattle.std.proofs.Common.{◌≡◌, ℕ, suc, ◌+◌, ◌<◌, ◌≤◌, Bool, true, false, Option, sym, refl, ap, ◌∙◌, subst, subst₂, inl, ⊎_elim, arith}
use mathlib.Core.Path.{fun_ext}
use Rattle.std.specs.Ordering.{is_lt}
use Rattle.std.proofs.lemmas.Bool.{cases_eq, cases_lt, cases_Bool, both_ways}
use Rattle.amounts.specs.declared.money.Money.{Money}
use Rattle.amounts.specs.declared.ranked.Ranked.{Ranked}
use Rattle.amounts.specs.Kind.{Kind, Lawful, law_limit, AtMost}
use Rattle.amounts.proofs.Order.{at_most_unless_less}
use Rattle.plans.specs.Places.{at}
use Rattle.plans.specs.Problem.{Problem}
use Rattle.solver.specs.declared.arcs.Arc.{Arc}
use Rattle.solver.specs.declared.state.State.{State}
use Rattle.solver.specs.Soft.{soft_kind, softened}
use Rattle.solver.specs.Residual.{Live, head, tail}
use Rattle.solver.specs.Search.{nodes, stage, FromOrigins, Last}
use Rattle.solver.specs.Flows.{soft_charges, Taking, Next, SearchKept}
use Rattle.solver.specs.Held.{label, Memory, old_of, new_of, seen_of, rank_of, via_of, takes, Kept, SameAt, Offered, word_at, SearchableIn, TakingIn, offer_in, Relaxes}
use Rattle.solver.proofs.Soft.{soft_lawful}
use Rattle.solver.proofs.Begin.{search_steps}
use Rattle.solver.proofs.Paths.{all_light, offer_light}
use Rattle.solver.proofs.Banks.{bank_in}
use Rattle.plans.proofs.Verdicts.{lt_less}
use Rattle.solver.proofs.Picked.{less_was}
use Rattle.solver.proofs.Offering.{takes_settled, takes_unseen, takes_seen}
use Rattle.solver.specs.States.{sent_of, words_of}

module _ {V : Type 0} {K : Kind V} (L : Lawful K) (B : Problem V) (state : State) where
  K' : Kind (Ranked Money V)
  K' = soft_kind K

  -- the ranks are the same
  taking_ranks : (origin : ℕ → Bool) (begin pot : ℕ → Ranked Money V) (m m' : Memory V) (t u s : ℕ) → rank_of m' ≡ rank_of m →
      Taking (soft_kind K) (softened B) (soft_charges K B) (word_at (words_of state)) (FromOrigins origin begin) (at (sent_of state)) (at state.counts) pot t (new_of K m') (seen_of m') (rank_of m) (via_of m') u s → TakingIn K B state origin begin pot m' t u s
  taking_ranks origin begin pot m m' t u s r h =
      subst (λ r. Taking (soft_kind K) (softened B) (soft_charges K B) (word_at (words_of state)) (FromOrigins origin begin) (at (sent_of state)) (at state.counts) pot t (new_of K m') (seen_of m') r (via_of m') u s) (sym r) h

  -- what is known of the nodes is the same, so the search is where it was
  taking_same : (origin : ℕ → Bool) (begin pot : ℕ → Ranked Money V) (m m' : Memory V) (t u s : ℕ) → new_of K m' ≡ new_of K m → seen_of m' ≡ seen_of m → via_of m' ≡ via_of m → rank_of m' ≡ rank_of m →
      TakingIn K B state origin begin pot m t u s → TakingIn K B state origin begin pot m' t u s
  taking_same origin begin pot m m' t u s d e v r h =
      let T : (ℕ → Ranked Money V) → (ℕ → Bool) → (ℕ → ℕ) → (ℕ → Option Arc) → Type 0 =
      λ d seen rank via. Taking (soft_kind K) (softened B) (soft_charges K B) (word_at (words_of state)) (FromOrigins origin begin) (at (sent_of state)) (at state.counts) pot t d seen rank via u s in
      let h₁ = subst (λ d. T d (seen_of m) (rank_of m) (via_of m)) (sym d) h in
      let h₂ = subst (λ e. T (new_of K m') e (rank_of m) (via_of m)) (sym e) h₁ in
      taking_ranks origin begin pot m m' t u s r (subst (λ v. T (new_of K m') (seen_of m') (rank_of m) v) (sym v) h₂)

  kept_none : (m : Memory V) → Kept K m m
  kept_none m = record { old = refl; ranks = refl }

  -- there are no such arcs
  pub relaxes_none : (m : Memory V) (u s s' : ℕ) → ((origin : ℕ → Bool) (begin : ℕ → Ranked Money V) → SearchableIn K B state origin begin (old_of K m) → (a : Arc) → Live (softened B) (word_at (words_of state)) a → tail (softened B) (at (sent_of state)) a ≡ u → s ≤ stage a → stage a < s' → ⊥) →
      Relaxes K B state m m u s s'
  relaxes_none m u s s' gap = record {
    kept = kept_none m;
    taking = λ origin begin t g h. (search_steps (soft_lawful L) (softened B) (soft_charges K B) (word_at (words_of state)) origin begin (at (sent_of state)) (at state.counts) (old_of K m) g
        ).skips t (new_of K m) (seen_of m) (rank_of m) (via_of m) u s s' h (gap origin begin g);
  }

  -- first some and then some more
  pub relaxes_more : (m m₁ m₂ : Memory V) (u s s₁ s₂ : ℕ) → Relaxes K B state m m₁ u s s₁ → Relaxes K B state m₁ m₂ u s₁ s₂ → Relaxes K B state m m₂ u s s₂
  relaxes_more m m₁ m₂ u s s₁ s₂ x y = record {
    kept = record { old = y.kept.old ∙ x.kept.old; ranks = y.kept.ranks ∙ x.kept.ranks };
    taking = λ origin begin t g h.
        subst (λ pot. SearchableIn K B state origin begin pot → TakingIn K B state origin begin pot m₁ t u s₁ → TakingIn K B state origin begin pot m₂ t u s₂) x.kept.old (y.taking origin begin t) g (x.taking origin begin t g h);
  }

  module _ (m m' : Memory V) (a : Arc) (u s : ℕ) (o : Offered K m m' (head (softened B) a) (offer_in K B state m a) a)
      (live : Live (softened B) (word_at (words_of state)) a) (from : tail (softened B) (at (sent_of state)) a ≡ u) (at' : stage a ≡ s) where
    v₀ : ℕ
    v₀ = head (softened B) a

    x₀ : Ranked Money V
    x₀ = offer_in K B state m a

    module _ (origin : ℕ → Bool) (begin : ℕ → Ranked Money V) (t : ℕ) (g : SearchableIn K B state origin begin (old_of K m)) (h : TakingIn K B state origin begin (old_of K m) m t u s) where
      next : Next K' (softened B) (soft_charges K B) (word_at (words_of state)) (FromOrigins origin begin) (at (sent_of state)) (at state.counts) (old_of K m) u s a
      unfolding K'
      next = record { live = live; from = from; at = at' }

      steps : SearchKept K' (softened B) (soft_charges K B) (word_at (words_of state)) (FromOrigins origin begin) (at (sent_of state)) (at state.counts) (old_of K m)
      unfolding K'
      steps = search_steps (soft_lawful L) (softened B) (soft_charges K B) (word_at (words_of state)) origin begin (at (sent_of state)) (at state.counts) (old_of K m) g

      -- the node keeps its label: it is as good already
      keeps : takes K m v₀ x₀ ≡ false → seen_of m v₀ ≡ true → AtMost K' (new_of K m v₀) x₀ → TakingIn K B state origin begin (old_of K m) m' t u (suc s)
      unfolding K' v₀ x₀
      keeps e sv le =
          let same : (v : ℕ) → SameAt K m m' v = λ v. ⊎_elim (λ (q : v ≡ head (softened B) a). subst (SameAt K m m') (sym q) (o.left e)) (λ (n : v ≡ head (softened B) a → ⊥). o.others v n) (cases_eq v (head (softened B) a)) in
          taking_same origin begin (old_of K m) m m' t u (suc s) (fun_ext (λ v. (same v).label)) (fun_ext (λ v. (same v).seen)) (fun_ext (λ v. (same v).via)) o.kept.ranks
          (steps.keeps t (new_of K m) (seen_of m) (rank_of m) (via_of m) u s a h next sv le)

      settled : rank_of m v₀ < nodes → TakingIn K B state origin begin (old_of K m) m' t u (suc s)
      unfolding K' v₀ x₀
      settled r = keeps (takes_settled K m v₀ x₀ r) (h.searching.ranked v₀ r).1 (steps.no_better t (new_of K m) (seen_of m) (rank_of m) (via_of m) u s a h next r)

      hu : rank_of m (tail (softened B) (at (sent_of state)) a) < nodes
      hu = rw from h.settled

      light : K'.weight x₀ + K'.weight (new_of K m v₀) ≤ law_limit
      unfolding law_limit K' v₀ x₀
      light =
          let last = subst (Last K' (softened B) (soft_charges K B) (word_at (words_of state)) (FromOrigins origin begin) (at (sent_of state)) (at state.counts) (old_of K m) (new_of K m) (rank_of m)) (sym from) h.last in
          omega (
            arith,
            offer_light (soft_lawful L) (softened B) (soft_charges K B) (word_at (words_of state)) (FromOrigins origin begin) (at (sent_of state)) (at state.counts) (old_of K m) g _ t (new_of K m) (seen_of m) (rank_of m) (via_of m) h.searching a live hu last,
            all_light (soft_lawful L) (softened B) (soft_charges K B) (word_at (words_of state)) (FromOrigins origin begin) (at (sent_of state)) (at state.counts) (old_of K m) g _ t (new_of K m) (seen_of m) (rank_of m) (via_of m) h.searching v₀,
          )

      lowers : nodes ≤ rank_of m v₀ → takes K m v₀ x₀ ≡ true → (seen_of m v₀ ≡ true → AtMost K' x₀ (new_of K m v₀)) → TakingIn K B state origin begin (old_of K m) m' t u (suc s)
      unfolding K' v₀ x₀
      lowers r e le =
          let now = o.taken e in
          taking_ranks origin begin (old_of K m) m m' t u (suc s) o.kept.ranks
          (steps.lowers t (new_of K m) (new_of K m') (seen_of m) (seen_of m') (rank_of m) (via_of m) (via_of m') u s a h next r le now.0 now.1 now.2 (λ v n. let q = o.others v n in (q.label, q.seen, q.via)))

      unsettled : nodes ≤ rank_of m v₀ → TakingIn K B state origin begin (old_of K m) m' t u (suc s)
      unfolding K'
      unsettled r = ⊎_elim
          (λ (sv : seen_of m v₀ ≡ true). ⊎_elim
          (λ (e : is_lt (K'.cmp x₀ (new_of K m v₀)) ≡ true). lowers r (takes_seen K m v₀ x₀ r sv ∙ e) (λ _. inl (lt_less _ e)))
          (λ (e : is_lt (K'.cmp x₀ (new_of K m v₀)) ≡ false). keeps (takes_seen K m v₀ x₀ r sv ∙ e) sv (at_most_unless_less (soft_lawful L) x₀ (new_of K m v₀) light (less_was _ e)))
          (cases_Bool (is_lt (K'.cmp x₀ (new_of K m v₀)))))
          (λ (sv : seen_of m v₀ ≡ false). lowers r (takes_unseen K m v₀ x₀ r sv) (λ q. absurd (both_ways (seen_of m v₀) sv q)))
          (cases_Bool (seen_of m v₀))

      taking : TakingIn K B state origin begin (old_of K m) m' t u (suc s)
      taking = ⊎_elim settled unsettled (cases_lt (rank_of m v₀) nodes)

    pub relaxes_offer : Relaxes K B state m m' u s (suc s)
    relaxes_offer = record { kept = o.kept; taking = taking }

  -- an arc as the code takes it: the labels are read first, which leaves them as they are
  pub relaxes_arc : (m m₁ m' : Memory V) (a : Arc) (v u s : ℕ) (x : Ranked Money V) → m₁ ≡ m → v ≡ head (softened B) a → x ≡ offer_in K B state m a →
      Offered K m₁ m' v x a → Live (softened B) (word_at (words_of state)) a → tail (softened B) (at (sent_of state)) a ≡ u → stage a ≡ s → Relaxes K B state m m' u s (suc s)
  relaxes_arc m m₁ m' a v u s x same e q o live from at' =
      let o₁ = subst (λ m. Offered K m m' v x a) same o in
      let o₂ = subst₂ (λ v x. Offered K m m' v x a) e q o₁ in
      relaxes_offer m m' a u s o₂ live from at'

-- a label that was read is the new label of the node
pub read_new : {V : Type 0} (K : Kind V) (m : Memory V) (n u : ℕ) (x : Ranked Money V) → u < nodes → n ≡ u → x ≡ label K m.heads m.sheet (nodes + n) → x ≡ new_of K m u
read_new K m n u x l e q = q ∙ ap (λ n. label K m.heads m.sheet (nodes + n)) e ∙ sym (bank_in K nodes m.heads m.sheet u l)
