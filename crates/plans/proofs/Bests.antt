-- The computed answer to the question for the best plan is the related one. Assumes nothing.
use Rattle.std.proofs.Common.{◌≡◌, ℕ, ◌*◌, ◌^◌, ◌≤◌, Bool, true, false, cond, List, [], ◌∷◌, Some, None, Option, sym, refl, ap, ◌∙◌, subst, inl, inr, arith}
use Rattle.std.specs.Ordering.{is_le}
use Rattle.std.proofs.lemmas.Bool.{both_ways}
use Rattle.amounts.specs.Kind.{Kind, Lawful, law_limit, AtMost, smaller}
use Rattle.amounts.specs.Least.{better}
use Rattle.amounts.proofs.Order.{picked_either, at_most_trans, at_most_both, at_most_from_le, le_from_at_most, smaller_left, smaller_right}
use Rattle.plans.specs.Problem.{Problem, Plan, NoPlan, total, Within, Least, Dear}
use Rattle.plans.specs.Trials.{assignments, sends, is_plan, least_among, least_total, Answer, best, no_plan, dear, judged, best_answer}
use Rattle.plans.specs.Theorems.{Iff, Sound, BestIs, OneOfThree}
use Rattle.plans.proofs.Duality.{total_light}
use Rattle.plans.proofs.Listing.{In, listed, in_assignments}
use Rattle.plans.proofs.Keeping.{plan_of, plan_passes, plan_alike, total_alike, listed_alike}

module _ {V : Type 0} {K : Kind V} (L : Lawful K) (B : Problem V) (s : Sound K B) where
  -- the total of the assignment that a list is
  abbrev sum_of : List ℕ → V
  sum_of ws = total K B (sends ws)

  sum_light : (ws : List ℕ) → is_plan B (sends ws) ≡ true → K.weight (sum_of ws) ≤ 120 * 10 ^ 9
  sum_light ws e = total_light L B s (sends ws) (plan_of B (sends ws) e).sent

  -- t is the total of a plan among the lists
  abbrev Reached : List (List ℕ) → V → Type 0
  Reached xs t = (ws : List ℕ) × In ws xs × (is_plan B (sends ws) ≡ true) × (sum_of ws ≡ t)

  -- t is at most the total of each plan among them
  abbrev Low : List (List ℕ) → V → Type 0
  Low xs t = (ws : List ℕ) → In ws xs → is_plan B (sends ws) ≡ true → AtMost K t (sum_of ws)

  abbrev IsLeast : List (List ℕ) → Option V → Type 0
  IsLeast xs None = (ws : List ℕ) → In ws xs → is_plan B (sends ws) ≡ true → ⊥
  IsLeast xs (Some t) = Reached xs t × Low xs t

  later : (x : List ℕ) (xs : List (List ℕ)) (t : V) → Reached xs t → Reached (x ∷ xs) t
  later x xs t r = (r.0, inr r.1, r.2, r.3)

  first : (x : List ℕ) (xs : List (List ℕ)) → is_plan B (sends x) ≡ true → Reached (x ∷ xs) (sum_of x)
  first x xs e = (x, inl refl, e, refl)

  low_more : (x : List ℕ) (xs : List (List ℕ)) (t : V) → (is_plan B (sends x) ≡ true → AtMost K t (sum_of x)) → Low xs t → Low (x ∷ xs) t
  low_more x xs t here rest ws (inl q) e = subst (λ v. AtMost K t (sum_of v)) (sym q) (here (ap (λ v. is_plan B (sends v)) (sym q) ∙ e))
  low_more x xs t here rest ws (inr i) e = rest ws i e

  reached_light : (xs : List (List ℕ)) (t : V) → Reached xs t → K.weight t ≤ 120 * 10 ^ 9
  reached_light xs t r = subst (λ v. K.weight v ≤ 120 * 10 ^ 9) r.3 (sum_light r.0 r.2)

  least_step : (x : List ℕ) (xs : List (List ℕ)) (b : Bool) → is_plan B (sends x) ≡ b → (r : Option V) → IsLeast xs r → IsLeast (x ∷ xs) (cond b (Some (better K r (sum_of x))) r)
  unfolding law_limit
  least_step x xs false e None i = none_more
    where
      none_more : (ws : List ℕ) → In ws (x ∷ xs) → is_plan B (sends ws) ≡ true → ⊥
      none_more ws (inl q) f = both_ways (is_plan B (sends x)) e (ap (λ v. is_plan B (sends v)) (sym q) ∙ f)
      none_more ws (inr j) f = i ws j f
  least_step x xs false e (Some t) i = (later x xs t i.0, low_more x xs t (λ f. absurd (both_ways (is_plan B (sends x)) e f)) i.1)
  least_step x xs true e None i = (first x xs e, low_more x xs (sum_of x) (λ _. inr refl) (λ ws j f. absurd (i ws j f)))
  least_step x xs true e (Some t) i =
      let wx = sum_light x e in
      let wt = reached_light xs t i.0 in
      let ws : K.weight (smaller K t (sum_of x)) ≤ 120 * 10 ^ 9 = picked_either K (λ y. K.weight y ≤ 120 * 10 ^ 9) t (sum_of x) (K.cmp t (sum_of x)) wt wx in (
        picked_either K (Reached (x ∷ xs)) t (sum_of x) (K.cmp t (sum_of x)) (later x xs t i.0) (first x xs e),
        low_more x xs (smaller K t (sum_of x)) (λ _. smaller_right L t (sum_of x) (omega arith))
            (λ v j f. let wv = sum_light v f in at_most_trans L (smaller K t (sum_of x)) t (sum_of v) (omega arith) (smaller_left L t (sum_of x) (omega arith)) (i.1 v j f)),
      )

  least_is : (xs : List (List ℕ)) → IsLeast xs (least_among K B xs)
  unfolding least_among
  least_is [] = λ ws i e. i
  least_is (x ∷ xs) = least_step x xs (is_plan B (sends x)) refl (least_among K B xs) (least_is xs)

  abbrev every_assignment : List (List ℕ)
  every_assignment = assignments B.books B.weekends

  -- a plan, found among the assignments
  found : (p : ℕ → ℕ) → Plan B p → (ws : List ℕ) × In ws every_assignment × (is_plan B (sends ws) ≡ true) × (sum_of ws ≡ total K B p)
  found p P =
      let ws = listed B.books p in
      (ws, in_assignments B.books B.weekends p P.sent, plan_passes B (sends ws) (plan_alike B p (sends ws) (listed_alike B p) P), sym (total_alike K B p (sends ws) (listed_alike B p)))

  low_all : (t : V) → Low every_assignment t → (p : ℕ → ℕ) → Plan B p → AtMost K t (total K B p)
  low_all t low p P = let f = found p P in subst (λ v. AtMost K t v) f.3 (low f.0 f.1 f.2)

  -- what an answer says
  record Says (r : Answer V) : Type 0 where
    best_says : (t : V) → Iff (r ≡ best t) ((p : ℕ → ℕ) × Least K B t p)
    no_plan_says : Iff (r ≡ no_plan) (NoPlan B)
    dear_says : Iff (r ≡ dear) (Dear K B)

  abbrev code : Answer V → ℕ
  code (best t) = 0
  code no_plan = 1
  code dear = 2

  abbrev total_or : V → Answer V → V
  total_or d (best t) = t
  total_or d no_plan = d
  total_or d dear = d

  says_none : IsLeast every_assignment None → Says no_plan
  says_none i =
      let none : NoPlan B = λ p P. let f = found p P in i f.0 f.1 f.2 in
      record {
        best_says = λ t. ((λ e. absurd (omega (arith, ap code e))), (λ h. absurd (none h.0 h.1.within.plan)));
        no_plan_says = ((λ _. none), (λ _. refl));
        dear_says = ((λ e. absurd (omega (arith, ap code e))), (λ h. absurd (none h.some.0 h.some.1)));
      }

  says_some : (t : V) → IsLeast every_assignment (Some t) → (b : Bool) → is_le (K.cmp t B.limit) ≡ b → Says (cond b (best t) dear)
  unfolding law_limit
  says_some t i true e =
      let p = sends i.0.0 in
      let P = plan_of B p i.0.2 in
      let low = low_all t i.1 in
      let wt = reached_light every_assignment t i.0 in
      let wl = s.limit in
      let cheap : AtMost K t B.limit = at_most_from_le L t B.limit (omega arith) e in
      let within : Within K B p = record { plan = P; cheap = subst (λ v. AtMost K v B.limit) (sym i.0.3) cheap } in
      let one : Least K B t p = record { within = within; is = i.0.3; least = low } in
      record {
        best_says = λ u. (
          (λ (e : best t ≡ best u). (p, subst (λ v. Least K B v p) (ap (total_or t) e) one)),
          (λ (h : (q : ℕ → ℕ) × Least K B u q).
              let Q = h.1.within.plan in
              let wq = total_light L B s h.0 Q.sent in
              let wu : K.weight u ≤ 120 * 10 ^ 9 = subst (λ v. K.weight v ≤ 120 * 10 ^ 9) h.1.is wq in
              ap best (at_most_both L t u (omega arith) (subst (λ v. AtMost K t v) h.1.is (low h.0 Q)) (subst (λ v. AtMost K u v) i.0.3 (h.1.least p P)))),
        );
        no_plan_says = ((λ e. absurd (omega (arith, ap code e))), (λ h. absurd (h p P)));
        dear_says = ((λ e. absurd (omega (arith, ap code e))), (λ h. absurd (h.none p within)));
      }
  says_some t i false e =
      let p = sends i.0.0 in
      let P = plan_of B p i.0.2 in
      let low = low_all t i.1 in
      let wt = reached_light every_assignment t i.0 in
      let wl = s.limit in
      let none : (q : ℕ → ℕ) → Within K B q → ⊥ = λ q W.
      let wq = total_light L B s q W.plan.sent in
      both_ways (is_le (K.cmp t B.limit)) e (le_from_at_most L t B.limit (omega arith) (at_most_trans L t (total K B q) B.limit (omega arith) (low q W.plan) W.cheap)) in
      record {
        best_says = λ u. ((λ e. absurd (omega (arith, ap code e))), (λ h. absurd (none h.0 h.1.within)));
        no_plan_says = ((λ e. absurd (omega (arith, ap code e))), (λ h. absurd (h p P)));
        dear_says = ((λ _. record { some = (p, P); none = none }), (λ _. refl));
      }

  says_judged : (r : Option V) → IsLeast every_assignment r → Says (judged K B r)
  says_judged None i = says_none i
  says_judged (Some t) i = says_some t i (is_le (K.cmp t B.limit)) refl

  pub best_is : BestIs K B
  unfolding best_answer least_total
  best_is =
      let said = says_judged (least_among K B every_assignment) (least_is every_assignment) in
      record { best_says = said.best_says; no_plan_says = said.no_plan_says; dear_says = said.dear_says }

  three : (r : Option V) → IsLeast every_assignment r → OneOfThree K B
  three None i = inr (inl ((says_none i).no_plan_says.0 refl))
  three (Some t) i = go (is_le (K.cmp t B.limit)) refl
    where
      go : (b : Bool) → is_le (K.cmp t B.limit) ≡ b → OneOfThree K B
      go true e = let h = ((says_some t i true e).best_says t).0 refl in inl (h.0, h.1.within)
      go false e = inr (inr ((says_some t i false e).dear_says.0 refl))

  pub one_of_three : OneOfThree K B
  one_of_three = three (least_among K B every_assignment) (least_is every_assignment)
