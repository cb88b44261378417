-- The computed tests of plans agree with the relations. Assumes nothing.
use Rattle.std.proofs.Common.{◌≡◌, ℕ, ◌<◌, ◌≤◌, true, ◌&&◌, eqb, ltb, leb, sym, ap, ◌∙◌, subst, arith}
use Rattle.std.specs.Ordering.{is_le}
use Rattle.std.proofs.lemmas.Bool.{and_parts, and_from, ltb-true, lt-ltb, leb-true, le-leb, eqb-true, eq-eqb}
use Rattle.amounts.specs.Kind.{Kind, Lawful, law_limit, AtMost}
use Rattle.amounts.specs.Least.{or_none}
use Rattle.amounts.proofs.Order.{at_most_from_le, le_from_at_most}
use Rattle.amounts.proofs.Numbers.{tally_same}
use Rattle.amounts.proofs.Sums.{sum_same}
use Rattle.plans.specs.Problem.{Problem, Plan, is_open, member, count, total, Within}
use Rattle.plans.specs.Sheets.{each_below}
use Rattle.plans.specs.Trials.{assignments, sends, books_fit, bounds_fit, is_plan, is_within, kept_at}
use Rattle.plans.specs.Theorems.{PlanIs, WithinIs, KeptIs}
use Rattle.plans.proofs.Below.{each_holds, each_from}
use Rattle.plans.proofs.Duality.{total_light}
use Rattle.plans.proofs.Listing.{listed, listed_at, in_assignments, any_found, any_in}

module _ {V : Type 0} (B : Problem V) where
  pub plan_of : (p : ℕ → ℕ) → is_plan B p ≡ true → Plan B p
  unfolding is_plan books_fit bounds_fit
  plan_of p e =
      let parts = and_parts (books_fit B p) (bounds_fit B p) e in
      let book : (b : ℕ) → b < B.books → (ltb (p b) B.weekends ≡ true) × (is_open B b (p b) ≡ true) =
      λ b l. and_parts (ltb (p b) B.weekends) (is_open B b (p b)) (each_holds B.books (λ b. ltb (p b) B.weekends && is_open B b (p b)) parts.0 b l) in
      let bound : (w c : ℕ) → w < B.weekends → c < B.classes → (leb (B.lower w c) (count B p w c) ≡ true) × (leb (count B p w c) (B.upper w c) ≡ true) =
      λ w c lw lc. and_parts (leb (B.lower w c) (count B p w c)) (leb (count B p w c) (B.upper w c))
      (each_holds B.classes (λ c. leb (B.lower w c) (count B p w c) && leb (count B p w c) (B.upper w c))
      (each_holds B.weekends (λ w. each_below B.classes (λ c. leb (B.lower w c) (count B p w c) && leb (count B p w c) (B.upper w c))) parts.1 w lw) c lc) in
      record {
        sent = λ b l. ltb-true (p b) B.weekends (book b l).0;
        meets = λ b l. (book b l).1;
        least = λ w c lw lc. leb-true (B.lower w c) (count B p w c) (bound w c lw lc).0;
        most = λ w c lw lc. leb-true (count B p w c) (B.upper w c) (bound w c lw lc).1;
      }

  pub plan_passes : (p : ℕ → ℕ) → Plan B p → is_plan B p ≡ true
  unfolding is_plan books_fit bounds_fit
  plan_passes p P =
      and_from (books_fit B p) (bounds_fit B p)
      (each_from B.books (λ b. ltb (p b) B.weekends && is_open B b (p b))
      (λ b l. and_from (ltb (p b) B.weekends) (is_open B b (p b)) (lt-ltb (p b) B.weekends (P.sent b l)) (P.meets b l)))
      (each_from B.weekends (λ w. each_below B.classes (λ c. leb (B.lower w c) (count B p w c) && leb (count B p w c) (B.upper w c)))
      (λ w lw. each_from B.classes (λ c. leb (B.lower w c) (count B p w c) && leb (count B p w c) (B.upper w c))
      (λ c lc. and_from (leb (B.lower w c) (count B p w c)) (leb (count B p w c) (B.upper w c)) (le-leb (B.lower w c) (count B p w c) (P.least w c lw lc)) (le-leb (count B p w c) (B.upper w c) (P.most w c lw lc)))))

  -- p and q send the books alike
  abbrev pub Alike : (ℕ → ℕ) → (ℕ → ℕ) → Type 0
  Alike p q = (b : ℕ) → b < B.books → p b ≡ q b

  count_alike : (p q : ℕ → ℕ) → Alike p q → (w c : ℕ) → count B p w c ≡ count B q w c
  unfolding count
  count_alike p q h w c = tally_same B.books (λ b. eqb (p b) w && member B b c) (λ b. eqb (q b) w && member B b c) (λ b l. ap (λ x. eqb x w && member B b c) (h b l))

  pub plan_alike : (p q : ℕ → ℕ) → Alike p q → Plan B p → Plan B q
  plan_alike p q h P = record {
    sent = λ b l. subst (λ x. x < B.weekends) (h b l) (P.sent b l);
    meets = λ b l. subst (λ x. is_open B b x ≡ true) (h b l) (P.meets b l);
    least = λ w c lw lc. subst (λ x. B.lower w c ≤ x) (count_alike p q h w c) (P.least w c lw lc);
    most = λ w c lw lc. subst (λ x. x ≤ B.upper w c) (count_alike p q h w c) (P.most w c lw lc);
  }

  -- p as a list sends the books as p does
  pub listed_alike : (p : ℕ → ℕ) → Alike p (sends (listed B.books p))
  listed_alike p b l = sym (listed_at B.books p b l)

pub plan_is : {V : Type 0} (K : Kind V) → PlanIs K
plan_is K B p = (plan_of B p, plan_passes B p)

module _ {V : Type 0} (K : Kind V) (B : Problem V) where
  pub total_alike : (p q : ℕ → ℕ) → Alike B p q → total K B p ≡ total K B q
  unfolding total
  total_alike p q h = sum_same K B.books (λ b. or_none K (B.quote b (p b))) (λ b. or_none K (B.quote b (q b))) (λ b l. ap (λ x. or_none K (B.quote b x)) (h b l))

  within_alike : (p q : ℕ → ℕ) → Alike B p q → Within K B p → Within K B q
  within_alike p q h W = record { plan = plan_alike B p q h W.plan; cheap = subst (λ x. AtMost K x B.limit) (total_alike p q h) W.cheap }

module _ {V : Type 0} {K : Kind V} (L : Lawful K) where
  pub within_is : WithinIs K
  unfolding is_within law_limit
  within_is B p s = (
    λ e.
        let parts = and_parts (is_plan B p) (is_le (K.cmp (total K B p) B.limit)) e in
        let plan = plan_of B p parts.0 in
        record { plan = plan; cheap = at_most_from_le L (total K B p) B.limit (omega (arith, s.limit, total_light L B s p plan.sent)) parts.1 },
    λ W. and_from (is_plan B p) (is_le (K.cmp (total K B p) B.limit)) (plan_passes B p W.plan)
        (le_from_at_most L (total K B p) B.limit (omega (arith, total_light L B s p W.plan.sent)) W.cheap),
  )

  pub kept_is : KeptIs K
  unfolding kept_at
  kept_is B b w s l = (
    λ e.
        let found = any_found (λ ws. is_within K B (sends ws) && eqb (sends ws b) w) (assignments B.books B.weekends) e in
        let parts = and_parts (is_within K B (sends found.0)) (eqb (sends found.0 b) w) found.1 in
        (sends found.0, (within_is B (sends found.0) s).0 parts.0, eqb-true (sends found.0 b) w parts.1),
    λ k.
        let p = k.0 in
        let ws = listed B.books p in
        any_in (λ ws. is_within K B (sends ws) && eqb (sends ws b) w) (assignments B.books B.weekends) ws (in_assignments B.books B.weekends p k.1.plan.sent)
        (and_from (is_within K B (sends ws)) (eqb (sends ws b) w) ((within_is B (sends ws) s).1 (within_alike K B p (sends ws) (listed_alike B p) k.1))
        (eq-eqb (sends ws b) w (listed_at B.books p b l ∙ k.2))),
  )
