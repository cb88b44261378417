-- Members and tolls, by a walk up the classes and class by class. Assumes nothing.
use Rattle.std.proofs.Common.{◌≡◌, ℕ, zero, suc, ◌*◌, ◌^◌, ◌<◌, ◌≤◌, Bool, true, false, cond, ◌||◌, eqb, sym, refl, ap, ◌∙◌, ap₂, ⊎_elim, arith}
use Rattle.std.proofs.lemmas.Bool.{eqb-true, eq-eqb, ne_eqb, or_cases, or_left, or_right, cases_lt}
use Rattle.amounts.specs.Kind.{Kind, Lawful, law_limit}
use Rattle.amounts.specs.Sums.{sum_below, weights}
use Rattle.amounts.proofs.Order.{cond_weight, cond_apart}
use Rattle.amounts.proofs.Sums.{weights_le, sum_same, sum_plus, sum_pick}
use Rattle.plans.specs.declared.class_tree.Roster.{Roster}
use Rattle.plans.specs.Places.{at}
use Rattle.plans.specs.Problem.{climbs, iterated, member}
use Rattle.plans.specs.Sheets.{upward, toll}
use Rattle.plans.specs.Theorems.{MemberIs, TollByMembers}

-- what a climb meets is some number of parents above
climbs_met : (parent : ℕ → ℕ) (k x c : ℕ) → climbs parent k x c ≡ true → (j : ℕ) × (iterated parent j x ≡ c)
climbs_met parent zero x c h = (0, eqb-true x c h)
climbs_met parent (suc k) x c h =
    ⊎_elim (λ a. (0, eqb-true x c a)) (λ b. let m = climbs_met parent k (parent x) c b in (suc m.0, m.1)) (or_cases (eqb x c) (climbs parent k (parent x) c) h)

module _ (parent : ℕ → ℕ) (root : parent 0 ≡ 0) where
  -- from class 0 a climb meets class 0 only
  climbs_root : (k c : ℕ) → climbs parent k 0 c ≡ eqb 0 c
  climbs_root zero c = refl
  climbs_root (suc k) c = rw root (rw (climbs_root k c) (again (eqb 0 c)))
    where
      again : (b : Bool) → (b || b) ≡ b
      again true = refl
      again false = refl

  root_stays : (j : ℕ) → iterated parent j 0 ≡ 0
  root_stays zero = refl
  root_stays (suc j) = rw root (root_stays j)

  module _ (C : ℕ) (above : (c : ℕ) → 0 < c → c < C → parent c < c) where
    parent_le : (x : ℕ) → x < C → parent x ≤ x
    parent_le zero l = omega (arith, root)
    parent_le (suc x) l = omega (arith, above (suc x) (omega arith) l)

    -- a climb goes down in number
    pub climbs_le : (k x c : ℕ) → x < C → climbs parent k x c ≡ true → c ≤ x
    climbs_le zero x c l h = omega (arith, eqb-true x c h)
    climbs_le (suc k) x c l h =
        let down = parent_le x l in
        ⊎_elim (λ a. omega (arith, eqb-true x c a)) (λ b. omega (arith, climbs_le k (parent x) c (omega arith) b)) (or_cases (eqb x c) (climbs parent k (parent x) c) h)

    -- a climb of x steps from x misses nothing above it
    climbs_all : (k j x c : ℕ) → x ≤ k → x < C → iterated parent j x ≡ c → climbs parent k x c ≡ true
    climbs_all k j zero c h l e = climbs_root k c ∙ eq-eqb 0 c (sym (root_stays j) ∙ e)
    climbs_all zero j (suc x) c h l e = absurd (omega arith)
    climbs_all (suc k) zero (suc x) c h l e = or_left (eqb (suc x) c) _ (eq-eqb (suc x) c e)
    climbs_all (suc k) (suc j) (suc x) c h l e =
        let up = above (suc x) (omega arith) l in
        or_right (eqb (suc x) c) _ (climbs_all k j (parent (suc x)) c (omega arith) (omega arith) e)

    -- as many steps as it has a number are enough for a climb, and more add nothing
    pub climbs_two : (j k x c : ℕ) → x ≤ j → x ≤ k → x < C → climbs parent j x c ≡ climbs parent k x c
    climbs_two j k zero c _ _ _ = climbs_root j c ∙ sym (climbs_root k c)
    climbs_two zero k (suc x) c h _ _ = absurd (omega arith)
    climbs_two (suc j) zero (suc x) c _ h _ = absurd (omega arith)
    climbs_two (suc j) (suc k) (suc x) c hj hk l =
        let up = above (suc x) (omega arith) l in
        ap (λ t. eqb (suc x) c || t) (climbs_two j k (parent (suc x)) c (omega arith) (omega arith) (omega arith))

    -- one step of a walk that has not met c yet
    pub climbs_step : (x c : ℕ) → (x ≡ c → ⊥) → (x ≡ 0 → ⊥) → x < C → climbs parent (parent x) (parent x) c ≡ climbs parent x x c
    climbs_step zero c _ z _ = absurd (z refl)
    climbs_step (suc x) c apart _ l =
        let up = above (suc x) (omega arith) l in
        climbs_two (parent (suc x)) x (parent (suc x)) c (omega arith) (omega arith) (omega arith)
        ∙ ap (λ t. t || climbs parent x (parent (suc x)) c) (sym (ne_eqb (suc x) c apart))

    pub climbs_here : (x c : ℕ) → x ≡ c → climbs parent x x c ≡ eqb x c
    climbs_here zero c _ = refl
    climbs_here (suc x) c e = let q = eq-eqb (suc x) c e in simp q

    pub climbs_top : (x c : ℕ) → x ≡ 0 → climbs parent x x c ≡ eqb x c
    climbs_top zero c _ = refl
    climbs_top (suc x) c e = absurd (omega arith)

    -- the same of the sum on the way up
    module _ {V : Type 0} (K : Kind V) (e : ℕ → V) where
      pub upward_two : (j k x : ℕ) → x ≤ j → x ≤ k → x < C → upward K parent e j x ≡ upward K parent e k x
      unfolding upward
      upward_two zero zero zero _ _ _ = refl
      upward_two zero (suc k) zero _ _ _ = refl
      upward_two (suc j) zero zero _ _ _ = refl
      upward_two (suc j) (suc k) zero _ _ _ = refl
      upward_two zero k (suc x) h _ _ = absurd (omega arith)
      upward_two (suc j) zero (suc x) _ h _ = absurd (omega arith)
      upward_two (suc j) (suc k) (suc x) hj hk l =
          let up = above (suc x) (omega arith) l in
          ap (K.plus (e (suc x))) (upward_two j k (parent (suc x)) (omega arith) (omega arith) (omega arith))

      pub upward_top : (x : ℕ) → x ≡ 0 → upward K parent e x x ≡ e x
      unfolding upward
      upward_top zero z = refl
      upward_top (suc x) z = absurd (omega arith)

      pub upward_step : (x : ℕ) → (x ≡ 0 → ⊥) → x < C → upward K parent e x x ≡ K.plus (e x) (upward K parent e (parent x) (parent x))
      unfolding upward
      upward_step zero z l = absurd (z refl)
      upward_step (suc x) z l =
          let up = above (suc x) (omega arith) l in
          ap (K.plus (e (suc x))) (upward_two x (parent (suc x)) (parent (suc x)) (omega arith) (omega arith) (omega arith))

    module _ {V : Type 0} {K : Kind V} (L : Lawful K) (e : ℕ → V) (cs : C ≤ 8) (light : (c : ℕ) → c < C → K.weight (e c) ≤ 10 ^ 12) where
      part_light : (t : ℕ → Bool) → weights K C (λ c. cond (t c) (e c) K.none) ≤ 8 * 10 ^ 12
      part_light t = omega (arith, weights_le K (10 ^ 12) C (λ c. cond (t c) (e c) K.none) (λ c l. cond_weight L (10 ^ 12) (t c) (e c) (light c l)))

      one_class : (x : ℕ) → x < C → sum_below K C (λ c. cond (eqb x c) (e c) K.none) ≡ e x
      unfolding law_limit
      one_class x l = sum_pick L C x e l (omega (arith, light x l))

      climbed : (k x : ℕ) → x ≤ k → x < C → sum_below K C (λ c. cond (climbs parent k x c) (e c) K.none) ≡ upward K parent e k x
      unfolding law_limit upward
      climbed zero x h l = one_class x l
      climbed (suc k) zero h l = sum_same K C _ _ (λ c m. ap (λ b. cond b (e c) K.none) (climbs_root (suc k) c)) ∙ one_class 0 l
      climbed (suc k) (suc x) h l =
          let up = above (suc x) (omega arith) l in
          let y = parent (suc x) in
          let p = part_light (eqb (suc x)) in
          let q = part_light (climbs parent k y) in
          sum_same K C _ _ (λ c m. cond_apart L (eqb (suc x) c) (climbs parent k y c) (e c) (omega (arith, light c m)) (λ a b. omega (arith, eqb-true (suc x) c a, climbs_le k y c (omega arith) b)))
          ∙ sum_plus L C (λ c. cond (eqb (suc x) c) (e c) K.none) (λ c. cond (climbs parent k y c) (e c) K.none) (omega arith)
          ∙ ap₂ K.plus (one_class (suc x) l) (climbed k y (omega arith) (omega arith))

module _ {V : Type 0} {K : Kind V} (L : Lawful K) where
  pub toll_by_members : TollByMembers K
  unfolding toll member
  toll_by_members B e b w s light lb lw =
      sym (climbed B.parent s.root B.classes s.above L (e w) s.classes (λ c l. light w c lw l) (B.class b) (B.class b) (omega arith) (s.classed b lb))

pub member_is : {V : Type 0} (K : Kind V) → MemberIs K
unfolding member
member_is K B b c s lb =
    (climbs_met B.parent (B.class b) (B.class b) c, λ m. climbs_all B.parent s.root B.classes s.above (B.class b) m.0 (B.class b) c (omega arith) (s.classed b lb) m.1)

-- in a roster each class but 0 has a parent with a smaller number, also one that is not there
pub parent_below : (r : Roster) (c : ℕ) → 0 < c → at r.parents c < c
parent_below r c some = ⊎_elim (λ (l : c < r.classes). r.sound.3 c some l) (λ (l : r.classes ≤ c). omega (arith, r.sound.5 c l)) (cases_lt c r.classes)
