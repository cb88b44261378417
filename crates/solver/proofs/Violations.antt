-- The soft prices of an assignment come to its violations, and labels that are valid under soft bounds settle what the least plan is. Assumes nothing.
use Rattle.std.proofs.Common.{◌≡◌, ℕ, zero, suc, ◌*◌, ◌^◌, ◌<◌, ◌≤◌, Bool, pos, ◌≤ℤ◌, IfSome, Some, None, Option, sym, refl, ap, ◌∙◌, ap₂, subst₂, mul-le-mul, arith}
use Rattle.std.proofs.lemmas.Int.{ints}
use Rattle.amounts.specs.Kind.{Kind, Lawful, law_limit, AtMost}
use Rattle.amounts.specs.Sums.{copies, table_sum, sum_n}
use Rattle.amounts.specs.Least.{or_none}
use Rattle.amounts.specs.Models.{money, money_kind, ranked, integers}
use Rattle.amounts.proofs.Order.{unit_left}
use Rattle.amounts.proofs.Numbers.{sum_n_le, sum_n_one, sum_n_zero_each, sum_n_each_zero}
use Rattle.amounts.proofs.Sums.{sum_same, sum_none}
use Rattle.amounts.proofs.Copies.{sum_copies, copies_none}
use Rattle.amounts.specs.MoneyLaws.{money_lawful}
use Rattle.amounts.proofs.Coins.{money_copies, money_at_most}
use Rattle.amounts.proofs.Ranks.{ranked_sum, ranked_copies, first_at_most, second_at_most}
use Rattle.plans.specs.Problem.{Problem, Plan, member, count, total}
use Rattle.plans.specs.Theorems.{Sound}
use Rattle.solver.specs.Soft.{broken, fine, soft_kind, violation, behind, softened, violations, score}
use Rattle.solver.specs.Residual.{Inside, ConvexCharges, whole}
use Rattle.solver.specs.Flows.{soft_charges, Straight, LeastInScore, LabelsSettle}
use Rattle.plans.proofs.Duality.{total_light}
use Rattle.solver.proofs.Soft.{soft_lawful, one_light, soft_convex}
use Rattle.solver.proofs.Optimal.{count_le, least_by_labels}

-- ---- no violation is that every count is within its bounds
module _ {V : Type 0} (B : Problem V) (p : ℕ → ℕ) where
  abbrev missed : ℕ → ℕ → ℕ
  missed w c = broken (B.lower w c) (B.upper w c) (count B p w c)

  none_within : violations B p ≡ 0 → (w c : ℕ) → w < B.weekends → c < B.classes → (B.lower w c ≤ count B p w c) × (count B p w c ≤ B.upper w c)
  unfolding violations
  none_within h w c lw lc =
      let z : missed w c ≡ 0 = sum_n_zero_each B.classes (missed w) (sum_n_zero_each B.weekends (λ w. sum_n B.classes (missed w)) h w lw) c lc in
      (omega arith, omega arith)

  within_none : ((w c : ℕ) → w < B.weekends → c < B.classes → (B.lower w c ≤ count B p w c) × (count B p w c ≤ B.upper w c)) → violations B p ≡ 0
  unfolding violations
  within_none h = sum_n_each_zero B.weekends _ (λ w lw. sum_n_each_zero B.classes _ (λ c lc. omega (arith, h w c lw lc)))

  plan_none : Plan B p → violations B p ≡ 0
  plan_none P = within_none (λ w c lw lc. (P.least w c lw lc, P.most w c lw lc))

pub inside_soft : {V : Type 0} (B : Problem V) (word : ℕ → ℕ → Bool) (p : ℕ → ℕ) → Inside B word p → Inside (softened B) word p
inside_soft B word p i = record { sent = i.sent; meets = i.meets }

-- ---- so many coins
one_by_one : (k : ℕ) → copies integers k (pos 1) ≡ pos k
unfolding copies
one_by_one zero = refl
one_by_one (suc k) = rw (one_by_one k) (ap pos (omega arith))

coins : (k : ℕ) → k ≤ law_limit → copies money_kind k (money (pos 1)) ≡ money (pos k)
coins k h = ap money (money_copies k (money (pos 1)) (omega arith) ∙ one_by_one k)

module _ {V : Type 0} {K : Kind V} (L : Lawful K) where
  behind_light : (o : Option V) → IfSome o (λ x. K.weight x ≤ 10 ^ 9) → IfSome (behind o) (λ x. (soft_kind K).weight x ≤ 10 ^ 9)
  behind_light None h = tt
  behind_light (Some x) h = omega arith

  behind_first : (o : Option V) → (or_none (soft_kind K) (behind o)).first ≡ money (pos 0)
  behind_first None = refl
  behind_first (Some x) = refl

  behind_second : (o : Option V) → (or_none (soft_kind K) (behind o)).second ≡ or_none K o
  behind_second None = refl
  behind_second (Some x) = refl

  pub softened_sound : (B : Problem V) → Sound K B → Sound (soft_kind K) (softened B)
  softened_sound B s = record {
    books = s.books;
    weekends = s.weekends;
    classes = s.classes;
    root = s.root;
    above = s.above;
    classed = s.classed;
    lowers = s.lowers;
    uppers = s.uppers;
    quotes = λ b w lb lw. behind_light (B.quote b w) (s.quotes b w lb lw);
    limit = omega (arith, s.limit);
  }

  total_behind : (B : Problem V) (p : ℕ → ℕ) → total (soft_kind K) (softened B) p ≡ ranked (money (pos 0)) (total K B p)
  unfolding total
  total_behind B p =
      ranked_sum money_kind K B.books (λ b. or_none (soft_kind K) (behind (B.quote b (p b))))
      ∙ ap₂ ranked (sum_none money_lawful B.books _ (λ b _. behind_first (B.quote b (p b)))) (sum_same K B.books _ _ (λ b _. behind_second (B.quote b (p b))))

  module _ (B : Problem V) (s : Sound K B) (p : ℕ → ℕ) where
    missed_le : (w c : ℕ) → w < B.weekends → c < B.classes → missed B p w c ≤ 240
    missed_le w c lw lc = omega (arith, s.lowers w c lw lc, count_le B s p w c)

    violations_le : violations B p ≤ 30720
    unfolding violations
    violations_le =
        omega (
          arith,
          mul-le-mul s.weekends s.classes,
          sum_n_le (B.classes * 240) B.weekends (λ w. sum_n B.classes (missed B p w)) (λ w lw. sum_n_le 240 B.classes (missed B p w) (λ c lc. missed_le w c lw lc)),
        )

    all_light : sum_n B.weekends (λ w. sum_n B.classes (missed B p w)) * (soft_kind K).weight (violation K) ≤ law_limit
    unfolding law_limit violations
    all_light = rw (one_light L) (omega (arith, violations_le))

    row_light : (w : ℕ) → w < B.weekends → sum_n B.classes (missed B p w) * (soft_kind K).weight (violation K) ≤ law_limit
    unfolding law_limit violations
    row_light w lw = rw (one_light L) (omega (arith, violations_le, sum_n_one B.weekends w (λ w. sum_n B.classes (missed B p w)) lw))

    -- the soft prices come to as many violations
    soft_table : table_sum (soft_kind K) B.weekends B.classes (λ w c. fine (soft_kind K) (violation K) (B.lower w c) (B.upper w c) (count B p w c)) ≡ copies (soft_kind K) (violations B p) (violation K)
    unfolding table_sum fine violations
    soft_table =
        sum_same (soft_kind K) B.weekends _ _ (λ w lw. sum_copies (soft_lawful L) B.classes (missed B p w) (violation K) (row_light w lw))
        ∙ sum_copies (soft_lawful L) B.weekends (λ w. sum_n B.classes (missed B p w)) (violation K) all_light

    -- violations first, and then the total: that is what an assignment costs under soft bounds
    whole_score : ((b : ℕ) → b < B.books → p b < B.weekends) → whole (soft_kind K) (softened B) (soft_charges K B) p ≡ score K B p
    unfolding whole count member law_limit
    whole_score sent =
        ap₂ (soft_kind K).plus (total_behind B p) (soft_table ∙ ranked_copies money_kind K (violations B p) (violation K) ∙ ap₂ ranked (coins (violations B p) (omega (arith, violations_le))) (copies_none L (violations B p)))
        ∙ ap₂ ranked (unit_left money_lawful (money (pos (violations B p))) (omega (arith, violations_le))) (L.unit (total K B p) (omega (arith, total_light L B s p sent)))

  pub soft_charges_convex : (B : Problem V) → Sound K B → Straight K B → ConvexCharges (soft_kind K) (softened B) (soft_charges K B)
  soft_charges_convex B s straight w c lw lc =
      let x = soft_convex L (B.lower w c) (B.upper w c) (straight w c lw lc) (s.lowers w c lw lc) in
      record {
        step = x.step;
        back = x.back;
        first = x.first;
        grows = x.grows;
        price_light = λ m h. omega (arith, x.price_light m h);
        rise_light = λ m. omega (arith, x.rise_light m);
        fall_light = λ m. omega (arith, x.fall_light m);
      }

  pub least_in_score : LeastInScore K
  unfolding count member
  least_in_score B s straight word l p f q shown other =
      subst₂ (AtMost (soft_kind K)) (whole_score B s p shown.inside.sent) (whole_score B s q other.sent)
      (least_by_labels (soft_lawful L) (softened B) (soft_charges K B) (softened_sound B s) (soft_charges_convex B s straight) word l p f q shown.light (inside_soft B word p shown.inside) shown.counts shown.valid (inside_soft B word q other))

  pub labels_settle : LabelsSettle K
  unfolding law_limit
  labels_settle B s straight l p f shown =
      let least : (q : ℕ → ℕ) → Plan B q → AtMost (soft_kind K) (score K B p) (score K B q) = λ q Q. least_in_score B s straight _ l p f q shown (record { sent = Q.sent; meets = Q.meets }) in
      record {
        none_broken = λ z. record {
          sent = shown.inside.sent;
          meets = shown.inside.meets;
          least = λ w c lw lc. (none_within B p z w c lw lc).0;
          most = λ w c lw lc. (none_within B p z w c lw lc).1;
        };
        least_plan = λ z q Q. second_at_most money_lawful L (score K B p) (score K B q) (omega (arith, violations_le B s q)) (ap (λ n. money (pos n)) (z ∙ sym (plan_none B q Q))) (least q Q);
        no_plan = λ broken q Q.
            let a : pos (violations B p) ≤ℤ pos (violations B q) = money_at_most _ _ (first_at_most money_lawful L (score K B p) (score K B q) (omega (arith, violations_le B s p, violations_le B s q)) (least q Q)) in
            broken (omega (arith, ints, plan_none B q Q));
      }
