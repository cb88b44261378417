-- Where there is a plan within the limit, no sheet is accepted. Assumes nothing.
use Rattle.std.proofs.Common.{◌≡◌, ℕ, suc, ◌+◌, ◌*◌, ◌^◌, ◌<◌, ◌≤◌, true, not, pos, is_some, IfSome, Some, None, Option, Ordering, Less, Equal, Greater, refl, inr, ⊎_elim, mul-le-mul_right, suc-mul, arith}
use Rattle.std.specs.Ordering.{is_lt}
use Rattle.std.proofs.lemmas.Bool.{both_ways, or_cases, not-true, false≢true}
use Rattle.amounts.specs.Kind.{Kind, Lawful, law_limit}
use Rattle.amounts.specs.Least.{or_none}
use Rattle.amounts.specs.Models.{integers}
use Rattle.amounts.proofs.Order.{less_not_back}
use Rattle.amounts.proofs.Sums.{sum_none}
use Rattle.amounts.proofs.Integers.{integers_lawful}
use Rattle.plans.specs.Problem.{Problem, Plan, member, count, is_open, total, Within}
use Rattle.plans.specs.Sheets.{goes, stranded, floor, accepts, entries, counted, heads}
use Rattle.plans.specs.Theorems.{Sound, Light, TollCheckSound, HeadCheckSound}
use Rattle.plans.proofs.Below.{some_found, some_from}
use Rattle.plans.proofs.Duality.{total_light, over_limit}

pub lt_less : (o : Ordering) → is_lt o ≡ true → o ≡ Less
lt_less Less h = refl
lt_less Equal h = absurd (false≢true h)
lt_less Greater h = absurd (false≢true h)

-- a plan leaves no book without an open weekend
not_stranded : {V : Type 0} (B : Problem V) (p : ℕ → ℕ) → Plan B p → stranded B.books B.weekends B.quote ≡ true → ⊥
unfolding stranded
not_stranded B p plan e =
    let f = some_found B.books (λ b. not (goes B.weekends (B.quote b))) e in
    let t = goes B.weekends (B.quote f.0) in
    both_ways t (not-true t f.2) (some_from B.weekends (p f.0) (is_open B f.0) (plan.sent f.0 f.1) (plan.meets f.0 f.1))

-- the place of an entry is among the first weekends * classes
pub place_below : (m n w c : ℕ) → w < m → c < n → w * n + c < m * n
place_below m n w c lw lc =
    let h : suc w * n ≤ m * n = mul-le-mul_right n lw in
    let h' : w * n + n ≤ m * n = rw (suc-mul w n) at h in
    omega arith

module _ {V : Type 0} {K : Kind V} (L : Lawful K) where
  accepts_never : (B : Problem V) (e : ℕ → ℕ → V) → Sound K B → Light K B e → (p : ℕ → ℕ) → Within K B p → accepts K B e ≡ true → ⊥
  unfolding accepts law_limit
  accepts_never B e s light p W yes' =
      ⊎_elim
      (not_stranded B p W.plan)
      (λ (h : is_lt (K.cmp B.limit (floor K B e)) ≡ true).
      let over = over_limit L B e s light (lt_less (K.cmp B.limit (floor K B e)) h) p W.plan in
      less_not_back L B.limit (total K B p) (omega (arith, s.limit, total_light L B s p W.plan.sent)) over W.cheap)
      (or_cases (stranded B.books B.weekends B.quote) (is_lt (K.cmp B.limit (floor K B e))) yes')

  pub toll_check_sound : TollCheckSound K
  toll_check_sound B s possible sheet light yes' =
      accepts_never B (entries K B.classes sheet) s (λ w c lw lc. light (w * B.classes + c) (place_below B.weekends B.classes w c lw lc)) possible.0 possible.1 yes'

module _ {V : Type 0} (K : Kind V) (B : Problem V) where
  free_light : (q : Option V) → IfSome (counted (pos 0) q) (λ x. integers.weight x ≤ 10 ^ 9)
  free_light None = tt
  free_light (Some x) = omega arith

  free_open : (q : Option V) → is_some q ≡ true → is_some (counted (pos 0) q) ≡ true
  free_open None i = i
  free_open (Some x) i = refl

  free_none : (q : Option V) → or_none integers (counted (pos 0) q) ≡ pos 0
  free_none None = refl
  free_none (Some x) = refl

  heads_sound : Sound K B → Sound integers (heads B)
  heads_sound s = record {
    books = s.books;
    weekends = s.weekends;
    classes = s.classes;
    root = s.root;
    above = s.above;
    classed = s.classed;
    lowers = s.lowers;
    uppers = s.uppers;
    quotes = λ b w lb lw. free_light (B.quote b w);
    limit = omega arith;
  }

  heads_plan : (p : ℕ → ℕ) → Plan B p → Plan (heads B) p
  unfolding count member
  heads_plan p plan = record {
    sent = plan.sent;
    meets = λ b l. free_open (B.quote b (p b)) (plan.meets b l);
    least = plan.least;
    most = plan.most;
  }

  heads_within : (p : ℕ → ℕ) → Plan B p → Within integers (heads B) p
  unfolding total
  heads_within p plan = record {
    plan = heads_plan p plan;
    cheap = inr (sum_none integers_lawful B.books (λ b. or_none integers (counted (pos 0) (B.quote b (p b)))) (λ b l. free_none (B.quote b (p b))));
  }

-- every plan is within the limit once quotes and limit are 0, so that this is the theorem on toll sheets
pub head_check_sound : {V : Type 0} (K : Kind V) → HeadCheckSound K
head_check_sound K B s p plan sheet yes' =
    toll_check_sound integers_lawful (heads B) (heads_sound K B s) (p, heads_within K B p plan) sheet (λ i l. omega arith) yes'
