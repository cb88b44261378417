-- What a source, a roster and bounds put is in range; and heads in coins are read as whole numbers. Assumes nothing.
use Rattle.std.proofs.Common.{◌≡◌, ℕ, ◌+◌, ◌*◌, ◌<◌, ◌≤◌, List, get_or, ℤ, pos, nat_abs, refl, ap, ◌∙◌, mul-le-mul, arith}
use Rattle.amounts.specs.declared.money.Money.{Money}
use Rattle.amounts.specs.Kind.{Kind}
use Rattle.amounts.specs.Models.{money, money_kind, integers}
use Rattle.plans.specs.declared.class_tree.Roster.{Roster}
use Rattle.plans.specs.declared.bound_table.Bounds.{Bounds}
use Rattle.plans.specs.Bounding.{StraightBound, bound_at}
use Rattle.plans.specs.Rosters.{shape}
use Rattle.plans.specs.Posed.{Meaning, problem}
use Rattle.plans.specs.Problem.{member, count, total}
use Rattle.plans.specs.Sheets.{entries, toll_accepts, head_accepts, recounted, heads}
use Rattle.plans.specs.Theorems.{Rooted, HeldSound, PosedSound, HeldAssigned, AssignedIs}
use Rattle.plans.proofs.Verdicts.{place_below}
use Rattle.plans.proofs.Straight.{bound_holds}
use Rattle.plans.proofs.Rereading.{accepts_same}
use Rattle.plans.proofs.Coined.{accepts_coined}

-- bounds do not cross or pass 120, wherever they are read
straight_read : (b : Bounds) (w c : ℕ) → StraightBound (bound_at b.table w c)
straight_read b = bound_holds StraightBound b.table (omega arith, omega arith) b.straight

pub bounds_straight : (b : Bounds) (w c : ℕ) → (bound_at b.table w c).lower ≤ (bound_at b.table w c).upper
bounds_straight b w c = (straight_read b w c).0

upper_small : (b : Bounds) (w c : ℕ) → (bound_at b.table w c).upper ≤ 120
upper_small b w c = (straight_read b w c).1

lower_small : (b : Bounds) (w c : ℕ) → (bound_at b.table w c).lower ≤ 120
lower_small b w c = omega (arith, bounds_straight b w c, upper_small b w c)

pub held_sound : {V : Type 0} (K : Kind V) → HeldSound K
held_sound K source held bounds limit rooted books weekends quotes light = record {
  books = books;
  weekends = weekends;
  classes = rooted.few;
  root = rooted.root;
  above = rooted.above;
  classed = λ b l. rooted.classed b (omega arith);
  lowers = λ w c lw lc. lower_small bounds w c;
  uppers = λ w c lw lc. upper_small bounds w c;
  quotes = quotes;
  limit = light;
}

-- what the type of a roster keeps
rooted_by : (r : Roster) → Rooted (shape r)
rooted_by r = let s = r.sound in record { some = s.0; few = s.1; root = s.2; above = s.3; classed = s.4 }

pub posed_sound : {V : Type 0} (K : Kind V) → PosedSound K
posed_sound K source roster bounds limit = held_sound K source (shape roster) bounds limit (rooted_by roster)

pub held_assigned : {V : Type 0} (K : Kind V) → HeldAssigned K
unfolding total count member
held_assigned K source held bounds limit assignment = (refl, λ w c. refl)

pub assigned_is : {V : Type 0} (K : Kind V) → AssignedIs K
assigned_is K source roster = held_assigned K source (shape roster)

-- the toll check in coins says what the head check says
pub heads_agree : {V : Type 0} (source : Meaning V) (roster : Roster) (bounds : Bounds) (limit : V) (coins : List Money) (sheet : List ℤ) → source.books ≤ 120 → source.weekends ≤ 16 →
    ((i : ℕ) → i < 128 → get_or coins i (money (pos 0)) ≡ money (get_or sheet i (pos 0))) → ((i : ℕ) → nat_abs (get_or coins i (money (pos 0))).value ≤ 128) →
    toll_accepts money_kind (recounted (problem source roster bounds limit) (money (pos 0))) coins ≡ head_accepts (problem source roster bounds limit) sheet
heads_agree source roster bounds limit coins sheet books weekends same light =
    let B = problem source roster bounds limit in
    let n = roster.classes in
    let classed : (b : ℕ) → b < source.books → B.class b < n = λ b l. roster.sound.4 b (omega arith) in
    accepts_coined B (entries money_kind n coins) books weekends roster.sound.1 classed (λ w c lw lc. lower_small bounds w c) (λ w c lw lc. upper_small bounds w c) (λ w c. light (w * n + c))
    ∙ accepts_same integers (heads B) roster.sound.3 classed (λ w c. (entries money_kind n coins w c).value) (entries integers n sheet)
    (λ w c lw lc. ap (λ x. x.value) (same (w * n + c) (omega (arith, place_below source.weekends n w c lw lc, mul-le-mul weekends roster.sound.1))))
