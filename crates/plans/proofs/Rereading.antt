-- Sheets that agree where they are read show the same. Assumes nothing.
use Rattle.std.proofs.Common.{◌≡◌, ℕ, zero, suc, ◌<◌, ◌≤◌, ◌||◌, refl, ap, ap₂, arith}
use Rattle.std.specs.Ordering.{is_lt}
use Rattle.amounts.specs.Kind.{Kind}
use Rattle.amounts.specs.Least.{or_none}
use Rattle.amounts.proofs.Sums.{sum_same}
use Rattle.amounts.proofs.Tables.{table_same}
use Rattle.plans.specs.Problem.{Problem, is_open}
use Rattle.plans.specs.Sheets.{stranded, upward, toll, cost, cheapest, ceiling, ceiling_of, floor, accepts}
use Rattle.plans.proofs.Below.{least_same}

module _ {V : Type 0} (K : Kind V) (parent : ℕ → ℕ) (C : ℕ) (above : (c : ℕ) → 0 < c → c < C → parent c < c) (e f : ℕ → V) (same : (c : ℕ) → c < C → e c ≡ f c) where
  upward_same : (k x : ℕ) → x ≤ k → x < C → upward K parent e k x ≡ upward K parent f k x
  unfolding upward
  upward_same zero x h l = same x l
  upward_same (suc k) zero h l = same 0 l
  upward_same (suc k) (suc x) h l =
      let up = above (suc x) (omega arith) l in
      ap₂ K.plus (same (suc x) l) (upward_same k (parent (suc x)) (omega arith) (omega arith))

module _ {V : Type 0} (K : Kind V) (B : Problem V) (above : (c : ℕ) → 0 < c → c < B.classes → B.parent c < c) (classed : (b : ℕ) → b < B.books → B.class b < B.classes)
    (e f : ℕ → ℕ → V) (same : (w c : ℕ) → w < B.weekends → c < B.classes → e w c ≡ f w c) where
  toll_same : (b w : ℕ) → b < B.books → w < B.weekends → toll K B e b w ≡ toll K B f b w
  unfolding toll
  toll_same b w lb lw = upward_same K B.parent B.classes above (e w) (f w) (λ c l. same w c lw l) (B.class b) (B.class b) (omega arith) (classed b lb)

  cheapest_same : (b : ℕ) → b < B.books → cheapest K B e b ≡ cheapest K B f b
  unfolding cheapest
  cheapest_same b lb =
      least_same K (is_open B b) (cost K B e b) (is_open B b) (cost K B f b) B.weekends (λ w l. refl) (λ w l. ap (K.plus (or_none K (B.quote b w))) (toll_same b w lb l))

  floor_same : floor K B e ≡ floor K B f
  unfolding floor
  floor_same =
      ap₂ (λ x y. K.plus x (K.minus y))
      (sum_same K B.books _ _ (λ b l. ap (or_none K) (cheapest_same b l)))
      (table_same K B.weekends B.classes (ceiling K B e) (ceiling K B f) (λ w c lw lc. ap (ceiling_of K (B.lower w c) (B.upper w c)) (same w c lw lc)))

  pub accepts_same : accepts K B e ≡ accepts K B f
  unfolding accepts
  accepts_same = ap (λ x. stranded B.books B.weekends B.quote || is_lt (K.cmp B.limit x)) floor_same
