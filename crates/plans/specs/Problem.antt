-- A planning problem: which plans there are, and what each comes to. Assumes nothing.
use Rattle.std.specs.Prelude.{◌≡◌, ℕ, zero, suc, ◌<◌, ◌≤◌, Bool, true, ◌&&◌, ◌||◌, is_some, Option, ◌==◌}
use Rattle.amounts.specs.Kind.{Kind, AtMost}
use Rattle.amounts.specs.Sums.{sum_below, tally}
use Rattle.amounts.specs.Least.{or_none}

-- Books, weekends and classes are numbered from 0. Each class has a parent and each book a class. A pair of a book and a weekend
-- has a quote, or is shut. Each weekend has for each class a lower and an upper bound.
pub record Problem (V : Type 0) : Type 0 where
  pub books : ℕ
  pub weekends : ℕ
  pub classes : ℕ
  pub parent : ℕ → ℕ
  pub class : ℕ → ℕ
  pub lower : ℕ → ℕ → ℕ
  pub upper : ℕ → ℕ → ℕ
  pub quote : ℕ → ℕ → Option V
  pub limit : V

-- k parents above x
abbrev pub iterated : (ℕ → ℕ) → ℕ → ℕ → ℕ
iterated parent zero x = x
iterated parent (suc k) x = iterated parent k (parent x)

-- is c the class x, or met within so many parents above x?
abbrev pub climbs : (ℕ → ℕ) → ℕ → ℕ → ℕ → Bool
climbs parent zero x c = x == c
climbs parent (suc steps) x c = x == c || climbs parent steps (parent x) c

module _ {V : Type 0} (B : Problem V) where
  -- is b a member of c? It is one of its class, and of every class above. A parent has a smaller number, so no class c has more than c above it
  unfoldable pub member : ℕ → ℕ → Bool
  member b c = climbs B.parent (B.class b) (B.class b) c

  -- has the pair a quote?
  abbrev pub is_open : ℕ → ℕ → Bool
  is_open b w = is_some (B.quote b w)

  -- how many members of c are sent to w, where p b is the weekend of book b
  unfoldable pub count : (ℕ → ℕ) → ℕ → ℕ → ℕ
  count p w c = tally B.books (λ b. (p b == w) && member b c)

  -- p sends each book to a weekend where it is open, and every count is from the lower to the upper bound
  pub record Plan (p : ℕ → ℕ) : Type 0 where
    pub sent : (b : ℕ) → b < B.books → p b < B.weekends
    pub meets : (b : ℕ) → b < B.books → is_open b (p b) ≡ true
    pub least : (w c : ℕ) → w < B.weekends → c < B.classes → B.lower w c ≤ count p w c
    pub most : (w c : ℕ) → w < B.weekends → c < B.classes → count p w c ≤ B.upper w c

  -- there is no plan at all
  abbrev pub NoPlan : Type 0
  NoPlan = (p : ℕ → ℕ) → Plan p → ⊥

module _ {V : Type 0} (K : Kind V) (B : Problem V) where
  -- the sum of the quotes
  unfoldable pub total : (ℕ → ℕ) → V
  total p = sum_below K B.books (λ b. or_none K (B.quote b (p b)))

  -- p is a plan, and its total is at most the limit
  pub record Within (p : ℕ → ℕ) : Type 0 where
    pub plan : Plan B p
    pub cheap : AtMost K (total p) B.limit

  -- there is a plan within the limit
  abbrev pub Possible : Type 0
  Possible = (p : ℕ → ℕ) × Within p

  -- some plan within the limit sends b to w
  abbrev pub Kept : ℕ → ℕ → Type 0
  Kept b w = (p : ℕ → ℕ) × Within p × (p b ≡ w)

  -- p is a plan within the limit, its total is t, and no plan has less
  pub record Least (t : V) (p : ℕ → ℕ) : Type 0 where
    pub within : Within p
    pub is : total p ≡ t
    pub least : (q : ℕ → ℕ) → Plan B q → AtMost K t (total q)

  -- there are plans, but none within the limit
  pub record Dear : Type 0 where
    pub some : (p : ℕ → ℕ) × Plan B p
    pub none : (p : ℕ → ℕ) → Within p → ⊥
