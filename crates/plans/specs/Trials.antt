-- The answers, computed by trying every way to send the books. Assumes nothing.
use Rattle.std.specs.Prelude.{ℕ, zero, suc, Bool, false, cond, ◌&&◌, ◌||◌, List, [], ◌∷◌, ◌++◌, Some, None, Option, ◌==◌, nat_le, nat_lt, slice_index}
use Rattle.std.specs.Ordering.{is_le}
use Rattle.amounts.specs.Kind.{Kind}
use Rattle.amounts.specs.Least.{better}
use Rattle.plans.specs.Problem.{Problem, is_open, count, total}
use Rattle.plans.specs.Sheets.{each_below}

-- each list of the rest, with w before it
abbrev pub led : ℕ → List (List ℕ) → List (List ℕ)
led w [] = []
led w (ws ∷ rest) = (w ∷ ws) ∷ led w rest

-- each list of the rest, with each weekend below W before it
abbrev pub led_below : ℕ → List (List ℕ) → List (List ℕ)
led_below zero rest = []
led_below (suc w) rest = led_below w rest ++ led w rest

-- all ways to give each of n books a weekend below W
unfoldable pub assignments : ℕ → ℕ → List (List ℕ)
assignments zero W = [] ∷ []
assignments (suc n) W = led_below W (assignments n W)

-- the weekend of book b
abbrev pub sends : List ℕ → ℕ → ℕ
sends ws b = slice_index ws b

-- one of the lists passes
unfoldable pub any_of : (List ℕ → Bool) → List (List ℕ) → Bool
any_of t [] = false
any_of t (x ∷ xs) = t x || any_of t xs

-- the answer to the question for the best plan: its total, or that there is no plan, or that every plan exceeds the limit
pub data Answer (V : Type 0) : Type 0 where
  best : V → Answer V
  no_plan : Answer V
  dear : Answer V

module _ {V : Type 0} (B : Problem V) where
  -- does p send each book to a weekend where it is open?
  unfoldable pub books_fit : (ℕ → ℕ) → Bool
  books_fit p = each_below B.books (λ b. nat_lt (p b) B.weekends && is_open B b (p b))

  -- is every count within its bounds?
  unfoldable pub bounds_fit : (ℕ → ℕ) → Bool
  bounds_fit p = each_below B.weekends (λ w. each_below B.classes (λ c. nat_le (B.lower w c) (count B p w c) && nat_le (count B p w c) (B.upper w c)))

  -- is p a plan?
  unfoldable pub is_plan : (ℕ → ℕ) → Bool
  is_plan p = books_fit p && bounds_fit p

module _ {V : Type 0} (K : Kind V) (B : Problem V) where
  -- is p a plan within the limit?
  unfoldable pub is_within : (ℕ → ℕ) → Bool
  is_within p = is_plan B p && is_le (K.cmp (total K B p) B.limit)

  -- does some plan within the limit send b to w?
  unfoldable pub kept_at : ℕ → ℕ → Bool
  kept_at b w = any_of (λ ws. is_within (sends ws) && sends ws b == w) (assignments B.books B.weekends)

  -- the least total of the plans among them
  unfoldable pub least_among : List (List ℕ) → Option V
  least_among [] = None
  least_among (ws ∷ rest) = cond (is_plan B (sends ws)) (Some (better K (least_among rest) (total K B (sends ws)))) (least_among rest)

  -- the least total of all plans
  unfoldable pub least_total : Option V
  least_total = least_among (assignments B.books B.weekends)

  -- the least total of all plans, held against the limit
  abbrev pub judged : Option V → Answer V
  judged None = no_plan
  judged (Some t) = cond (is_le (K.cmp t B.limit)) (best t) dear

  -- the best total, as it is computed
  unfoldable pub best_answer : Answer V
  best_answer = judged least_total
