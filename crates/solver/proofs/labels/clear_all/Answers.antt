use Rattle.std.proofs.Common.{◌≡◌, ℕ, zero, suc, List, [], ◌∷◌, refl, rules}
use Rattle.std.specs.List.{FoldsTo}
use Rattle.amounts.specs.Kind.{Kind}
use Rattle.amounts.specs.Sums.{item}
use Rattle.solver.proofs.labels.clear_all.Goals as goal

filled : {V P : Type 0} (K : Kind V) (R : P → V → P → Type 0) → ((p : P) (x : V) (q : P) → R p x q → x ≡ K.none) → (xs : List V) (p q : P) → FoldsTo R p xs q → (i : ℕ) → item K xs i ≡ K.none
filled K R h [] p q f i = refl
filled K R h (x ∷ xs) p q f zero = h p x f.0 f.1
filled K R h (x ∷ xs) p q f (suc i) = filled K R h xs f.0 q f.2 i

pub returns : goal.returns
returns g c i = filled g.X.Amount.kind _ (λ p x q r. search rules) _ _ _ c.fill_with.ensures.ran.1 i
