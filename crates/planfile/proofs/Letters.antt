-- An accepted record is one of the six kinds, and passed the tests of its kind.
use Rattle.std.proofs.Common.{◌≡◌, ℕ, ◌+◌, Bool, true, false, cond, ◌⊎◌, List, get_or, take, drop, Ok, Err, refl, inl, inr, ⊎_elim}
use Rattle.std.proofs.lemmas.Bool.{eqb-true}
use Rattle.planfile.specs.declared.progress.FileKind.{FileKind}
use Rattle.planfile.specs.declared.progress.Progress.{Progress}
use Rattle.planfile.specs.declared.refusal.Spot.{Spot}
use Rattle.planfile.specs.Fields.{price_of, spare_bytes}
use Rattle.planfile.specs.Records.{Step, stepped, class_line, weekend_line, book_line, bound_line, quote_line, limit_line}
use Rattle.planfile.proofs.Passed.{ClassOk, WeekendOk, BookOk, BoundOk, QuoteOk, LimitOk, class_ok, weekend_ok, book_ok, bound_ok, quote_ok, limit_ok}

pub data Accepted (k : FileKind) (p q : Progress) (r : List ℕ) : Type 0 where
  is_class : get_or r 0 0 ≡ 67 → ClassOk p q (get_or r 1 0) (get_or r 2 0) (drop 3 r) → Accepted k p q r
  is_weekend : get_or r 0 0 ≡ 87 → WeekendOk p q (get_or r 1 0) (drop 2 r) → Accepted k p q r
  is_book : get_or r 0 0 ≡ 66 → BookOk p q (get_or r 1 0) (get_or r 2 0) (drop 3 r) → Accepted k p q r
  is_bound : get_or r 0 0 ≡ 78 → BoundOk p q (get_or r 1 0) (get_or r 2 0) (get_or r 3 0) (get_or r 4 0) (drop 5 r) → Accepted k p q r
  is_quote : get_or r 0 0 ≡ 81 → QuoteOk p q (get_or r 1 0) (get_or r 2 0) (take (spare_bytes k) (drop 3 r)) (price_of r) → Accepted k p q r
  is_limit : get_or r 0 0 ≡ 76 → LimitOk p q (take (spare_bytes k + 2) (drop 1 r)) (price_of r) → Accepted k p q r

either : (b : Bool) (x y : Step) (q : Progress) → cond b x y ≡ Ok q → ((b ≡ true) × (x ≡ Ok q)) ⊎ (y ≡ Ok q)
either true x y q e = inl (refl, e)
either false x y q e = inr e

never : {X : Type 0} (s : Spot) (q : Progress) → ◌≡◌ {A = Step} (Err s) (Ok q) → X
never s q e = absurd cc

pub accepted : (k : FileKind) (p q : Progress) (r : List ℕ) → stepped k p r ≡ Ok q → Accepted k p q r
unfolding stepped class_line weekend_line book_line bound_line quote_line limit_line
accepted k p q r e =
    ⊎_elim (λ h. is_class (eqb-true _ _ h.0) (class_ok _ _ _ _ _ h.1))
    (λ e1. ⊎_elim (λ h. is_weekend (eqb-true _ _ h.0) (weekend_ok _ _ _ _ h.1))
    (λ e2. ⊎_elim (λ h. is_book (eqb-true _ _ h.0) (book_ok _ _ _ _ _ h.1))
    (λ e3. ⊎_elim (λ h. is_bound (eqb-true _ _ h.0) (bound_ok _ _ _ _ _ _ _ h.1))
    (λ e4. ⊎_elim (λ h. is_quote (eqb-true _ _ h.0) (quote_ok _ _ _ _ _ _ h.1))
    (λ e5. ⊎_elim (λ h. is_limit (eqb-true _ _ h.0) (limit_ok _ _ _ _ h.1))
    (λ e6. never _ q e6)
    (either _ _ _ q e5)) (either _ _ _ q e4)) (either _ _ _ q e3)) (either _ _ _ q e2)) (either _ _ _ q e1)) (either _ _ _ q e)
