-- Every way to send n books is among the assignments. Assumes nothing.
use Rattle.std.proofs.Common.{◌≡◌, ℕ, zero, suc, ◌<◌, Bool, true, ◌⊎◌, List, [], ◌∷◌, ◌++◌, sym, refl, ap, ◌∙◌, subst, inl, inr, ⊎_elim, arith}
use Rattle.std.proofs.lemmas.Bool.{cases_eq, or_cases, or_left, or_right, false≢true}
use Rattle.plans.specs.Trials.{led, led_below, assignments, sends, any_of}

-- p, as a list of n weekends
abbrev pub listed : ℕ → (ℕ → ℕ) → List ℕ
listed zero p = []
listed (suc n) p = p 0 ∷ listed n (λ b. p (suc b))

pub listed_at : (n : ℕ) (p : ℕ → ℕ) (b : ℕ) → b < n → sends (listed n p) b ≡ p b
listed_at zero p b l = absurd (omega arith)
listed_at (suc n) p zero l = refl
listed_at (suc n) p (suc b) l = listed_at n (λ x. p (suc x)) b (omega arith)

abbrev pub In : List ℕ → List (List ℕ) → Type 0
In x [] = ⊥
In x (y ∷ ys) = (x ≡ y) ⊎ In x ys

in_left : (x : List ℕ) (xs ys : List (List ℕ)) → In x xs → In x (xs ++ ys)
in_left x [] ys i = elim i [ ]
in_left x (y ∷ xs) ys (inl e) = inl e
in_left x (y ∷ xs) ys (inr i) = inr (in_left x xs ys i)

in_right : (x : List ℕ) (xs ys : List (List ℕ)) → In x ys → In x (xs ++ ys)
in_right x [] ys i = i
in_right x (y ∷ xs) ys i = inr (in_right x xs ys i)

in_led : (w : ℕ) (x : List ℕ) (xs : List (List ℕ)) → In x xs → In (w ∷ x) (led w xs)
in_led w x [] i = i
in_led w x (y ∷ xs) (inl e) = inl (ap {B = List ℕ} (λ z. w ∷ z) e)
in_led w x (y ∷ xs) (inr i) = inr (in_led w x xs i)

in_led_below : (m w : ℕ) (x : List ℕ) (xs : List (List ℕ)) → w < m → In x xs → In (w ∷ x) (led_below m xs)
in_led_below zero w x xs l i = absurd (omega arith)
in_led_below (suc m) w x xs l i =
    ⊎_elim
    (λ (e : w ≡ m). in_right (w ∷ x) (led_below m xs) (led m xs) (subst (λ v. In (v ∷ x) (led m xs)) (sym e) (in_led m x xs i)))
    (λ (d : w ≡ m → ⊥). in_left (w ∷ x) (led_below m xs) (led m xs) (in_led_below m w x xs (omega arith) i))
    (cases_eq w m)

pub in_assignments : (n m : ℕ) (p : ℕ → ℕ) → ((b : ℕ) → b < n → p b < m) → In (listed n p) (assignments n m)
unfolding assignments
in_assignments zero m p h = inl refl
in_assignments (suc n) m p h =
    in_led_below m (p 0) (listed n (λ b. p (suc b))) (assignments n m) (h 0 (omega arith)) (in_assignments n m (λ b. p (suc b)) (λ b l. h (suc b) (omega arith)))

pub any_found : (t : List ℕ → Bool) (xs : List (List ℕ)) → any_of t xs ≡ true → (ws : List ℕ) × (t ws ≡ true)
unfolding any_of
any_found t [] e = absurd (false≢true e)
any_found t (x ∷ xs) e = ⊎_elim (λ (q : t x ≡ true). (x, q)) (λ q. any_found t xs q) (or_cases (t x) (any_of t xs) e)

pub any_in : (t : List ℕ → Bool) (xs : List (List ℕ)) (ws : List ℕ) → In ws xs → t ws ≡ true → any_of t xs ≡ true
unfolding any_of
any_in t [] ws i e = elim i [ ]
any_in t (x ∷ xs) ws (inl q) e = or_left (t x) (any_of t xs) (ap t (sym q) ∙ e)
any_in t (x ∷ xs) ws (inr i) e = or_right (t x) (any_of t xs) (any_in t xs ws i e)
