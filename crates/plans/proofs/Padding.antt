-- Lists that are filled, padded and written, read place by place; and lists that pass a test of place and number. Assumes nothing.
use Rattle.std.proofs.Common.{◌≡◌, ℕ, zero, suc, ◌+◌, ◌-◌, ◌<◌, ◌≤◌, max, Bool, true, false, ltb, leb, ◌&&◌, List, [], ◌∷◌, ◌++◌, length, get_or, replicate, sym, refl, ap, ◌∙◌, subst, ⊎_elim, arith}
use Rattle.std.specs.Bool.{MatchBool}
use Rattle.std.specs.List.{enumerate_from, AllWithin, HoldsAt}
use Rattle.std.proofs.lemmas.Bool.{and_parts, and_from, and_left, and_right, ltb-true, leb-true, cases_lt}
use Rattle.std.proofs.lemmas.List.{get_or_past, length-append, length-replicate}
use Rattle.std.proofs.lemmas.List.FromFn.{length-enumerate_from, get_or-enumerate_from}
use Rattle.plans.specs.Rosters.{passes, parent_fits, class_fits, parents_fit, padded}

-- a list of one value, read at that value
pub get_or_filled : {X : Type 0} (n k : ℕ) (x : X) → get_or (replicate n x) k x ≡ x
get_or_filled zero k x = refl
get_or_filled (suc n) zero x = refl
get_or_filled (suc n) (suc k) x = get_or_filled n k x

-- ---- a list with zeros behind it
behind_zeros : (xs : List ℕ) (m i : ℕ) → get_or (xs ++ replicate m 0) i 0 ≡ get_or xs i 0
behind_zeros [] m i = get_or_filled {X = ℕ} m i 0
behind_zeros (x ∷ xs) m zero = refl
behind_zeros (x ∷ xs) m (suc i) = behind_zeros xs m i

pub padded_reads : (n : ℕ) (xs : List ℕ) (i : ℕ) → get_or (padded n xs) i 0 ≡ get_or xs i 0
padded_reads n xs i = behind_zeros xs (n - length xs) i

pub padded_long : (n : ℕ) (xs : List ℕ) → length xs ≤ n → length (padded n xs) ≡ n
padded_long n xs few = omega (arith, length-append xs (replicate (n - length xs) 0), length-replicate {A = ℕ} (n - length xs) 0)

-- ---- a test of place and number
pub passes_at : (t : ℕ → ℕ → Bool) (i : ℕ) (xs : List ℕ) → passes t i xs ≡ true → (j : ℕ) → j < length xs → t (i + j) (get_or xs j 0) ≡ true
passes_at t i [] e j l = absurd (omega arith)
passes_at t i (x ∷ xs) e zero l =
    let z : i + 0 ≡ i = omega arith in
    ap (λ k. t k x) z ∙ (and_parts (t i x) (passes t (i + 1) xs) e).0
passes_at t i (x ∷ xs) e (suc j) l =
    let z : i + suc j ≡ i + 1 + j = omega arith in
    ap (λ k. t k (get_or xs j 0)) z ∙ passes_at t (i + 1) xs (and_parts (t i x) (passes t (i + 1) xs) e).1 j (omega arith)

pub passes_from : (t : ℕ → ℕ → Bool) (i : ℕ) (xs : List ℕ) → ((j : ℕ) → j < length xs → t (i + j) (get_or xs j 0) ≡ true) → passes t i xs ≡ true
passes_from t i [] h = refl
passes_from t i (x ∷ xs) h =
    let z : i ≡ i + 0 = omega arith in
    and_from (t i x) (passes t (i + 1) xs) (ap (λ k. t k x) z ∙ h 0 (omega arith))
    (passes_from t (i + 1) xs (λ j l. let z : i + 1 + j ≡ i + suc j = omega arith in ap (λ k. t k (get_or xs j 0)) z ∙ h (suc j) (omega arith)))

passes_fail : (t : ℕ → ℕ → Bool) (i : ℕ) (xs : List ℕ) (j : ℕ) → j < length xs → t (i + j) (get_or xs j 0) ≡ false → passes t i xs ≡ false
passes_fail t i [] j l e = absurd (omega arith)
passes_fail t i (x ∷ xs) zero l e =
    let z : i ≡ i + 0 = omega arith in
    and_left (t i x) (passes t (i + 1) xs) (ap (λ k. t k x) z ∙ e)
passes_fail t i (x ∷ xs) (suc j) l e =
    let z : i + 1 + j ≡ i + suc j = omega arith in
    and_right (t i x) (passes t (i + 1) xs) (passes_fail t (i + 1) xs j (omega arith) (ap (λ k. t k (get_or xs j 0)) z ∙ e))

-- what `all` answers, of the numbers of a list and of the numbers with their places
pub all_passes : (t : ℕ → Bool) (xs : List ℕ) (r : Bool) → MatchBool r (AllWithin (λ x. t x ≡ true) xs 0 (length xs)) ((k : ℕ) × (k < length xs) × HoldsAt (λ x. t x ≡ false) xs k) → r ≡ passes (λ _ x. t x) 0 xs
all_passes t xs true h = sym (passes_from (λ _ x. t x) 0 xs (λ j l. h j 0 (omega arith) l))
all_passes t xs false h = sym (passes_fail (λ _ x. t x) 0 xs h.0 h.1 (h.2 0))

pub all_placed : (t : ℕ → ℕ → Bool) (xs : List ℕ) (r : Bool)
    → MatchBool r (AllWithin (λ (p : ℕ × ℕ). t p.0 p.1 ≡ true) (enumerate_from 0 xs) 0 (length (enumerate_from 0 xs))) ((k : ℕ) × (k < length (enumerate_from 0 xs)) × HoldsAt (λ (p : ℕ × ℕ). t p.0 p.1 ≡ false) (enumerate_from 0 xs) k)
    → r ≡ passes t 0 xs
all_placed t xs true h =
    sym (passes_from t 0 xs (λ j l. subst (λ (p : ℕ × ℕ). t p.0 p.1 ≡ true) (get_or-enumerate_from 0 xs j (0, 0) l) (h j (0, 0) (omega arith) (omega (arith, length-enumerate_from 0 xs)))))
all_placed t xs false h =
    let l : h.0 < length xs = omega (arith, h.1, length-enumerate_from 0 xs) in
    sym (passes_fail t 0 xs h.0 l (subst (λ (p : ℕ × ℕ). t p.0 p.1 ≡ false) (get_or-enumerate_from 0 xs h.0 (0, 0) l) (h.2 (0, 0))))

-- what passes the tests of a roster is small, wherever it is read
parents_low : (ps : List ℕ) → passes parent_fits 0 ps ≡ true → (c : ℕ) → get_or ps c 0 < max 1 c
parents_low ps e c =
    ⊎_elim
    (λ (l : c < length ps). let z : c ≡ 0 + c = omega arith in ltb-true (get_or ps c 0) (max 1 c) (ap (λ k. ltb (get_or ps c 0) (max 1 k)) z ∙ passes_at parent_fits 0 ps e c l))
    (λ (l : length ps ≤ c). omega (arith, get_or_past ps c 0 l))
    (cases_lt c (length ps))

pub homes_low : (n : ℕ) (hs : List ℕ) → 1 ≤ n → passes (class_fits n) 0 hs ≡ true → (b : ℕ) → get_or hs b 0 < n
homes_low n hs some e b =
    ⊎_elim
    (λ (l : b < length hs). ltb-true (get_or hs b 0) n (passes_at (class_fits n) 0 hs e b l))
    (λ (l : length hs ≤ b). omega (arith, get_or_past hs b 0 l))
    (cases_lt b (length hs))

-- parents that fit are of 1 to 8 classes, and each is one of them
pub record Fitting (ps : List ℕ) : Type 0 where
  pub some : 1 ≤ length ps
  pub few : length ps ≤ 8
  pub low : (c : ℕ) → get_or ps c 0 < max 1 c
  pub known : (c : ℕ) → get_or ps c 0 < length ps

pub fitting : (ps : List ℕ) → parents_fit ps ≡ true → Fitting ps
fitting ps e =
    let parts = and_parts (leb 1 (length ps) && leb (length ps) 8) (passes parent_fits 0 ps) e in
    let sizes = and_parts (leb 1 (length ps)) (leb (length ps) 8) parts.0 in
    let some = leb-true 1 (length ps) sizes.0 in
    record {
      some = some;
      few = leb-true (length ps) 8 sizes.1;
      low = parents_low ps parts.1;
      known = λ c.
          ⊎_elim (λ (l : c < length ps). omega (arith, some, parents_low ps parts.1 c)) (λ (l : length ps ≤ c). omega (arith, some, get_or_past ps c 0 l)) (cases_lt c (length ps));
    }
