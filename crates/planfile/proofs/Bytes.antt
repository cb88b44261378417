-- Numbers as bytes, the low byte first, there and back.
use Rattle.std.proofs.Common.{◌≡◌, ℕ, zero, suc, ◌+◌, ◌*◌, ◌/◌, ◌%◌, ◌^◌, ◌<◌, ◌≤◌, cond, not, eqb, List, [], ◌∷◌, ◌++◌, length, get_or, take, drop, replicate, ℤ, pos, Some, None, Option, sym, refl, ap, ◌∙◌, add-zero, arith, w32, w64, SFits, to_z, of_z}
use mir.Facts.{Fits-of_z, sfits_to_z}
use Rattle.std.proofs.lemmas.List.{drop_more, drop_all, get_or-take, get_or-drop}
use Rattle.std.proofs.lemmas.Int.{to_z-of_z, of_z-to_z}
use Rattle.std.proofs.lemmas.Bool.Decides.{nat_tests}
use Rattle.std.proofs.lemmas.Iterator.Adapters.{position_from-zero}
use Rattle.std.specs.Option.{option_map}
use Rattle.std.specs.List.{AllByRecursion, position, position_from}
use Rattle.planfile.specs.declared.fields.Price.{Price}
use Rattle.planfile.specs.Fields.{nonzero, strain, money, price_of}
use Rattle.planfile.specs.Description.{low_first, price_bytes}

-- the number that bytes make
abbrev value : List ℕ → ℕ
value [] = 0
value (b ∷ bs) = b + 256 * value bs

low_value : (bs : List ℕ) → AllByRecursion (λ b. b < 256) bs → low_first (length bs) (value bs) ≡ bs
low_value [] h = refl
low_value (b ∷ bs) h =
    let l : b < 256 = h.0 in
    let m : (b + 256 * value bs) % 256 ≡ b = omega arith in
    let d : (b + 256 * value bs) / 256 ≡ value bs = omega arith in
    rw (m, d) (ap (λ t. b ∷ t) (low_value bs h.1))

-- a record, byte by byte
abbrev pub Bytes : List ℕ → Type 0
Bytes r = (i : ℕ) → get_or r i 0 < 256

-- bytes that are zero
zero_head : (b k : ℕ) (o : Option ℕ) → cond (not (eqb b 0)) (Some k) o ≡ None → (b ≡ 0) × (o ≡ None)
zero_head b k o e = grind (arith, nat_tests)

pub none_zeros : (k : ℕ) (bs : List ℕ) → nonzero k bs ≡ None → bs ≡ replicate (length bs) 0
unfolding nonzero
none_zeros k [] e = refl
none_zeros k (b ∷ bs) e =
    let h = zero_head b k (nonzero (k + 1) bs) e in
    ap (λ x. x ∷ bs) h.0 ∙ ap (λ t. 0 ∷ t) (none_zeros (k + 1) bs h.1)

pub zeros_none : (k n : ℕ) → nonzero k (replicate n 0) ≡ None
unfolding nonzero
zeros_none k zero = refl
zeros_none k (suc n) = zeros_none (k + 1) n

-- a record is its bytes
module _ (r : List ℕ) (long : length r ≡ 16) where
  one : (i : ℕ) → i < 16 → drop i r ≡ get_or r i 0 ∷ drop (i + 1) r
  one i h = drop_more r i 0 (omega arith)

  pub one_number : r ≡ get_or r 0 0 ∷ get_or r 1 0 ∷ drop 2 r
  one_number = one 0 (omega arith) ∙ ap (λ t. get_or r 0 0 ∷ t) (one 1 (omega arith))

  pub two_numbers : r ≡ get_or r 0 0 ∷ get_or r 1 0 ∷ get_or r 2 0 ∷ drop 3 r
  two_numbers = one_number ∙ ap (λ t. get_or r 0 0 ∷ get_or r 1 0 ∷ t) (one 2 (omega arith))

  pub three_numbers : r ≡ get_or r 0 0 ∷ get_or r 1 0 ∷ get_or r 2 0 ∷ get_or r 3 0 ∷ drop 4 r
  three_numbers = two_numbers ∙ ap (λ t. get_or r 0 0 ∷ get_or r 1 0 ∷ get_or r 2 0 ∷ t) (one 3 (omega arith))

  pub four_numbers : r ≡ get_or r 0 0 ∷ get_or r 1 0 ∷ get_or r 2 0 ∷ get_or r 3 0 ∷ get_or r 4 0 ∷ drop 5 r
  four_numbers =
      three_numbers ∙ ap (λ t. get_or r 0 0 ∷ get_or r 1 0 ∷ get_or r 2 0 ∷ get_or r 3 0 ∷ t) (one 4 (omega arith))

  four : (i : ℕ) → i + 4 ≤ 16 → drop i r ≡ get_or r i 0 ∷ get_or r (i + 1) 0 ∷ get_or r (i + 2) 0 ∷ get_or r (i + 3) 0 ∷ drop (i + 4) r
  four i h =
      let e1 : i + 1 + 1 ≡ i + 2 = omega arith in let e2 : i + 2 + 1 ≡ i + 3 = omega arith in let e3 : i + 3 + 1 ≡ i + 4 = omega arith in
      one i (omega arith) ∙ ap (λ t. get_or r i 0 ∷ t)
      (one (i + 1) (omega arith) ∙ (ap (λ n. get_or r (i + 1) 0 ∷ drop n r) e1 ∙ ap (λ t. get_or r (i + 1) 0 ∷ t)
      (one (i + 2) (omega arith) ∙ (ap (λ n. get_or r (i + 2) 0 ∷ drop n r) e2 ∙ ap (λ t. get_or r (i + 2) 0 ∷ t)
      (one (i + 3) (omega arith) ∙ ap (λ n. get_or r (i + 3) 0 ∷ drop n r) e3)))))

  module _ (bytes : Bytes r) where
    strain_bytes : low_first 4 (of_z w32 (strain r)) ≡ get_or r 4 0 ∷ get_or r 5 0 ∷ get_or r 6 0 ∷ get_or r 7 0 ∷ []
    unfolding strain
    strain_bytes =
        let b4 = bytes 4 in let b5 = bytes 5 in let b6 = bytes 6 in let b7 = bytes 7 in
        let n : ℕ = get_or r 4 0 + get_or r 5 0 * 256 + get_or r 6 0 * 65536 + get_or r 7 0 * 16777216 in
        let e : n ≡ value (get_or r 4 0 ∷ get_or r 5 0 ∷ get_or r 6 0 ∷ get_or r 7 0 ∷ []) = omega arith in
        ap (low_first 4) (of_z-to_z w32 n (omega arith) ∙ e) ∙ low_value _ (b4, (b5, (b6, (b7, tt))))

    money_bytes : low_first 8 (of_z w64 (money r)) ≡ get_or r 8 0 ∷ get_or r 9 0 ∷ get_or r 10 0 ∷ get_or r 11 0 ∷ get_or r 12 0 ∷ get_or r 13 0 ∷ get_or r 14 0 ∷ get_or r 15 0 ∷ []
    unfolding money
    money_bytes =
        let b8 = bytes 8 in let b9 = bytes 9 in let b10 = bytes 10 in let b11 = bytes 11 in
        let b12 = bytes 12 in let b13 = bytes 13 in let b14 = bytes 14 in let b15 = bytes 15 in
        let n : ℕ = get_or r 8 0 + get_or r 9 0 * 256 + get_or r 10 0 * 65536 + get_or r 11 0 * 16777216
        + get_or r 12 0 * 4294967296 + get_or r 13 0 * 1099511627776 + get_or r 14 0 * 281474976710656 + get_or r 15 0 * 72057594037927936 in
        let e : n ≡ value (get_or r 8 0 ∷ get_or r 9 0 ∷ get_or r 10 0 ∷ get_or r 11 0 ∷ get_or r 12 0 ∷ get_or r 13 0 ∷ get_or r 14 0 ∷ get_or r 15 0 ∷ []) = omega arith in
        ap (low_first 8) (of_z-to_z w64 n (omega arith) ∙ e) ∙ low_value _ (b8, (b9, (b10, (b11, (b12, (b13, (b14, (b15, tt))))))))

    -- what stands in bytes 4 to 15 is the price that is read there
    pub price_bytes_lem : drop 4 r ≡ price_bytes (price_of r)
    price_bytes_lem =
        four 4 (omega arith) ∙ (ap (λ t. get_or r 4 0 ∷ get_or r 5 0 ∷ get_or r 6 0 ∷ get_or r 7 0 ∷ t)
        (four 8 (omega arith) ∙ ap (λ t. get_or r 8 0 ∷ get_or r 9 0 ∷ get_or r 10 0 ∷ get_or r 11 0 ∷ t)
        (four 12 (omega arith) ∙ ap (λ t. get_or r 12 0 ∷ get_or r 13 0 ∷ get_or r 14 0 ∷ get_or r 15 0 ∷ t) (drop_all 16 r (omega arith))))
        ∙ sym (ap (λ t. t ++ low_first 8 (of_z w64 (money r))) strain_bytes ∙ ap (λ t. get_or r 4 0 ∷ get_or r 5 0 ∷ get_or r 6 0 ∷ get_or r 7 0 ∷ t) money_bytes))

-- four bytes and eight, put together again
four_sum : (x : ℕ) → x < 2 ^ 32 → x % 256 + x / 256 % 256 * 256 + x / 256 / 256 % 256 * 65536 + x / 256 / 256 / 256 % 256 * 16777216 ≡ x
four_sum x h = omega arith

eight_sum : (x : ℕ) → x < 2 ^ 64 → x % 256 + x / 256 % 256 * 256 + x / 256 / 256 % 256 * 65536 + x / 256 / 256 / 256 % 256 * 16777216
    + x / 256 / 256 / 256 / 256 % 256 * 4294967296 + x / 256 / 256 / 256 / 256 / 256 % 256 * 1099511627776
    + x / 256 / 256 / 256 / 256 / 256 / 256 % 256 * 281474976710656 + x / 256 / 256 / 256 / 256 / 256 / 256 / 256 % 256 * 72057594037927936 ≡ x
eight_sum x h = omega arith

priced : (p : Price) (s m : ℤ) → s ≡ p.strain → m ≡ p.money → ◌≡◌ {A = Price} (record { strain = s; money = m }) p
priced p s m e h = ap (λ x. record { strain = x; money = m }) e ∙ ap (λ x. record { strain = p.strain; money = x }) h

-- a price read from where it was laid out
pub price_back : (a b c : ℕ) (p : Price) → SFits w32 p.strain → SFits w64 p.money → price_of (a ∷ b ∷ c ∷ 0 ∷ price_bytes p) ≡ p
unfolding strain money
price_back a b c p f g =
    priced p _ _ (ap (to_z w32) (four_sum (of_z w32 p.strain) (Fits-of_z f).fits) ∙ to_z-of_z w32 p.strain f)
    (ap (to_z w64) (eight_sum (of_z w64 p.money) (Fits-of_z g).fits) ∙ to_z-of_z w64 p.money g)

get_or_zeros : (m j : ℕ) → ◌≡◌ {A = ℕ} (get_or (replicate m 0) j 0) 0
get_or_zeros zero j = refl
get_or_zeros (suc m) zero = refl
get_or_zeros (suc m) (suc j) = get_or_zeros m j

-- one of the bytes that must be zero
pub zero_at : (r : List ℕ) (i n k j : ℕ) → j < n → nonzero k (take n (drop i r)) ≡ None → get_or r (i + j) 0 ≡ 0
zero_at r i n k j h e =
    sym (get_or-take n (drop i r) j 0 h ∙ get_or-drop i r j 0) ∙ (ap (λ t. get_or t j 0) (none_zeros k (take n (drop i r)) e) ∙ get_or_zeros _ j)

pub no_strain : (r : List ℕ) → get_or r 4 0 ≡ 0 → get_or r 5 0 ≡ 0 → get_or r 6 0 ≡ 0 → get_or r 7 0 ≡ 0 → strain r ≡ pos 0
unfolding strain
no_strain r a b c d = let e : get_or r 4 0 + get_or r 5 0 * 256 + get_or r 6 0 * 65536 + get_or r 7 0 * 16777216 ≡ 0 = omega arith in ap (to_z w32) e

pub strain_fits : (r : List ℕ) → Bytes r → SFits w32 (strain r)
unfolding strain
strain_fits r h =
    let b4 = h 4 in let b5 = h 5 in let b6 = h 6 in let b7 = h 7 in
    sfits_to_z (record { fits = omega arith })

-- the first byte that is not zero, counted from the front of the list and from place k
nonzero_shift : (k i : ℕ) (bs : List ℕ) → nonzero (k + i) bs ≡ option_map (λ j. k + j) (position_from (λ b. not (eqb b 0)) i bs)
unfolding nonzero
nonzero_shift k i [] = refl
nonzero_shift k i (b ∷ bs) = let h = nonzero_shift k (i + 1) bs in grind arith

pub nonzero_position : (k : ℕ) (bs : List ℕ) → nonzero k bs ≡ option_map (λ j. k + j) (position (λ b. not (eqb b 0)) bs)
nonzero_position k bs = ap (λ n. nonzero n bs) (sym (add-zero k)) ∙ nonzero_shift k 0 bs ∙ ap (option_map (λ j. k + j)) (sym (position_from-zero (λ b. not (eqb b 0)) bs))
