-- Words of open weekends, weekend by weekend and book by book. Assumes nothing.
use Rattle.std.proofs.Common.{◌≡◌, ℕ, ◌+◌, ◌-◌, ◌^◌, ◌<◌, ◌≤◌, Bool, true, false, ◌&&◌, eqb, ltb, List, ◌++◌, length, drop, get_or, replicate, is_some, Option, sym, ap, ◌∙◌, ⊎_elim, arith}
use lib.Bits.{bit_or}
use Rattle.std.proofs.lemmas.List.{get_or-append_right, get_or-drop}
use Rattle.std.proofs.Math.ListN.{get_or-append}
use Rattle.std.proofs.lemmas.Bool.{cases_eq, cases_lt, lt-ltb, le-ltb, eq-eqb, ne_eqb, and_from, and_right, cond-true, cond-false}
use Rattle.sources.specs.Tables.{bit_at}
use Rattle.sources.proofs.Bits16.{set_bit, bit_none}
use Rattle.plans.proofs.Padding.{get_or_filled}
use Rattle.solver.specs.Held.{word_at}

pub ltb_more : (i n : ℕ) → (i ≡ n → ⊥) → ltb i (n + 1) ≡ ltb i n
ltb_more i n d =
    ⊎_elim
    (λ (h : i < n). lt-ltb i (n + 1) (omega arith) ∙ sym (lt-ltb i n h))
    (λ (h : n ≤ i). le-ltb i (n + 1) (omega arith) ∙ sym (le-ltb i n h))
    (cases_lt i n)

-- one more weekend of a book's word, shut or open
module _ {V : Type 0} (row : ℕ → Option V) (n word : ℕ) (before : (w : ℕ) → bit_at word w ≡ (ltb w n && is_some (row w))) (q : Option V) (is : q ≡ row n) where
  other_bit : (w : ℕ) → (w ≡ n → ⊥) → bit_at word w ≡ (ltb w (n + 1) && is_some (row w))
  other_bit w d = before w ∙ ap (λ x. x && is_some (row w)) (sym (ltb_more w n d))

  here : (w : ℕ) → w ≡ n → is_some (row w) ≡ is_some q
  here w e = ap (λ x. is_some (row x)) e ∙ ap is_some (sym is)

  pub word_shut : false ≡ is_some q → (w : ℕ) → bit_at word w ≡ (ltb w (n + 1) && is_some (row w))
  word_shut shut w =
      ⊎_elim
      (λ (e : w ≡ n). let s = here w e ∙ sym shut in before w ∙ and_right (ltb w n) (is_some (row w)) s ∙ sym (and_right (ltb w (n + 1)) (is_some (row w)) s))
      (other_bit w)
      (cases_eq w n)

  pub word_open : true ≡ is_some q → (w : ℕ) → bit_at (bit_or word (2 ^ n)) w ≡ (ltb w (n + 1) && is_some (row w))
  word_open opened w =
      set_bit word n w
      ∙ ⊎_elim
      (λ (e : w ≡ n). cond-true (eqb w n) true (bit_at word w) (eq-eqb w n e) ∙ sym (and_from (ltb w (n + 1)) (is_some (row w)) (lt-ltb w (n + 1) (omega arith)) (here w e ∙ sym opened)))
      (λ (d : w ≡ n → ⊥). cond-false (eqb w n) true (bit_at word w) (ne_eqb w n d) ∙ other_bit w d)
      (cases_eq w n)

-- words of the first books, with none behind them: where no later book is open, they say where all are
pub words_on : (t : ℕ → ℕ → Bool) (n m : ℕ) (words : List ℕ) → length words ≡ n → ((b : ℕ) → b < n → (w : ℕ) → word_at words b w ≡ t b w) → ((b : ℕ) → n ≤ b → (w : ℕ) → t b w ≡ false) →
    (b w : ℕ) → word_at (words ++ drop n (replicate m 0)) b w ≡ t b w
words_on t n m words long within none b w =
    ⊎_elim
    (λ (l : b < n). ap (λ x. bit_at x w) (get_or-append words (drop n (replicate m 0)) 0 b (omega arith)) ∙ within b l w)
    (λ (l : n ≤ b). ap (λ x. bit_at x w) (get_or-append_right words (drop n (replicate m 0)) n b 0 long l ∙ get_or-drop n (replicate m 0) (b - n) 0 ∙ get_or_filled m (n + (b - n)) 0) ∙ bit_none w ∙ sym (none b l w))
    (cases_lt b n)
