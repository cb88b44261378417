-- Books are placed one by one: what is found for a book, and what one book more changes. Assumes nothing.
use Rattle.std.proofs.Common.{◌≡◌, ℕ, ◌+◌, ◌^◌, ◌<◌, ◌≤◌, Bool, true, false, cond, not, ◌&&◌, eqb, set, replicate, is_some, Some, None, Option, sym, refl, ap, ◌∙◌, subst, ⊎_elim, add-one, arith, below_more}
use Rattle.std.proofs.lemmas.List.{get_or-set_same, get_or-set_other}
use Rattle.std.proofs.lemmas.Bool.{cases_eq, eq-eqb, eqb-true, or_from, both_ways, not_from_false}
use Rattle.std.specs.Ordering.{is_lt}
use Rattle.amounts.specs.Kind.{Kind}
use Rattle.amounts.specs.Sums.{bit, tally}
use Rattle.amounts.proofs.Numbers.{tally_more, tally_same, tally_le}
use Rattle.sources.specs.Tables.{bit_at}
use Rattle.sources.proofs.Bits16.{set_bit, bit_none}
use Rattle.plans.specs.declared.class_tree.Roster.{Roster}
use Rattle.plans.specs.Places.{at}
use Rattle.plans.specs.Posed.{Meaning, is_member, assignment_count}
use Rattle.plans.specs.Sheets.{goes, stranded}
use Rattle.plans.proofs.Below.{some_more, some_from}
use Rattle.solver.specs.declared.choices.Choice.{Choice}
use Rattle.solver.specs.declared.state.State.{State}
use Rattle.solver.specs.Choosing.{cheaper}
use Rattle.solver.specs.Residual.{node}
use Rattle.solver.specs.Held.{word_at}
use Rattle.solver.specs.Starting.{Found, Placed}
use Rattle.plans.proofs.Padding.{get_or_filled}
use Rattle.solver.proofs.Stated.{sent_long, words_long}
use Rattle.solver.specs.States.{sent_of, words_of}

-- one more weekend of a book, shut or open, as its word says
module _ {V X : Type 0} (quotes : ℕ → Option V) (word : ℕ) (bits : (w : ℕ) → bit_at word w ≡ is_some (quotes w)) (n : ℕ) where
  pub found_shut : (found : Option (Choice X)) → Found quotes n found → false ≡ bit_at word n → Found quotes (n + 1) found
  found_shut None before shut = some_more n (λ w. is_some (quotes w)) ∙ or_from (is_some (quotes n)) (goes n quotes) (sym (bits n) ∙ sym shut) before
  found_shut (Some o) before shut = (omega (arith, before.0), before.1)

pub found_open : {V X : Type 0} (K : Kind X) (quotes : ℕ → Option V) (word : ℕ) (bits : (w : ℕ) → bit_at word w ≡ is_some (quotes w)) (n : ℕ) (found : Option (Choice X)) → Found quotes n found → true ≡ bit_at word n → (more r : Choice X) → more.place ≡ n → r ≡ cheaper K found more → Found quotes (n + 1) (Some r)
found_open {X = X} K quotes word bits n found before opened more r at_n is = subst (λ r. Found quotes (n + 1) (Some r)) (sym is) (go found before)
  where
    new : Found quotes (n + 1) (Some more)
    new = (omega arith, ap (λ x. is_some (quotes x)) at_n ∙ sym (bits n) ∙ sym opened)

    go : (found : Option (Choice X)) → Found quotes n found → Found quotes (n + 1) (Some (cheaper K found more))
    go None h = new
    go (Some o) h = elim (is_lt (K.cmp more.cost o.cost)) as (λ t. Found quotes (n + 1) (Some (cond t more o))) [ true ↦ new | false ↦ (omega (arith, h.0), h.1) ]

pub none_open : {V : Type 0} (books weekends : ℕ) (quotes : ℕ → ℕ → Option V) (b : ℕ) → b < books → goes weekends (quotes b) ≡ false → stranded books weekends quotes ≡ true
unfolding stranded
none_open books weekends quotes b l shut = some_from books b (λ i. not (goes weekends (quotes i))) l (not_from_false (goes weekends (quotes b)) shut)

module _ {V : Type 0} (source : Meaning V) (roster : Roster) where
  pub placed_none : (s : State) → words_of s ≡ replicate 120 0 → s.counts ≡ replicate 128 0 → Placed source roster 0 s
  unfolding tally
  placed_none s words counts = record {
    sent = λ b l. absurd (omega arith);
    meets = λ b l. absurd (omega arith);
    fixed = λ b x e. absurd (both_ways (word_at (words_of s) b x) (ap (λ words. word_at words b x) words ∙ ap (λ word. bit_at word x) (get_or_filled 120 b 0) ∙ bit_none x) e);
    own = λ b l. absurd (omega arith);
    counts = λ w c lw lc. ap (λ l. at l (node w c)) counts ∙ get_or_filled 128 (node w c) 0;
  }

  -- every book is at one of the weekends, also before it is sent
  pub within_none : 1 ≤ source.weekends → (s : State) → sent_of s ≡ replicate 120 0 → (b : ℕ) → at (sent_of s) b < source.weekends
  within_none some s sent b = omega (arith, some, ap (λ l. at l b) sent ∙ get_or_filled 120 b 0)

  module _ (n : ℕ) (s : State) (before : Placed source roster n s) (w₀ : ℕ) where
    -- a count is at most the number of books
    pub placed_room : n ≤ 120 → w₀ < 16 → (c : ℕ) → c < 8 → at s.counts (node w₀ c) ≤ 120
    placed_room few near c h = omega (arith, before.counts w₀ c near h, tally_le n (λ b. eqb (at (sent_of s) b) w₀ && is_member roster b c))

    module _ (t : State) (few : n < 120) (sent_is : (sent_of t) ≡ set (sent_of s) n w₀) (words_is : (words_of t) ≡ set (words_of s) n (2 ^ w₀)) where
      sent_here : at (sent_of t) n ≡ w₀
      sent_here = ap (λ l. at l n) sent_is ∙ get_or-set_same (sent_of s) n w₀ 0 (omega (arith, sent_long s))

      sent_other : (b : ℕ) → (b ≡ n → ⊥) → at (sent_of t) b ≡ at (sent_of s) b
      sent_other b d = ap (λ l. at l b) sent_is ∙ get_or-set_other (sent_of s) n b w₀ 0 d

      only : (t : Bool) → cond t true false ≡ t
      only true = refl
      only false = refl

      pub within_more : w₀ < source.weekends → ((b : ℕ) → at (sent_of s) b < source.weekends) → (b : ℕ) → at (sent_of t) b < source.weekends
      within_more known within b = ⊎_elim
          (λ (q : b ≡ n). omega (arith, known, sent_here, ap (at (sent_of t)) q))
          (λ (d : b ≡ n → ⊥). omega (arith, sent_other b d, within b))
          (cases_eq b n)

      word_here : (x : ℕ) → word_at (words_of t) n x ≡ eqb x w₀
      word_here x =
          ap (λ l. word_at l n x) words_is ∙ ap (λ word. bit_at word x) (get_or-set_same (words_of s) n (2 ^ w₀) 0 (omega (arith, words_long s)))
          ∙ set_bit 0 w₀ x ∙ ap (cond (eqb x w₀) true) (bit_none x) ∙ only (eqb x w₀)

      word_other : (b x : ℕ) → (b ≡ n → ⊥) → word_at (words_of t) b x ≡ word_at (words_of s) b x
      word_other b x d = ap (λ l. word_at l b x) words_is ∙ ap (λ word. bit_at word x) (get_or-set_other (words_of s) n b (2 ^ w₀) 0 d)

      one_more : (w c : ℕ) → assignment_count roster (n + 1) (sent_of t) w c ≡ assignment_count roster n (sent_of s) w c + bit (eqb w₀ w && is_member roster n c)
      one_more w c =
          let test : ℕ → Bool = λ b. eqb (at (sent_of t) b) w && is_member roster b c in
          let old = tally_same n test (λ b. eqb (at (sent_of s) b) w && is_member roster b c) (λ b l. ap (λ x. eqb x w && is_member roster b c) (sent_other b (λ e. omega arith))) in
          let new : bit (test n) ≡ bit (eqb w₀ w && is_member roster n c) = ap (λ x. bit (eqb x w && is_member roster n c)) sent_here in
          rw add-one (omega (arith, tally_more n test, old, new))

      pub placed_more : w₀ < source.weekends → is_some (source.quote n w₀) ≡ true →
          ((w c : ℕ) → c < 8 → at t.counts (node w c) ≡ at s.counts (node w c) + bit (eqb w₀ w && is_member roster n c)) → Placed source roster (n + 1) t
      placed_more known opened counts_are = record {
        sent = below_more (λ b. at (sent_of t) b < source.weekends) n (λ b l. subst (λ x. x < source.weekends) (sym (sent_other b (λ e. omega arith))) (before.sent b l)) (subst (λ x. x < source.weekends) (sym sent_here) known);
        meets = below_more (λ b. is_some (source.quote b (at (sent_of t) b)) ≡ true) n (λ b l. ap (λ x. is_some (source.quote b x)) (sent_other b (λ e. omega arith)) ∙ before.meets b l)
            (ap (λ x. is_some (source.quote n x)) sent_here ∙ opened);
        fixed = λ b x e. ⊎_elim
            (λ (q : b ≡ n). eqb-true x w₀ (sym (word_here x) ∙ ap (λ i. word_at (words_of t) i x) (sym q) ∙ e) ∙ sym sent_here ∙ ap (at (sent_of t)) (sym q))
            (λ (d : b ≡ n → ⊥). before.fixed b x (sym (word_other b x d) ∙ e) ∙ sym (sent_other b d))
            (cases_eq b n);
        own = below_more (λ b. word_at (words_of t) b (at (sent_of t) b) ≡ true) n
            (λ b l. let d : b ≡ n → ⊥ = λ e. omega arith in word_other b (at (sent_of t) b) d ∙ ap (word_at (words_of s) b) (sent_other b d) ∙ before.own b l)
            (word_here (at (sent_of t) n) ∙ eq-eqb (at (sent_of t) n) w₀ sent_here);
        counts = λ w c lw lc. counts_are w c lc ∙ ap (λ k. k + bit (eqb w₀ w && is_member roster n c)) (before.counts w c lw lc) ∙ sym (one_more w c);
      }
