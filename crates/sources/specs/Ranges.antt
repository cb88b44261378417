-- The sources of this crate keep their numbers, and nothing of them is open outside.
use Rattle.std.specs.Prelude.{◌≡◌, ℕ, ◌≤◌, Bool, true, false, cond, ◌⊎◌, List, None, Option, refl}
use Rattle.std.proofs.Common.{⊎_elim, arith}
use Rattle.std.proofs.Math.Bool.{and-false}
use Rattle.std.proofs.lemmas.Bool.{le-ltb}
use Rattle.amounts.specs.Kind.{Kind}
use Rattle.sources.specs.declared.span_tariff.Span.{Span}
use Rattle.sources.specs.Meaning.{InRange}
use Rattle.sources.specs.Tables.{clamped, table_pair}
use Rattle.sources.specs.Spans.{span_pair}
use Rattle.sources.specs.Strikes.{struck_out}

module _ {X : Type 0} (weight : X → ℕ) (quotes : List X) (words : List ℕ) (n m b w : ℕ) where
  past_books : n ≤ b → table_pair weight quotes words n m b w ≡ None
  unfolding table_pair
  past_books h = let e = le-ltb b n h in simp e

  past_weekends : m ≤ w → table_pair weight quotes words n m b w ≡ None
  unfolding table_pair
  past_weekends h = let e = le-ltb w m h in simp (e, and-false)

  pub table_outside : (n ≤ b) ⊎ (m ≤ w) → table_pair weight quotes words n m b w ≡ None
  table_outside = ⊎_elim past_books past_weekends

pub table_ranges : {S X : Type 0} (weight : X → ℕ) (books weekends : S → ℕ) (quotes : S → List X) (words : S → List ℕ)
    → InRange (λ s. clamped 120 (books s)) (λ s. clamped 16 (weekends s)) (λ s. table_pair weight (quotes s) (words s) (clamped 120 (books s)) (clamped 16 (weekends s)))
table_ranges weight books weekends quotes words = record {
  some_book = λ s. omega arith;
  few_books = λ s. omega arith;
  some_week = λ s. omega arith;
  few_weeks = λ s. omega arith;
  outside = λ s b w. table_outside weight (quotes s) (words s) (clamped 120 (books s)) (clamped 16 (weekends s)) b w;
}

module _ {X : Type 0} (K : Kind X) (spans : List (Span X)) (n m b w : ℕ) where
  before_books : n ≤ b → span_pair K spans n m b w ≡ None
  unfolding span_pair
  before_books h = let e = le-ltb b n h in simp e

  before_weekends : m ≤ w → span_pair K spans n m b w ≡ None
  unfolding span_pair
  before_weekends h = let e = le-ltb w m h in simp (e, and-false)

  pub span_outside : (n ≤ b) ⊎ (m ≤ w) → span_pair K spans n m b w ≡ None
  span_outside = ⊎_elim before_books before_weekends

pub span_ranges : {S X : Type 0} (K : Kind X) (books weekends : S → ℕ) (spans : S → List (Span X))
    → InRange (λ s. clamped 120 (books s)) (λ s. clamped 16 (weekends s)) (λ s. span_pair K (spans s) (clamped 120 (books s)) (clamped 16 (weekends s)))
span_ranges K books weekends spans = record {
  some_book = λ s. omega arith;
  few_books = λ s. omega arith;
  some_week = λ s. omega arith;
  few_weeks = λ s. omega arith;
  outside = λ s b w. span_outside K (spans s) (clamped 120 (books s)) (clamped 16 (weekends s)) b w;
}

same_cond : {X : Type 0} (t : Bool) (x : X) → cond t x x ≡ x
same_cond true x = refl
same_cond false x = refl

pub still_shut : {X : Type 0} (below : ℕ → ℕ → Option X) (words : List ℕ) (b w : ℕ) → below b w ≡ None → struck_out below words b w ≡ None
unfolding struck_out
still_shut below words b w e = simp (e, same_cond)

-- a layer over a source, whatever holds the two
pub layer_ranges : {L S X : Type 0} {count weeks : S → ℕ} {table : S → ℕ → ℕ → Option X} → InRange count weeks table → (below : L → S) (words : L → List ℕ)
    → InRange (λ l. count (below l)) (λ l. weeks (below l)) (λ l. struck_out (table (below l)) (words l))
layer_ranges {table = table} ranges below words = record {
  some_book = λ l. ranges.some_book (below l);
  few_books = λ l. ranges.few_books (below l);
  some_week = λ l. ranges.some_week (below l);
  few_weeks = λ l. ranges.few_weeks (below l);
  outside = λ l b w h. still_shut (table (below l)) (words l) b w (ranges.outside (below l) b w h);
}
