-- Pinning a book, one weekend after another.
use Rattle.std.proofs.Common.{◌≡◌, ℕ, zero, suc, ◌+◌, ◌^◌, ◌<◌, ◌≤◌, Bool, true, false, cond, not, ◌&&◌, eqb, ltb, List, length, get_or, set, is_some, None, refl, ap, ◌∙◌, ap₂, ⊎_elim, add-one, arith}
use lib.Bits.{bit_or}
use Rattle.std.proofs.lemmas.List.{set_past}
use Rattle.std.proofs.lemmas.Bool.{cases_lt, cond-false, ne_eqb, and_right}
use Rattle.sources.proofs.Bits16.{put_exact}
use Rattle.sources.specs.Strikes.{struck_at, struck_out, with_pair}
use Rattle.sources.specs.declared.meaning.Source.{Ghosts}
use Rattle.sources.specs.declared.strike_layer.StrikeLayer.{StrikeLayer}
use Rattle.plans.specs.declared.bound_table.Bounds.{Bounds}
use Rattle.plans.specs.declared.class_tree.Roster.{Roster}
use Rattle.plans.specs.Posed.{Meaning}
use Rattle.board.specs.Boards.{Desk, desk, under}
use Rattle.board.specs.Standing.{Standing, with_struck, quote_of, pinned_at, pinned}

-- a strike leaves the other pairs of its book
other_pair : (words : List ℕ) (b x k : ℕ) → (k ≡ x → ⊥) → struck_at (with_pair words b x) b k ≡ struck_at words b k
other_pair words b x k ne = by (ltb b 120 && ltb x 16)
  where
    by : (t : Bool) → struck_at (cond t (set words b (bit_or (get_or words b 0) (2 ^ x))) words) b k ≡ struck_at words b k
    by false = refl
    by true =
        ⊎_elim (λ (h : b < length words). (put_exact words b x h).each b k ∙ cond-false _ _ _ (and_right _ _ (ne_eqb k x ne)))
        (λ (h : length words ≤ b). ap (λ ws. struck_at ws b k) (set_past words b _ h)) (cases_lt b (length words))

module _ {V : Type 0} (M : Meaning V) (st : Standing V) (b w : ℕ) where
  -- what is still to come is as it was
  pinned_ahead : (n k : ℕ) → n ≤ k → struck_at (pinned M st b w n) b k ≡ struck_at st.struck b k
  unfolding pinned
  pinned_ahead zero k h = refl
  pinned_ahead (suc n) k h = by (is_some (quote_of M st b n) && not (eqb n w)) (pinned_ahead n k (omega arith))
    where
      by : (t : Bool) → struck_at (pinned M st b w n) b k ≡ struck_at st.struck b k → struck_at (cond t (with_pair (pinned M st b w n) b n) (pinned M st b w n)) b k ≡ struck_at st.struck b k
      by true e = other_pair (pinned M st b w n) b n k (λ q. omega arith) ∙ e
      by false e = e

  quote_ahead : (n : ℕ) → struck_out M.quote (pinned M st b w n) b n ≡ quote_of M st b n
  unfolding struck_out
  quote_ahead n = ap (λ t. cond t None (M.quote b n)) (pinned_ahead n n (omega arith))

  -- one weekend more: what the code strikes is what the definition says
  pub pin_more : (i : ℕ) → pinned_at M (with_struck st (pinned M st b w i)) b w i (pinned M st b w i) ≡ pinned M st b w (i + 1)
  unfolding pinned
  pin_more i = rw add-one (ap (λ q. cond (is_some q && not (eqb i w)) (with_pair (pinned M st b w i) b i) (pinned M st b w i)) (quote_ahead i))

-- one turn of the loop
pub pin_turn : {S V : Type 0} (source : Ghosts S V) (p : Desk S V) (layer : StrikeLayer S) (roster : Roster) (bounds : Bounds) (limit : V) (b w i : ℕ)
    → desk layer roster bounds limit ≡ record { below = p.below; standing = with_struck p.standing (pinned (under source p) p.standing b w i) }
    → (new : StrikeLayer S) → new.below ≡ layer.below
    → new.struck.words ≡ cond (is_some (struck_out (source.table layer.below) layer.struck.words b i) && not (eqb i w)) (with_pair layer.struck.words b i) layer.struck.words
    → desk new roster bounds limit ≡ record { below = p.below; standing = with_struck p.standing (pinned (under source p) p.standing b w (i + 1)) }
pin_turn source p layer roster bounds limit b w i inv new same step =
    let below : new.below ≡ p.below = same ∙ ap (λ d. d.below) inv in
    let words : new.struck.words ≡ pinned (under source p) p.standing b w (i + 1) =
    step ∙ (ap (λ d. pinned_at (under source d) d.standing b w i d.standing.struck) inv ∙ pin_more (under source p) p.standing b w i) in
    ap₂ (λ x ws. record { below = x; standing = with_struck (desk layer roster bounds limit).standing ws }) below words
    ∙ ap (λ d. record { below = p.below; standing = with_struck d.standing (pinned (under source p) p.standing b w (i + 1)) }) inv
