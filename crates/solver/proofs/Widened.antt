-- Every book is given its word, one after another; and what it is to have solved a problem, in terms of open pairs. Assumes nothing.
use Rattle.std.proofs.Common.{◌≡◌, ℕ, ◌+◌, ◌<◌, List, length, get_or, set, sym, ap, ◌∙◌, subst, ⊎_elim, arith}
use Rattle.std.proofs.lemmas.List.{get_or-set_same, get_or-set_other}
use Rattle.std.proofs.lemmas.Bool.{cases_eq}
use Rattle.amounts.specs.declared.money.Money.{Money}
use Rattle.amounts.specs.declared.ranked.Ranked.{Ranked}
use Rattle.amounts.specs.Kind.{Kind, Lawful}
use Rattle.sources.specs.Tables.{bit_at}
use Rattle.plans.specs.Places.{at}
use Rattle.plans.specs.Problem.{Problem, is_open}
use Rattle.plans.specs.Theorems.{Sound}
use Rattle.solver.specs.declared.state.State.{State}
use Rattle.solver.specs.Flows.{Straight, Shown}
use Rattle.solver.specs.Held.{word_at}
use Rattle.solver.specs.Solutions.{LeastAssignment, SolvedIn}
use Rattle.solver.proofs.Violations.{least_in_score}
use Rattle.solver.specs.States.{sent_of}

-- the first n words are those of `words`
abbrev pub Widened : List ℕ → List ℕ → ℕ → Type 0
Widened words now n = (b x : ℕ) → b < n → word_at now b x ≡ word_at words b x

pub widened_more : (words now next : List ℕ) (n : ℕ) → n < length now → next ≡ set now n (get_or words n 0) → Widened words now n → Widened words next (n + 1)
widened_more words now next n l e h b x lb = ⊎_elim
    (λ (q : b ≡ n). subst (λ b. word_at next b x ≡ word_at words b x) (sym q) (ap (λ ws. word_at ws n x) e ∙ ap (λ w. bit_at w x) (get_or-set_same now n (get_or words n 0) 0 l)))
    (λ (d : b ≡ n → ⊥). ap (λ ws. word_at ws b x) e ∙ ap (λ w. bit_at w x) (get_or-set_other now n b (get_or words n 0) 0 d) ∙ h b x (omega arith)) (cases_eq b n)

module _ {V : Type 0} {K : Kind V} (L : Lawful K) (B : Problem V) (s : Sound K B) (straight : Straight K B) where
  -- where each word has just the open weekends, the labels show the assignment among all
  pub shown_open : (state : State) (l : ℕ → Ranked Money V) → SolvedIn K B state l → Shown K B (is_open B) l (at (sent_of state)) (at state.counts)
  shown_open state l x = record {
    light = x.held.light;
    inside = record { sent = x.held.inside.sent; meets = λ b lb. sym (x.words b (at (sent_of state) b) lb) ∙ x.held.inside.meets b lb };
    counts = x.held.counts;
    valid = record { rising = x.held.valid.rising; falling = x.held.valid.falling; moved = λ b y lb ly m. x.held.valid.moved b y lb ly (x.words b y lb ∙ m) };
  }

  pub least_of_lem : (state : State) (l : ℕ → Ranked Money V) → SolvedIn K B state l → LeastAssignment K B (at (sent_of state))
  least_of_lem state l x =
      let shown = shown_open state l x in
      record { inside = shown.inside; least = λ q h. least_in_score L B s straight (is_open B) l (at (sent_of state)) (at state.counts) q shown h; shown = (l, at state.counts, shown) }
