-- The books of a state, one of them read or changed. Assumes nothing.
use Rattle.std.proofs.Common.{◌≡◌, ℕ, ◌<◌, length, map, get_or, set, ap, ◌∙◌}
use Rattle.std.proofs.lemmas.List.{length-map, map-set, get_or-map}
use Rattle.std.proofs.Math.Seq.{map-set_same}
use Rattle.solver.specs.declared.state.Sent.{Sent}
use Rattle.solver.specs.declared.state.State.{State}
use Rattle.solver.specs.States.{sent_of, words_of}

pub sent_long : (state : State) → length (sent_of state) ≡ 120
unfolding sent_of
sent_long state = length-map state.books (λ (s : Sent). s.weekend) ∙ state.sized.0

pub words_long : (state : State) → length (words_of state) ≡ 120
unfolding words_of
words_long state = length-map state.books (λ (s : Sent). s.word) ∙ state.sized.0

-- where two states have the same books, they have the same lists
pub sent_same : (state state' : State) → state'.books ≡ state.books → sent_of state' ≡ sent_of state
unfolding sent_of
sent_same state state' e = ap (map (λ (s : Sent). s.weekend)) e

pub words_same : (state state' : State) → state'.books ≡ state.books → words_of state' ≡ words_of state
unfolding words_of
words_same state state' e = ap (map (λ (s : Sent). s.word)) e

-- one book is read
pub sent_read : (state : State) (b : ℕ) (d : Sent) → b < length state.books → get_or (sent_of state) b 0 ≡ (get_or state.books b d).weekend
unfolding sent_of
sent_read state b d h = get_or-map (λ (s : Sent). s.weekend) state.books b d 0 h

pub word_read : (state : State) (b : ℕ) (d : Sent) → b < length state.books → get_or (words_of state) b 0 ≡ (get_or state.books b d).word
unfolding words_of
word_read state b d h = get_or-map (λ (s : Sent). s.word) state.books b d 0 h

-- one book is changed
pub sent_set : (state state' : State) (b x : ℕ) (s : Sent) → state'.books ≡ set state.books b s → s.weekend ≡ x → sent_of state' ≡ set (sent_of state) b x
unfolding sent_of
sent_set state state' b x s e q = ap (map (λ (s : Sent). s.weekend)) e ∙ map-set (λ (s : Sent). s.weekend) state.books b s ∙ ap (set (map (λ (s : Sent). s.weekend) state.books) b) q

pub words_set : (state state' : State) (b x : ℕ) (s : Sent) → state'.books ≡ set state.books b s → s.word ≡ x → words_of state' ≡ set (words_of state) b x
unfolding words_of
words_set state state' b x s e q = ap (map (λ (s : Sent). s.word)) e ∙ map-set (λ (s : Sent). s.word) state.books b s ∙ ap (set (map (λ (s : Sent). s.word) state.books) b) q

pub sent_kept : (state state' : State) (b : ℕ) (s d : Sent) → state'.books ≡ set state.books b s → s.weekend ≡ (get_or state.books b d).weekend → sent_of state' ≡ sent_of state
unfolding sent_of
sent_kept state state' b s d e q = ap (map (λ (s : Sent). s.weekend)) e ∙ map-set_same (λ (s : Sent). s.weekend) state.books b s d q

pub words_kept : (state state' : State) (b : ℕ) (s d : Sent) → state'.books ≡ set state.books b s → s.word ≡ (get_or state.books b d).word → words_of state' ≡ words_of state
unfolding words_of
words_kept state state' b s d e q = ap (map (λ (s : Sent). s.word)) e ∙ map-set_same (λ (s : Sent). s.word) state.books b s d q
