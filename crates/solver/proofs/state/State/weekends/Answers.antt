use Rattle.std.proofs.Common.{◌≡◌, ℕ, List, length, map, get_or, sym, ◌∙◌, rules, arith}
use Rattle.std.specs.Array.{IsMapOf}
use Rattle.std.specs.Fn.{Called}
use Rattle.std.proofs.lemmas.List.{length-map, get_or-map}
use Rattle.std.proofs.lemmas.Grind.{same_number_lists}
use denote.Param.Members.{Mut}
use Rattle.solver.specs.declared.state.Sent.{Sent}
use Rattle.solver.specs.States.{sent_of}
use Rattle.solver.proofs.state.State.weekends.Goals as goal

-- calls that give h of each element give the list of h
mapped : {F A : Type 0} (g : Mut F (A × Unit {0}) ℕ) (f : F) (xs : List A) (ys : List ℕ) (n : ℕ) (h : A → ℕ) (d : A) → IsMapOf g f xs ys n → length xs ≡ n → ((p : F) (a : A) (y : ℕ) (q : F) → Called g p (a, tt) y q → y ≡ h a) → ys ≡ map h xs
mapped g f xs ys n h d is long each = same_number_lists ys (map h xs) (is.long ∙ sym (length-map xs h ∙ long))
    (λ i l. let c = is.at i d 0 (omega (arith, is.long)) in each c.0 (get_or xs i d) (get_or ys i 0) c.1 c.2 ∙ sym (get_or-map h xs i d 0 (omega (arith, is.long))))

pub returns : goal.returns
unfolding sent_of
returns c =
    let s = c.args.self.now in
    mapped _ _ s.books c.map.result 120 (λ (b : Sent). b.weekend) (record { weekend = 0; word = 0 }) c.map.ensures.items s.sized.0 (λ p a y q k. search rules)
