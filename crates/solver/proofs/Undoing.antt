-- The steps of the walk, arc by arc. Assumes nothing.
use Rattle.std.proofs.Common.{◌≡◌, ℕ, Some, None, Option, refl, subst, arith}
use Rattle.amounts.specs.Kind.{Kind, Lawful}
use Rattle.solver.specs.declared.arcs.Arc.{Arc}
use Rattle.solver.specs.declared.arcs.Arc.TheVariants.{Rise, Fall, Move}
use Rattle.solver.specs.Walk.{Reached}
use Rattle.solver.specs.Flows.{Walk, Underway}
use Rattle.solver.proofs.Walk.{step_up, step_down, step_move, step_end}

module _ {V : Type 0} {K : Kind V} (L : Lawful K) where
  pub walk : Walk K
  walk B X word into begin l rank via b fits light lb =
      let k = B.class b in
      let here : (p f : ℕ → ℕ) (v : ℕ) (o : Option Arc) → Underway K B X word into begin l rank via b p f v → via v ≡ o → Reached K B X word k into begin l rank p f v o =
      λ p f v o i e. subst (λ o. Reached K B X word k into begin l rank p f v o) e (i.ahead v (omega arith)) in
      record {
        undoes_rise = λ p f g v w c i e changed others.
            let t = here p f v (Some (Rise w c)) i e in
            (step_up L B X fits word k into begin b lb l light rank via p f g v w c t.0.0 t.0.1 t.1 t.2 t.3 changed others i, t.2);
        undoes_fall = λ p f g v w c i e changed others.
            let t = here p f v (Some (Fall w c)) i e in
            (step_down L B X fits word k into begin b lb l light rank via p f g v w c t.0.0 t.0.1 t.1 t.2 t.3 changed others i, t.2);
        undoes_move = λ p q f v j x i e changed others.
            let t = here p f v (Some (Move j x)) i e in
            (step_move L B X fits word k into begin b lb l light rank via p q f v j x t.0.0 t.0.1 t.0.2 t.1 t.2 t.3 changed others i, t.2);
        ends = λ p q f v x word' i e at changed others begins starts even mine theirs.
            let t = here p f v None i e in
            let y = t.0 in
            let same : y ≡ x = omega (arith, at, t.3) in
            step_end L B X fits word k into begin b lb l light rank via p q f word' v y t.1 t.2 refl t.3 t.4 starts (λ z lz iz. even z y lz t.1 iz t.2) (λ z lz _. begins z lz) mine theirs (rw same changed) others i;
      }
