-- The search for one book, from what is shown of any search. Assumes nothing.
use Rattle.std.proofs.Common.{ℕ, ◌<◌, Bool, [], ◌∷◌, refl, inr, arith}
use Rattle.amounts.specs.Kind.{Kind, Lawful, law_limit, AtMost}
use Rattle.amounts.proofs.Solve.{var, nil, ◌⊕◌, ⊖, linear}
use Rattle.plans.specs.Problem.{Problem}
use Rattle.solver.specs.Residual.{node, Charges, Fits}
use Rattle.solver.specs.Search.{FromClass}
use Rattle.solver.specs.OneClass.{ColdByRises, ClassSearch, ClassSearchEnds, ClassReassigns}
use Rattle.solver.proofs.Walk.{shrinks}
use Rattle.solver.proofs.Begin.{cold_valid, steps_kept}
use Rattle.solver.proofs.Reassign.{OfClass, walk_from, reassigned_from}

module _ {V : Type 0} {K : Kind V} (L : Lawful K) where
  -- a rise and the fall after it: together no less than nothing
  rise_then_fall : (B : Problem V) (X : Charges V) → Fits K B X → (w c m : ℕ) → w < B.weekends → c < B.classes → AtMost K K.none (K.plus (X.rise w c m) (X.fall w c m))
  unfolding law_limit
  rise_then_fall B X fits w c m lw lc =
      let r = fits.rises w c m lw lc in let s = fits.falls w c m lw lc in
      let d : AtMost K (K.minus (X.rise w c m)) (X.fall w c m) = rw ((fits.convex w c lw lc).back m) at (shrinks L B X fits w c m lw lc) in
      linear L (X.rise w c m ∷ X.fall w c m ∷ []) ((⊖ (var 0), var 1) ∷ []) nil (var 0 ⊕ var 1) (d, tt) (omega arith) refl

  pub cold_by_rises : ColdByRises K
  cold_by_rises B X fits word l p f light sent fixed is = cold_valid L B X fits word l (λ w c. X.rise w c (f (node w c))) p f light sent fixed (λ w c lw lc. record {
    label = is w c lw lc;
    light = fits.rises w c (f (node w c)) lw lc;
    next = inr refl;
    last = rise_then_fall B X fits w c (f (node w c)) lw lc;
  })

  pub class_search : ClassSearch K
  class_search B X word k into begin p f pot g = steps_kept L B X word (FromClass B k into begin) p f pot g

  of_class : (B : Problem V) (k : ℕ) (into : ℕ → Bool) (begin : ℕ → V) → OfClass B (FromClass B k into begin) k into begin
  of_class B k into begin = record { only = λ v s h. h; each = λ x lx ix. (x, lx, ix, refl, refl) }

  pub class_search_ends : ClassSearchEnds K
  class_search_ends B X word b into begin p f pot lb inside counts g x₀ lx ix t d seen rank via i ended =
      walk_from L B X word b (FromClass B (B.class b) into begin) into begin p f pot lb inside counts g (of_class B (B.class b) into begin) x₀ lx ix t d seen rank via i ended

  pub class_reassigns : ClassReassigns K
  class_reassigns B X word b into begin p f pot lb inside counts g even x₀ lx ix t d seen rank via i ended word' mine theirs =
      reassigned_from L B X word b (FromClass B (B.class b) into begin) into begin p f pot lb inside counts g (of_class B (B.class b) into begin) x₀ lx ix t d seen rank via i ended even word' mine theirs
