-- Which lists a roster is read from, and what it holds. Assumes nothing.
use Rattle.std.proofs.Common.{◌≡◌, ℕ, zero, suc, ◌+◌, ◌<◌, ◌≤◌, min, max, Bool, true, false, cond, ◌&&◌, ltb, leb, List, length, get_or, take, Ok, Err, Result, sym, refl, ap, ◌∙◌, subst, arith}
use Rattle.std.proofs.lemmas.List.{get_or-take, length-take-le}
use Rattle.std.proofs.lemmas.Bool.{and_parts, and_from, ltb-true, ltb-false, lt-ltb, le-ltb, le-leb}
use Rattle.plans.specs.declared.class_lists.RosterFault.{RosterFault}
use Rattle.plans.specs.declared.class_lists.RosterFault.TheVariants.{Short, NoRoster}
use Rattle.plans.proofs.Padding.{fitting, homes_low, padded_reads, passes_from}
use Rattle.plans.specs.Rosters.{Shape, passes, parent_fits, class_fits, padded, parents_fit, MakesRoster, Holds, RosterRead}

module _ (books : ℕ) (parents classes : List ℕ) where
  abbrev n : ℕ
  n = min books 120

  abbrev made_of : Shape
  made_of = record { classes = length parents; parents = padded 8 parents; homes = padded 120 (take n classes) }

  abbrev fits : Bool
  fits = parents_fit parents && passes (class_fits (length parents)) 0 (take n classes)

  makes_of : n ≤ length classes → fits ≡ true → MakesRoster n parents classes
  makes_of enough e =
      let parts = and_parts (parents_fit parents) (passes (class_fits (length parents)) 0 (take n classes)) e in
      let f = fitting parents parts.0 in
      record {
        enough = enough;
        some = f.some;
        few = f.few;
        root = omega (arith, f.low 0);
        above = λ c h l. omega (arith, f.low c);
        classed = λ b l. subst (λ x. x < length parents) (get_or-take n classes b 0 l) (homes_low (length parents) (take n classes) f.some parts.1 b);
      }

  holds_of : Holds n parents classes made_of
  holds_of = record { count = refl; parent = λ c l. padded_reads 8 parents c; class = λ b l. padded_reads 120 (take n classes) b ∙ get_or-take n classes b 0 l }

  fits_of : MakesRoster n parents classes → fits ≡ true
  fits_of m =
      let size = length-take-le n classes m.enough in
      and_from (parents_fit parents) (passes (class_fits (length parents)) 0 (take n classes))
      (and_from (leb 1 (length parents) && leb (length parents) 8) (passes parent_fits 0 parents)
      (and_from (leb 1 (length parents)) (leb (length parents) 8) (le-leb 1 (length parents) m.some) (le-leb (length parents) 8 m.few))
      (passes_from parent_fits 0 parents (λ c l. lt-ltb (get_or parents c 0) (max 1 (0 + c)) (parent_low c l))))
      (passes_from (class_fits (length parents)) 0 (take n classes) (λ b l.
      let l' : b < n = omega (arith, size) in
      lt-ltb (get_or (take n classes) b 0) (length parents) (subst (λ x. x < length parents) (sym (get_or-take n classes b 0 l')) (m.classed b l'))))
    where
      parent_low : (c : ℕ) → c < length parents → get_or parents c 0 < max 1 (0 + c)
      parent_low zero l = omega (arith, m.root)
      parent_low (suc c) l = omega (arith, m.above (suc c) (omega arith) l)

  abbrev answer : Bool → Bool → Result Shape RosterFault
  answer a b = cond a (Err Short) (cond b (Ok made_of) (Err NoRoster))

  made : (a b : Bool) → ltb (length classes) n ≡ a → fits ≡ b → (s : Shape) → answer a b ≡ Ok s → MakesRoster n parents classes × Holds n parents classes s
  made true b e f s q = let z : ◌≡◌ {A = ℕ} 0 1 = cc in absurd (omega arith)
  made false false e f s q = let z : ◌≡◌ {A = ℕ} 0 1 = cc in absurd (omega arith)
  made false true e f s q =
      let enough = ltb-false (length classes) n e in
      let same : made_of ≡ s = cc in
      (makes_of enough f, subst (Holds n parents classes) same holds_of)

  short : (a b : Bool) → ltb (length classes) n ≡ a → answer a b ≡ Err Short → length classes < n
  short true b e q = ltb-true (length classes) n e
  short false true e q = let z : ◌≡◌ {A = ℕ} 0 1 = cc in absurd (omega arith)
  short false false e q = let z : ◌≡◌ {A = ℕ} 0 1 = cc in absurd (omega arith)

  pub roster_read : RosterRead books parents classes
  roster_read = record {
    made = made (ltb (length classes) n) fits refl refl;
    makes = λ m. (made_of, ap (λ a. answer a fits) (le-ltb (length classes) n m.enough) ∙ ap (answer false) (fits_of m));
    short = (short (ltb (length classes) n) fits refl, λ l. ap (λ a. answer a fits) (lt-ltb (length classes) n l));
  }
