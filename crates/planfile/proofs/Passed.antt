-- What an accepted record tells: every test was passed.
use Rattle.std.proofs.Common.{◌≡◌, ℕ, ◌<◌, ◌≤◌, max, Bool, true, false, not, List, nat_abs, Some, None, Ok, Err, Option, refl}
use Rattle.std.proofs.lemmas.Bool.{not-false, and_parts, eqb-true, ltb-true, ltb-false, leb-true}
use Rattle.planfile.specs.declared.fields.Price.{Price}
use Rattle.planfile.specs.declared.progress.Progress.{Progress}
use Rattle.planfile.specs.declared.refusal.Refusal.{Refusal}
use Rattle.planfile.specs.declared.refusal.Refusal.TheVariants.{Padding}
use Rattle.planfile.specs.Fields.{nonzero}
use Rattle.planfile.specs.Progress.{within, before, place}
use Rattle.planfile.specs.Records.{Step, refuse, zeros, class_record, weekend_record, book_record, bound_record, quote_record, limit_record, with_class, with_weekend, with_book, with_bound, with_quote, with_limit}

refuse_ok : (n : Refusal) (at : ℕ) (t : Bool) (rest : Step) (q : Progress) → refuse n at t rest ≡ Ok q → (t ≡ false) × (rest ≡ Ok q)
refuse_ok n at true rest q e = absurd cc
refuse_ok n at false rest q e = (refl, e)

-- the test itself, where it is asked to hold
pass_ok : (n : Refusal) (at : ℕ) (t : Bool) (rest : Step) (q : Progress) → refuse n at (not t) rest ≡ Ok q → (t ≡ true) × (rest ≡ Ok q)
pass_ok n at t rest q e = let h = refuse_ok n at (not t) rest q e in (not-false t h.0, h.1)

-- what zeros answers, by what stands at the first byte that is not zero
abbrev pub padded : Option ℕ → Step → Step
padded o rest = elim o [ None ↦ rest | Some at ↦ Err (record { refusal = Padding; byte = at }) ]

padded_ok : (o : Option ℕ) (rest : Step) (q : Progress) → padded o rest ≡ Ok q → (o ≡ None) × (rest ≡ Ok q)
padded_ok None rest q e = (refl, e)
padded_ok (Some at) rest q e = absurd cc

zeros_ok : (k : ℕ) (bs : List ℕ) (rest : Step) (q : Progress) → zeros k bs rest ≡ Ok q → (nonzero k bs ≡ None) × (rest ≡ Ok q)
zeros_ok k bs rest q e = padded_ok (nonzero k bs) rest q e

ok_is : (p q : Progress) → ◌≡◌ {A = Step} (Ok p) (Ok q) → p ≡ q
ok_is p q e = cc

pub record ClassOk (p q : Progress) (a b : ℕ) (t : List ℕ) : Type 0 where
  pub stage : within 0 1 p.stage ≡ true
  pub rest : nonzero 3 t ≡ None
  pub counts : a ≡ p.classes
  pub few : a < 8
  pub parent : b < max a 1
  pub next : with_class p a ≡ q

pub class_ok : (p q : Progress) (a b : ℕ) (t : List ℕ) → class_record p a b t ≡ Ok q → ClassOk p q a b t
class_ok p q a b t e =
    let h1 = pass_ok _ _ _ _ q e in
    let h2 = zeros_ok _ _ _ q h1.1 in
    let h3 = pass_ok _ _ _ _ q h2.1 in
    let h4 = pass_ok _ _ _ _ q h3.1 in
    let n = and_parts _ _ h3.0 in
    record { stage = h1.0; rest = h2.0; counts = eqb-true _ _ n.0; few = ltb-true _ _ n.1; parent = ltb-true _ _ h4.0; next = ok_is _ _ h4.1 }

pub record WeekendOk (p q : Progress) (a : ℕ) (t : List ℕ) : Type 0 where
  pub stage : within 1 2 p.stage ≡ true
  pub rest : nonzero 2 t ≡ None
  pub counts : a ≡ p.weekends
  pub few : a < 16
  pub next : with_weekend p a ≡ q

pub weekend_ok : (p q : Progress) (a : ℕ) (t : List ℕ) → weekend_record p a t ≡ Ok q → WeekendOk p q a t
weekend_ok p q a t e =
    let h1 = pass_ok _ _ _ _ q e in
    let h2 = zeros_ok _ _ _ q h1.1 in
    let h3 = pass_ok _ _ _ _ q h2.1 in
    let n = and_parts _ _ h3.0 in
    record { stage = h1.0; rest = h2.0; counts = eqb-true _ _ n.0; few = ltb-true _ _ n.1; next = ok_is _ _ h3.1 }

pub record BookOk (p q : Progress) (a b : ℕ) (t : List ℕ) : Type 0 where
  pub stage : within 2 3 p.stage ≡ true
  pub rest : nonzero 3 t ≡ None
  pub counts : a ≡ p.books
  pub few : a < 120
  pub class : b < p.classes
  pub next : with_book p a ≡ q

pub book_ok : (p q : Progress) (a b : ℕ) (t : List ℕ) → book_record p a b t ≡ Ok q → BookOk p q a b t
book_ok p q a b t e =
    let h1 = pass_ok _ _ _ _ q e in
    let h2 = zeros_ok _ _ _ q h1.1 in
    let h3 = pass_ok _ _ _ _ q h2.1 in
    let h4 = pass_ok _ _ _ _ q h3.1 in
    let n = and_parts _ _ h3.0 in
    record { stage = h1.0; rest = h2.0; counts = eqb-true _ _ n.0; few = ltb-true _ _ n.1; class = ltb-true _ _ h4.0; next = ok_is _ _ h4.1 }

pub record BoundOk (p q : Progress) (a b l u : ℕ) (t : List ℕ) : Type 0 where
  pub stage : within 3 4 p.stage ≡ true
  pub rest : nonzero 5 t ≡ None
  pub weekend : a < p.weekends
  pub rises : before (place a b) p.next_bound ≡ false
  pub class : b < p.classes
  pub ordered : l ≤ u
  pub most : u ≤ 120
  pub next : with_bound p a b ≡ q

pub bound_ok : (p q : Progress) (a b l u : ℕ) (t : List ℕ) → bound_record p a b l u t ≡ Ok q → BoundOk p q a b l u t
bound_ok p q a b l u t e =
    let h1 = pass_ok _ _ _ _ q e in
    let h2 = zeros_ok _ _ _ q h1.1 in
    let h3 = pass_ok _ _ _ _ q h2.1 in
    let h4 = refuse_ok _ _ _ _ q h3.1 in
    let h5 = pass_ok _ _ _ _ q h4.1 in
    let h6 = pass_ok _ _ _ _ q h5.1 in
    let n = and_parts _ _ h6.0 in
    record {
      stage = h1.0;
      rest = h2.0;
      weekend = ltb-true _ _ h3.0;
      rises = h4.0;
      class = ltb-true _ _ h5.0;
      ordered = leb-true _ _ n.0;
      most = leb-true _ _ n.1;
      next = ok_is _ _ h6.1;
    }

pub record QuoteOk (p q : Progress) (a b : ℕ) (t : List ℕ) (m : Price) : Type 0 where
  pub stage : within 3 5 p.stage ≡ true
  pub rest : nonzero 3 t ≡ None
  pub book : a < p.books
  pub rises : before (place a b) p.next_quote ≡ false
  pub weekend : b < p.weekends
  pub strain : nat_abs m.strain ≤ 1000000000
  pub money : nat_abs m.money ≤ 1000000000
  pub next : with_quote p a b ≡ q

pub quote_ok : (p q : Progress) (a b : ℕ) (t : List ℕ) (m : Price) → quote_record p a b t m ≡ Ok q → QuoteOk p q a b t m
quote_ok p q a b t m e =
    let h1 = pass_ok _ _ _ _ q e in
    let h2 = zeros_ok _ _ _ q h1.1 in
    let h3 = pass_ok _ _ _ _ q h2.1 in
    let h4 = refuse_ok _ _ _ _ q h3.1 in
    let h5 = pass_ok _ _ _ _ q h4.1 in
    let h6 = refuse_ok _ _ _ _ q h5.1 in
    let h7 = refuse_ok _ _ _ _ q h6.1 in
    record {
      stage = h1.0;
      rest = h2.0;
      book = ltb-true _ _ h3.0;
      rises = h4.0;
      weekend = ltb-true _ _ h5.0;
      strain = ltb-false _ _ h6.0;
      money = ltb-false _ _ h7.0;
      next = ok_is _ _ h7.1;
    }

pub record LimitOk (p q : Progress) (t : List ℕ) (m : Price) : Type 0 where
  pub stage : within 3 5 p.stage ≡ true
  pub rest : nonzero 1 t ≡ None
  pub money : nat_abs m.money ≤ 1000000000000
  pub next : with_limit p ≡ q

pub limit_ok : (p q : Progress) (t : List ℕ) (m : Price) → limit_record p t m ≡ Ok q → LimitOk p q t m
limit_ok p q t m e =
    let h1 = pass_ok _ _ _ _ q e in
    let h2 = zeros_ok _ _ _ q h1.1 in
    let h3 = refuse_ok _ _ _ _ q h2.1 in
    record { stage = h1.0; rest = h2.0; money = ltb-false _ _ h3.0; next = ok_is _ _ h3.1 }
