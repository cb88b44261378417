-- What a span quotes is light.
use Rattle.std.proofs.Common.{◌&&◌, nat_lt, ◌≡◌, ℕ, ◌-◌, ◌*◌, ◌<◌, ◌≤◌, Bool, true, false, cond, List, length, get_or, IfSome, Some, None, Option, sym, refl, ap, ◌∙◌, subst, arith}
use Rattle.amounts.specs.Kind.{Kind, Lawful, law_limit}
use Rattle.amounts.specs.Sums.{copies}
use Rattle.amounts.proofs.Copies.{copies_weight}
use Rattle.std.proofs.lemmas.Option.{slice_get-get_or, slice_get_past}
use Rattle.std.proofs.lemmas.Bool.{and_parts, leb-true, ltb-true, cond-true, cond-false}
use Rattle.std.specs.List.{slice_get}
use Rattle.sources.specs.declared.span_tariff.Span.{Span}
use Rattle.sources.specs.Spans.{span_opens, span_quote, span_pair, quote_of}

-- what an open weekend tells of its span
pub record Opened (first last m heavy rate w : ℕ) : Type 0 where
  pub within : last < m
  pub base : heavy ≤ 500000000
  pub step : rate ≤ 4000000
  pub low : first ≤ w
  pub high : w ≤ last

pub opened : (first last m base step w : ℕ) → span_opens first last m base step w ≡ true → Opened first last m base step w
unfolding span_opens
opened first last m base step w e =
    let a = and_parts _ _ e in let b = and_parts _ _ a.0 in let c = and_parts _ _ b.0 in let d = and_parts _ _ c.0 in let f = and_parts _ _ d.0 in
    record { within = ltb-true _ _ f.1; base = leb-true _ _ d.1; step = leb-true _ _ c.1; low = leb-true _ _ b.1; high = leb-true _ _ a.1 }

module _ {X : Type 0} (K : Kind X) (L : Lawful K) (m w : ℕ) (s : Span X) (few : m ≤ 16) where
  -- the base and at most 15 steps
  light_sum : Opened s.first s.last m (K.weight s.base) (K.weight s.step) w → K.weight (K.plus s.base (copies K (w - s.first) s.step)) ≤ 1000000000
  unfolding law_limit
  light_sum o =
      let n : (w - s.first) * 4000000 ≤ 60000000 = omega (arith, o.within, o.high) in
      let t = copies_weight L 4000000 (w - s.first) s.step o.step (omega arith) in
      omega (arith, L.plus_weight s.base (copies K (w - s.first) s.step) (omega (arith, o.base)), o.base)

  light_by : (t : Bool) → span_opens s.first s.last m (K.weight s.base) (K.weight s.step) w ≡ t
      → IfSome (cond t (Some (K.plus s.base (copies K (w - s.first) s.step))) None) (λ x. K.weight x ≤ 1000000000)
  light_by true e = light_sum (opened s.first s.last m (K.weight s.base) (K.weight s.step) w e)
  light_by false e = tt

  pub quote_light : IfSome (span_quote K m w s) (λ x. K.weight x ≤ 1000000000)
  unfolding span_quote
  quote_light = light_by (span_opens s.first s.last m (K.weight s.base) (K.weight s.step) w) refl

-- what the code answers, by what opens
module _ {X : Type 0} (K : Kind X) (m w : ℕ) (s : Span X) where
  pub quote_none : span_opens s.first s.last m (K.weight s.base) (K.weight s.step) w ≡ false → None ≡ span_quote K m w s
  unfolding span_quote
  quote_none e = sym (cond-false _ _ _ e)

  pub quote_some : (t r : X) → span_opens s.first s.last m (K.weight s.base) (K.weight s.step) w ≡ true → t ≡ copies K (w - s.first) s.step → r ≡ K.plus s.base t → Some r ≡ span_quote K m w s
  unfolding span_quote
  quote_some t r e et er = ap Some (er ∙ ap (K.plus s.base) et) ∙ sym (cond-true _ _ _ e)

module _ {X : Type 0} (K : Kind X) (spans : List (Span X)) (n m b w : ℕ) where
  pub span_missing : length spans ≤ b → span_pair K spans n m b w ≡ None
  unfolding span_pair
  span_missing h = let e = slice_get_past spans b h in simp (e, same_cond)
    where
      same_cond : {Y : Type 0} (t : Bool) (x : Y) → cond t x x ≡ x
      same_cond true x = refl
      same_cond false x = refl

  pub span_closed : (nat_lt b n && nat_lt w m) ≡ false → None ≡ span_pair K spans n m b w
  unfolding span_pair
  span_closed e = sym (cond-false _ _ _ e)

  pub span_at : (nat_lt b n && nat_lt w m) ≡ true → (s : Span X) → slice_get spans b ≡ Some s → span_quote K m w s ≡ span_pair K spans n m b w
  unfolding span_pair
  span_at within s read = sym (cond-true _ _ _ within ∙ ap (quote_of K m w) read)

-- the code's answer, where a book has a span; the weekends are reckoned as m', which is m
pub span_answer : {X : Type 0} (K : Kind X) (spans : List (Span X)) (n m m' b w : ℕ) (s : Span X) (r : Option X) → m' ≡ m → r ≡ span_quote K m' w s → (nat_lt b n && nat_lt w m) ≡ true → b < length spans → s ≡ get_or spans b s → r ≡ span_pair K spans n m b w
span_answer K spans n m m' b w s r em e inside within read = e ∙ ap (λ x. span_quote K x w s) em ∙ span_at K spans n m b w inside s (slice_get-get_or spans b s within ∙ ap Some (sym read))

pub span_light : {X : Type 0} {K : Kind X} → Lawful K → (m w : ℕ) (s : Span X) (r : Option X) → m ≤ 16 → r ≡ span_quote K m w s → IfSome r (λ x. K.weight x ≤ 1000000000)
span_light {K = K} L m w s r few e = subst (λ x. IfSome x (λ y. K.weight y ≤ 1000000000)) (sym e) (quote_light K L m w s few)
