-- What a pair of a lent table is, by the test that settles it.
use Rattle.std.proofs.Common.{refl, get_or, ◌≡◌, ℕ, ◌+◌, ◌*◌, ◌<◌, Bool, true, false, leb, cond, List, length, Some, None, Option, sym, ap, ◌∙◌}
use Rattle.std.specs.List.{slice_get}
use Rattle.std.proofs.lemmas.Bool.{cond-true, cond-false}
use Rattle.std.specs.Bool.{then_some}
use Rattle.std.proofs.lemmas.Option.{slice_get-get_or}
use Rattle.sources.specs.Tables.{light_only, word_opens, table_pair}

light_some : {X : Type 0} (t : Bool) (x : X) → then_some t x ≡ cond t (Some x) None
light_some true x = refl
light_some false x = refl

module _ {X : Type 0} (weight : X → ℕ) (quotes : List X) (words : List ℕ) (n m b w : ℕ) where
  pub pair_closed : word_opens words n m b w ≡ false → None ≡ table_pair weight quotes words n m b w
  unfolding table_pair
  pair_closed e = sym (cond-false _ _ _ e)

  -- the place is reckoned with m', which is m
  pub pair_open : (m' : ℕ) (read : Option X) → m' ≡ m → word_opens words n m b w ≡ true → slice_get quotes (b * m' + w) ≡ read → light_only weight read ≡ table_pair weight quotes words n m b w
  unfolding table_pair
  pair_open m' read e opens there = ap (light_only weight) (sym there ∙ ap (λ i. slice_get quotes (b * i + w)) e) ∙ sym (cond-true _ _ _ opens)

  pub pair_read : (m' h : ℕ) (x : X) → m' ≡ m → word_opens words n m b w ≡ true → b * m' + w < length quotes → x ≡ get_or quotes (b * m' + w) x → h ≡ weight x
      → then_some (leb h 1000000000) x ≡ table_pair weight quotes words n m b w
  pair_read m' h x e opens within is he =
      ap (λ i. then_some (leb i 1000000000) x) he ∙ light_some (leb (weight x) 1000000000) x
      ∙ pair_open m' (Some x) e opens (slice_get-get_or quotes (b * m' + w) x within ∙ ap Some (sym is))
