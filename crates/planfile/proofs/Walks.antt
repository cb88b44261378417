-- The walk over a file's records, one turn at a time.
use Rattle.std.proofs.Common.{◌≡◌, ℕ, ◌+◌, ◌%◌, ◌<◌, ◌≤◌, Bool, true, false, cond, eqb, List, [], ◌∷◌, length, get_or, drop, Ok, Err, Result, sym, refl, ap, ◌∙◌, subst, arith}
use Rattle.std.proofs.lemmas.List.{at_drop_more, at_drop_all}
use Rattle.std.proofs.lemmas.Bool.{cond-false}
use Rattle.std.proofs.lemmas.Bool.Decides.{nat_tests}
use Rattle.planfile.specs.declared.progress.FileKind.{FileKind}
use Rattle.planfile.specs.declared.progress.Stage.{Stage}
use Rattle.planfile.specs.declared.progress.Progress.{Progress}
use Rattle.planfile.specs.declared.refusal.Fault.{Fault}
use Rattle.planfile.specs.Progress.{rank, within, start}
use Rattle.planfile.specs.Records.{Step, stepped}
use Rattle.planfile.specs.Description.{Description}
use Rattle.planfile.specs.Reading.{records, walked, turned, finished, body, sectioned, describing, bad_size, read_file}
use Rattle.planfile.proofs.Letters.{Accepted, accepted}
use Rattle.planfile.proofs.Letters.Accepted.{is_class, is_weekend, is_book, is_bound, is_quote, is_limit}

-- how many records were read
abbrev pub placed : Progress → ℕ
placed p = body p + cond (eqb (rank p.stage) 6) 1 0

-- where another record may follow, the limit was not read yet
pub not_ended : (low high : ℕ) (s : Stage) → high ≤ 5 → within low high s ≡ true → eqb (rank s) 6 ≡ false
unfolding within
not_ended low high s h e = grind (arith, nat_tests)

accepted_placed : (k : FileKind) (p q : Progress) (r : List ℕ) → Accepted k p q r → placed q ≡ placed p + 1
accepted_placed k p q r (is_class l h) = let w = not_ended 0 1 p.stage (omega arith) h.stage in subst (λ x. placed x ≡ placed p + 1) h.next (rw w (omega (arith, h.counts)))
accepted_placed k p q r (is_weekend l h) = let w = not_ended 1 2 p.stage (omega arith) h.stage in subst (λ x. placed x ≡ placed p + 1) h.next (rw w (omega (arith, h.counts)))
accepted_placed k p q r (is_book l h) = let w = not_ended 2 3 p.stage (omega arith) h.stage in subst (λ x. placed x ≡ placed p + 1) h.next (rw w (omega (arith, h.counts)))
accepted_placed k p q r (is_bound l h) = let w = not_ended 3 4 p.stage (omega arith) h.stage in subst (λ x. placed x ≡ placed p + 1) h.next (rw w (omega arith))
accepted_placed k p q r (is_quote l h) = let w = not_ended 3 5 p.stage (omega arith) h.stage in subst (λ x. placed x ≡ placed p + 1) h.next (rw w (omega arith))
accepted_placed k p q r (is_limit l h) = let w = not_ended 3 5 p.stage (omega arith) h.stage in subst (λ x. placed x ≡ placed p + 1) h.next (rw w (omega arith))

-- each record that is no fault adds one
pub step_placed : (k : FileKind) (p q : Progress) (r : List ℕ) → stepped k p r ≡ Ok q → placed q ≡ placed p + 1
step_placed k p q r e = accepted_placed k p q r (accepted k p q r e)

pub turned_ok : (i : ℕ) (next : Progress → Result Progress Fault) (s : Step) (q : Progress) → turned i next s ≡ Ok q → (m : Progress) × (s ≡ Ok m) × (next m ≡ Ok q)
turned_ok i next (Ok m) q h = (m, refl, h)
turned_ok i next (Err s) q h = absurd cc

ended : (b : Bool) (i : ℕ) (p q : Progress) (f : Fault) → cond b (Ok p) (Err f) ≡ Ok q → (b ≡ true) × (p ≡ q)
ended true i p q f e = (refl, cc)
ended false i p q f e = absurd cc

pub finished_ok : (i : ℕ) (p q : Progress) → finished i p ≡ Ok q → (eqb (rank p.stage) 6 ≡ true) × (p ≡ q)
finished_ok i p q h = ended _ i p q _ h

-- a walk that ends soundly has read every record, the last of them the limit
pub walked_placed : (k : FileKind) (i : ℕ) (p q : Progress) (rs : List (List ℕ)) → walked k i p rs ≡ Ok q → body q + 1 ≡ placed p + length rs
unfolding walked
walked_placed k i p q [] h = let f = finished_ok i p q h in subst (λ x. body x + 1 ≡ placed p + 0) f.1 (rw f.0 (omega arith))
walked_placed k i p q (r ∷ rs) h =
    let t = turned_ok i (λ m. walked k (i + 1) m rs) (stepped k p r) q h in
    let a = step_placed k p t.0 r t.1 in
    let b = walked_placed k (i + 1) t.0 q rs t.2 in
    omega arith

-- one turn by itself
pub turn_ok : (i : ℕ) (s : Step) (q : Progress) → turned i Ok s ≡ Ok q → s ≡ Ok q
turn_ok i (Ok m) q h = let e : m ≡ q = cc in ap Ok e
turn_ok i (Err s) q h = cc

turn_err : (i : ℕ) (next : Progress → Result Progress Fault) (s : Step) (f : Fault) → turned i Ok s ≡ Err f → turned i next s ≡ Err f
turn_err i next (Ok m) f h = cc
turn_err i next (Err s) f h = h

-- a loop over the records: what is left of them decides
module _ (k : FileKind) (rs : List (List ℕ)) (i : ℕ) (p : Progress) (inv : walked k 0 start rs ≡ walked k i p (drop i rs)) where
  more : i < length rs → walked k 0 start rs ≡ turned i (λ q. walked k (i + 1) q (drop (i + 1) rs)) (stepped k p (get_or rs i []))
  unfolding walked
  more h = inv ∙ at_drop_more (walked k i p) rs i [] h

  pub walk_on : (q : Progress) → i < length rs → turned i Ok (stepped k p (get_or rs i [])) ≡ Ok q → walked k 0 start rs ≡ walked k (i + 1) q (drop (i + 1) rs)
  walk_on q h e = more h ∙ ap (turned i (λ m. walked k (i + 1) m (drop (i + 1) rs))) (turn_ok i _ q e)

  pub walk_stop : (f : Fault) → i < length rs → turned i Ok (stepped k p (get_or rs i [])) ≡ Err f → walked k 0 start rs ≡ Err f
  walk_stop f h e = more h ∙ turn_err i (λ q. walked k (i + 1) q (drop (i + 1) rs)) _ f e

  pub walk_end : length rs ≡ i → walked k 0 start rs ≡ finished (length rs) p
  unfolding walked
  walk_end e = inv ∙ (at_drop_all (walked k i p) rs i (omega arith) ∙ ap (λ m. finished m p) (sym e))

pub good_size : (bs : List ℕ) → bad_size bs ≡ false → (0 < length bs) × (length bs % 16 ≡ 0) × (length bs ≤ 35088)
unfolding bad_size
good_size bs e = grind (arith, nat_tests)

-- what the code reads, put together
module _ (k : FileKind) (bs : List ℕ) (rs : List (List ℕ)) (good : bad_size bs ≡ false) (cut : rs ≡ records bs) where
  pub whole : read_file k bs ≡ describing rs (walked k 0 start rs)
  unfolding read_file
  whole = cond-false _ _ _ good ∙ ap (λ x. describing x (walked k 0 start x)) (sym cut)

  pub read_ok : (p : Progress) (d : Description) → walked k 0 start rs ≡ Ok p → d ≡ sectioned p rs → Ok d ≡ read_file k bs
  read_ok p d h e = ap Ok e ∙ sym (whole ∙ ap (describing rs) h)

  pub read_err : (f : Fault) → walked k 0 start rs ≡ Err f → Err f ≡ read_file k bs
  read_err f h = sym (whole ∙ ap (describing rs) h)
