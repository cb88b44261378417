-- A file is accepted exactly when it is the layout of a proper description, and that is what is answered.
use Rattle.std.proofs.Common.{◌≡◌, ℕ, zero, suc, ◌+◌, ◌*◌, ◌/◌, ◌<◌, ◌≤◌, false, List, [], ◌∷◌, length, Ok, Err, Result, sym, refl, ap, ◌∙◌, subst, ⊎_elim, add-mul, mul-le-mul, one-mul, arith}
use Rattle.std.proofs.lemmas.Nat.{mul-add-lt}
use Rattle.std.proofs.ByRecursion.{All-weaker, All-append, All-map}
use Rattle.std.proofs.lemmas.List.{length-append, length-map}
use Rattle.std.proofs.lemmas.Bool.{cases_Bool, cond-true}
use Rattle.std.proofs.lemmas.Bool.Decides.{nat_tests}
use Rattle.std.specs.Simd.{first_chunks}
use Rattle.std.specs.List.{flat_map, AllByRecursion}
use Rattle.planfile.specs.declared.progress.FileKind.{FileKind}
use Rattle.planfile.specs.declared.progress.Progress.{Progress}
use Rattle.planfile.specs.declared.refusal.Fault.{Fault}
use Rattle.planfile.specs.Progress.{start}
use Rattle.planfile.specs.Description.{Description, Proper, Before, Rising, BoundStands, QuoteStands, class_row, book_row, bound_row, quote_row, numbered, weekend_rows, rows, layout}
use Rattle.planfile.specs.Reading.{records, walked, sectioned, describing, bad_size, read_file}
use Rattle.planfile.specs.Laws.{Tells}
use Rattle.planfile.proofs.Bytes.{Bytes}
use Rattle.planfile.proofs.Walks.{good_size, whole, read_ok}
use Rattle.planfile.proofs.Sections.{length_numbered, length_weekends, sections_back, cut_whole, cut_joined, joined_length, joined_cut}
use Rattle.planfile.proofs.Sound.{sound, draft_start, Found}
use Rattle.planfile.proofs.Complete.{complete}

-- no more places than there are
after : (n a b c e : ℕ) → b < n → Before a b c e → a * n + b + 1 ≤ c * n + e
after n a b c e h x =
    ⊎_elim (λ (l : a < c). let l1 : a + 1 ≤ c = omega arith in let r : n ≤ n = omega arith in let m : (a + 1) * n ≤ c * n = mul-le-mul l1 r in let s = add-mul a 1 n in let o = one-mul n in omega arith)
    (λ (y : (a ≡ c) × (b < e)). let m : a * n ≡ c * n = ap (λ z. z * n) y.0 in omega (arith, y.1)) x

few : {X : Type 0} (f g : X → ℕ) (m n : ℕ) (xs : List X) (s : ℕ) → Rising f g xs → AllByRecursion (λ x. (f x < m) × (g x < n)) xs → AllByRecursion (λ x. s ≤ f x * n + g x) xs → s ≤ n * m → length xs + s ≤ n * m
few f g m n [] s r i l e = omega arith
few f g m n (x ∷ xs) s r i l e =
    let here = l.0 in
    let t : length xs + (f x * n + g x + 1) ≤ n * m
    = few f g m n xs (f x * n + g x + 1) r.1 i.1 (All-weaker _ _ (λ y b. after n (f x) (g x) (f y) (g y) i.0.1 b) xs r.0)
    (let k = mul-add-lt (f x) n (g x) m i.0.0 i.0.1 in omega arith) in
    omega arith

from_none : {X : Type 0} (f : X → ℕ) (xs : List X) → AllByRecursion (λ x. 0 ≤ f x) xs
from_none f [] = tt
from_none f (x ∷ xs) = (omega arith, from_none f xs)

module _ (k : FileKind) (d : Description) (h : Proper k d) where
  few_bounds : length d.bounds ≤ 128
  few_bounds =
      let c = h.few_classes in let w = h.few_weekends in
      let t = few (λ b. b.weekend) (λ b. b.class) 16 8 d.bounds 0 h.bounds_rise
      (All-weaker _ _ (λ b (s : BoundStands d.weekends (length d.parents) b). (omega (arith, s.weekend), omega (arith, s.class))) d.bounds h.bounds)
      (from_none (λ b. b.weekend * 8 + b.class) d.bounds) (omega arith) in
      omega arith

  few_quotes : length d.quotes ≤ 1920
  few_quotes =
      let b = h.few_books in let w = h.few_weekends in
      let t = few (λ q. q.book) (λ q. q.weekend) 120 16 d.quotes 0 h.quotes_rise
      (All-weaker _ _ (λ q (s : QuoteStands k (length d.classes) d.weekends q). (omega (arith, s.book), omega (arith, s.weekend))) d.quotes h.quotes)
      (from_none (λ q. q.book * 16 + q.weekend) d.quotes) (omega arith) in
      omega arith

  count_rows : length (rows d) ≡ length d.parents + (d.weekends + (length d.classes + (length d.bounds + (length d.quotes + 1))))
  count_rows = simp (length-append, length-map, length_numbered, length_weekends) refl

  size_rows : (1 ≤ length (rows d)) × (length (rows d) ≤ 2193)
  size_rows =
      let n = few_bounds in let q = few_quotes in let c = h.few_classes in let w = h.few_weekends in let b = h.few_books in let e = count_rows in
      (omega arith, omega arith)

numbered_whole : (row : ℕ → ℕ → List ℕ) → ((a b : ℕ) → length (row a b) ≡ 16) → (n : ℕ) (xs : List ℕ) → AllByRecursion (λ r. length r ≡ 16) (numbered row n xs)
numbered_whole row e n [] = tt
numbered_whole row e n (x ∷ xs) = (e n x, numbered_whole row e (n + 1) xs)

weekends_whole : (n l : ℕ) → AllByRecursion (λ r. length r ≡ 16) (weekend_rows n l)
weekends_whole n zero = tt
weekends_whole n (suc l) = (refl, weekends_whole (n + 1) l)

all_of : {X : Type 0} (P : X → Type 0) → ((x : X) → P x) → (xs : List X) → AllByRecursion P xs
all_of P f [] = tt
all_of P f (x ∷ xs) = (f x, all_of P f xs)

rows_whole : (d : Description) → AllByRecursion (λ r. length r ≡ 16) (rows d)
rows_whole d =
    let W : List ℕ → Type 0 = λ r. length r ≡ 16 in
    All-append W _ _ (numbered_whole class_row (λ a b. refl) 0 d.parents)
    (All-append W _ _ (weekends_whole 0 d.weekends)
    (All-append W _ _ (numbered_whole book_row (λ a b. refl) 0 d.classes)
    (All-append W _ _ (All-map W bound_row d.bounds (all_of _ (λ b. refl) d.bounds))
    (All-append W _ _ (All-map W quote_row d.quotes (all_of _ (λ q. refl) d.quotes)) (refl, tt)))))

-- whatever is laid out is read back
pub reads_back : (k : FileKind) (d : Description) → Proper k d → read_file k (layout d) ≡ Ok d
unfolding layout bad_size
reads_back k d h =
    let rs = rows d in
    let bs = flat_map (λ r. r) rs in
    let l : length bs ≡ 16 * length rs = joined_length rs (rows_whole d) in
    let s = size_rows k d h in
    let n : length bs / 16 ≡ length rs = omega (arith, s.0) in
    let good : bad_size bs ≡ false = let s0 = s.0 in let s1 = s.1 in grind (arith, nat_tests) in
    let cut : rs ≡ records bs = sym (ap (λ m. first_chunks 16 m bs) n ∙ joined_cut rs (rows_whole d)) in
    let c = complete k d h in
    sym (read_ok k bs rs good cut c.q d c.runs (sym (sections_back k c.q d h c.counted)))

describing_ok : (rs : List (List ℕ)) (x : Result Progress Fault) (d : Description) → describing rs x ≡ Ok d → (p : Progress) × (x ≡ Ok p) × (sectioned p rs ≡ d)
describing_ok rs (Ok p) d e = (p, refl, cc)
describing_ok rs (Err f) d e = absurd cc

accepted_size : (k : FileKind) (bs : List ℕ) (d : Description) → read_file k bs ≡ Ok d → bad_size bs ≡ false
unfolding read_file
accepted_size k bs d e =
    ⊎_elim (λ t. let f = sym (cond-true _ _ _ t) ∙ e in absurd cc) (λ f. f) (cases_Bool (bad_size bs))

-- whatever is accepted was laid out
pub laid_out : (k : FileKind) (bs : List ℕ) (d : Description) → Bytes bs → read_file k bs ≡ Ok d → Proper k d × (layout d ≡ bs)
unfolding layout
laid_out k bs d bytes e =
    let good = accepted_size k bs d e in
    let rs = records bs in
    let g = good_size bs good in
    let l : length bs ≡ 16 * (length bs / 16) = omega (arith, g.1) in
    let r = describing_ok rs (walked k 0 start rs) d (sym (whole k bs rs good refl) ∙ e) in
    let f : Found k r.0 rs = sound k 0 start r.0 rs [] 0 [] [] [] (draft_start k) (cut_whole (length bs / 16) bs l bytes) r.1 in
    let same : f.d ≡ d = sym (sections_back k r.0 f.d f.proper f.counted) ∙ (ap (sectioned r.0) f.laid ∙ r.2) in (
      subst (Proper k) same f.proper,
      ap (λ x. flat_map (λ r. r) (rows x)) (sym same) ∙ (ap (flat_map (λ r. r)) f.laid ∙ cut_joined (length bs / 16) bs l),
    )

-- both together: what an answer tells
pub tells_all : (k : FileKind) (bs : List ℕ) (x : Result Description Fault) → Bytes bs → x ≡ read_file k bs → Tells k bs x
tells_all k bs (Ok d) bytes e =
    let l = laid_out k bs d bytes (sym e) in
    record {
      proper = l.0;
      laid = l.1;
      only = λ o po lo. let a : read_file k bs ≡ Ok o = ap (read_file k) (sym lo) ∙ reads_back k o po in let b = e ∙ a in cc;
    }
tells_all k bs (Err f) bytes e = λ d pd ld.
    let a : read_file k bs ≡ Ok d = ap (read_file k) (sym ld) ∙ reads_back k d pd in let b = e ∙ a in cc
