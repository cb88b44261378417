-- The records of a description: put together, taken apart again, and cut out of the file's bytes.
use Rattle.std.proofs.Common.{◌≡◌, ℕ, zero, suc, ◌+◌, ◌*◌, ◌<◌, ◌≤◌, List, [], ◌∷◌, ◌++◌, map, length, get_or, take, drop, sym, refl, ap, ◌∙◌, subst, ⊎_elim, append_assoc, arith}
use Rattle.std.proofs.lemmas.List.{length-append, length-map, length-take, length-drop, take_at, drop_at, take-append-drop, get_or-take, get_or-drop, get_or_past, get_or_at, nil_from_length}
use Rattle.std.proofs.lemmas.Bool.{cases_lt}
use Rattle.std.specs.Simd.{first_chunks}
use Rattle.std.specs.List.{flat_map, AllByRecursion}
use Rattle.planfile.specs.declared.progress.FileKind.{FileKind}
use Rattle.planfile.specs.declared.progress.Progress.{Progress}
use Rattle.planfile.specs.declared.reader.Bound.{Bound}
use Rattle.planfile.specs.declared.reader.Quote.{Quote}
use Rattle.planfile.specs.Fields.{price_of}
use Rattle.planfile.specs.Description.{Description, class_row, weekend_row, book_row, bound_row, quote_row, limit_row, numbered, weekend_rows, rows, QuoteStands, Proper}
use Rattle.planfile.specs.Reading.{sectioned, second_number, bound_of, quote_of, body}
use Rattle.planfile.proofs.Bytes.{Bytes}
use Rattle.planfile.proofs.Rows.{quote_price, limit_price}

-- one more at the end
pub numbered_push : (row : ℕ → ℕ → List ℕ) (n x : ℕ) (xs : List ℕ) → numbered row n (xs ++ x ∷ []) ≡ numbered row n xs ++ row (n + length xs) x ∷ []
numbered_push row n x [] = let e : n ≡ n + 0 = omega arith in ap (λ m. row m x ∷ []) e
numbered_push row n x (y ∷ xs) =
    let e : n + 1 + length xs ≡ n + suc (length xs) = omega arith in
    ap (λ t. row n y ∷ t) (numbered_push row (n + 1) x xs ∙ ap (λ m. numbered row (n + 1) xs ++ row m x ∷ []) e)

pub weekends_push : (n k : ℕ) → weekend_rows n (suc k) ≡ weekend_rows n k ++ weekend_row (n + k) ∷ []
weekends_push n zero = let e : n ≡ n + 0 = omega arith in ap (λ m. weekend_row m ∷ []) e
weekends_push n (suc k) =
    let e : n + 1 + k ≡ n + suc k = omega arith in
    ap (λ t. weekend_row n ∷ t) (weekends_push (n + 1) k ∙ ap (λ m. weekend_rows (n + 1) k ++ weekend_row m ∷ []) e)

pub length_numbered : (row : ℕ → ℕ → List ℕ) (n : ℕ) (xs : List ℕ) → length (numbered row n xs) ≡ length xs
length_numbered row n [] = refl
length_numbered row n (x ∷ xs) = ap suc (length_numbered row (n + 1) xs)

pub length_weekends : (n k : ℕ) → length (weekend_rows n k) ≡ k
length_weekends n zero = refl
length_weekends n (suc k) = ap suc (length_weekends (n + 1) k)

-- a part in the middle
pub middle : {X : Type 0} (xs ys zs : List X) (a b : ℕ) → length xs ≡ a → length ys ≡ b → take b (drop a (xs ++ (ys ++ zs))) ≡ ys
middle xs ys zs a b ea eb = ap (take b) (drop_at xs (ys ++ zs) a ea) ∙ take_at ys zs b eb

-- what the records say, read back
classes_back : (n : ℕ) (xs : List ℕ) → map second_number (numbered class_row n xs) ≡ xs
classes_back n [] = refl
classes_back n (x ∷ xs) = ap (λ t. x ∷ t) (classes_back (n + 1) xs)

books_back : (n : ℕ) (xs : List ℕ) → map second_number (numbered book_row n xs) ≡ xs
books_back n [] = refl
books_back n (x ∷ xs) = ap (λ t. x ∷ t) (books_back (n + 1) xs)

bounds_back : (bs : List Bound) → map bound_of (map bound_row bs) ≡ bs
bounds_back [] = refl
bounds_back (b ∷ bs) = ap (λ t. b ∷ t) (bounds_back bs)

quotes_back : (k : FileKind) (books weekends : ℕ) (qs : List Quote) → AllByRecursion (QuoteStands k books weekends) qs → map quote_of (map quote_row qs) ≡ qs
quotes_back k books weekends [] h = refl
quotes_back k books weekends (q ∷ qs) h =
    ap (λ p. (record { book = q.book; weekend = q.weekend; price = p }) ∷ map quote_of (map quote_row qs)) (quote_price k books weekends q h.0)
    ∙ ap (λ t. q ∷ t) (quotes_back k books weekends qs h.1)

-- how many of each, where the records of a description were read
pub record Counted (p : Progress) (d : Description) : Type 0 where
  pub classes : p.classes ≡ length d.parents
  pub weekends : p.weekends ≡ d.weekends
  pub books : p.books ≡ length d.classes
  pub bounds : p.bounds ≡ length d.bounds
  pub quotes : p.quotes ≡ length d.quotes

described : (d e : Description) → d.parents ≡ e.parents → d.weekends ≡ e.weekends → d.classes ≡ e.classes → d.bounds ≡ e.bounds → d.quotes ≡ e.quotes → d.limit ≡ e.limit → d ≡ e
described d e a b c f g h =
    ap (λ x. record { parents = x; weekends = d.weekends; classes = d.classes; bounds = d.bounds; quotes = d.quotes; limit = d.limit }) a
    ∙ (ap (λ x. record { parents = e.parents; weekends = x; classes = d.classes; bounds = d.bounds; quotes = d.quotes; limit = d.limit }) b
    ∙ (ap (λ x. record { parents = e.parents; weekends = e.weekends; classes = x; bounds = d.bounds; quotes = d.quotes; limit = d.limit }) c
    ∙ (ap (λ x. record { parents = e.parents; weekends = e.weekends; classes = e.classes; bounds = x; quotes = d.quotes; limit = d.limit }) f
    ∙ (ap (λ x. record { parents = e.parents; weekends = e.weekends; classes = e.classes; bounds = e.bounds; quotes = x; limit = d.limit }) g
    ∙ ap (λ x. record { parents = e.parents; weekends = e.weekends; classes = e.classes; bounds = e.bounds; quotes = e.quotes; limit = x }) h))))

-- the sections of a description's records give it back
pub sections_back : (k : FileKind) (p : Progress) (d : Description) → Proper k d → Counted p d → sectioned p (rows d) ≡ d
unfolding sectioned
sections_back k p d proper counts =
    let C = numbered class_row 0 d.parents in
    let W = weekend_rows 0 d.weekends in
    let B = numbered book_row 0 d.classes in
    let N = map bound_row d.bounds in
    let Q = map quote_row d.quotes in
    let L = limit_row d.limit ∷ [] in
    let c : length C ≡ p.classes = length_numbered class_row 0 d.parents ∙ sym counts.classes in
    let w : length W ≡ p.weekends = length_weekends 0 d.weekends ∙ sym counts.weekends in
    let b : length B ≡ p.books = length_numbered book_row 0 d.classes ∙ sym counts.books in
    let n : length N ≡ p.bounds = length-map d.bounds bound_row ∙ sym counts.bounds in
    let q : length Q ≡ p.quotes = length-map d.quotes quote_row ∙ sym counts.quotes in
    let cw : length (C ++ W) ≡ p.classes + p.weekends = length-append C W ∙ omega arith in
    let cwb : length ((C ++ W) ++ B) ≡ p.classes + p.weekends + p.books = length-append (C ++ W) B ∙ omega arith in
    let cwbn : length (((C ++ W) ++ B) ++ N) ≡ p.classes + p.weekends + p.books + p.bounds = length-append ((C ++ W) ++ B) N ∙ omega arith in
    let cwbnq : length ((((C ++ W) ++ B) ++ N) ++ Q) ≡ body p = length-append (((C ++ W) ++ B) ++ N) Q ∙ omega arith in
    let e1 : C ++ (W ++ (B ++ (N ++ (Q ++ L)))) ≡ (C ++ W) ++ (B ++ (N ++ (Q ++ L))) = sym (append_assoc C W (B ++ (N ++ (Q ++ L)))) in
    let e2 : (C ++ W) ++ (B ++ (N ++ (Q ++ L))) ≡ ((C ++ W) ++ B) ++ (N ++ (Q ++ L)) = sym (append_assoc (C ++ W) B (N ++ (Q ++ L))) in
    let e3 : ((C ++ W) ++ B) ++ (N ++ (Q ++ L)) ≡ (((C ++ W) ++ B) ++ N) ++ (Q ++ L) = sym (append_assoc ((C ++ W) ++ B) N (Q ++ L)) in
    let e4 : (((C ++ W) ++ B) ++ N) ++ (Q ++ L) ≡ ((((C ++ W) ++ B) ++ N) ++ Q) ++ L = sym (append_assoc (((C ++ W) ++ B) ++ N) Q L) in
    described _ d
    (ap (map second_number) (take_at C (W ++ (B ++ (N ++ (Q ++ L)))) p.classes c) ∙ classes_back 0 d.parents)
    counts.weekends
    (ap (λ t. map second_number (take p.books (drop (p.classes + p.weekends) t))) e1 ∙ (ap (map second_number) (middle (C ++ W) B (N ++ (Q ++ L)) _ _ cw b) ∙ books_back 0 d.classes))
    (ap (λ t. map bound_of (take p.bounds (drop (p.classes + p.weekends + p.books) t))) (e1 ∙ e2) ∙ (ap (map bound_of) (middle ((C ++ W) ++ B) N (Q ++ L) _ _ cwb n) ∙ bounds_back d.bounds))
    (ap (λ t. map quote_of (take p.quotes (drop (p.classes + p.weekends + p.books + p.bounds) t))) (e1 ∙ (e2 ∙ e3))
    ∙ (ap (map quote_of) (middle (((C ++ W) ++ B) ++ N) Q L _ _ cwbn q) ∙ quotes_back k _ _ d.quotes proper.quotes))
    (ap (λ t. price_of (get_or t (body p) [])) (e1 ∙ (e2 ∙ (e3 ∙ e4)))
    ∙ (ap price_of (get_or_at ((((C ++ W) ++ B) ++ N) ++ Q) (limit_row d.limit) [] [] (body p) cwbnq) ∙ limit_price k d.limit proper.limit proper.limit_fitting))

-- a record of 16 bytes
abbrev pub Whole : List ℕ → Type 0
Whole r = (length r ≡ 16) × Bytes r

-- records cut out of bytes, and put together again
pub cut_whole : (k : ℕ) (bs : List ℕ) → length bs ≡ 16 * k → Bytes bs → AllByRecursion Whole (first_chunks 16 k bs)
cut_whole zero bs e h = tt
cut_whole (suc k) bs e h = (
  (
    length-take 16 bs ∙ omega arith,
    λ i. ⊎_elim (λ (l : i < 16). subst (λ x. x < 256) (sym (get_or-take 16 bs i 0 l)) (h i))
        (λ (g : 16 ≤ i). subst (λ x. x < 256) (sym (get_or_past (take 16 bs) i 0 (rw length-take (omega arith)))) (omega arith)) (cases_lt i 16),
  ),
  cut_whole k (drop 16 bs) (length-drop 16 bs ∙ omega arith) (λ i. subst (λ x. x < 256) (sym (get_or-drop 16 bs i 0)) (h (16 + i))),
)

pub cut_joined : (k : ℕ) (bs : List ℕ) → length bs ≡ 16 * k → flat_map (λ r. r) (first_chunks 16 k bs) ≡ bs
cut_joined zero bs e = sym (nil_from_length bs (e ∙ omega arith))
cut_joined (suc k) bs e =
    ap (λ t. take 16 bs ++ t) (cut_joined k (drop 16 bs) (length-drop 16 bs ∙ omega arith)) ∙ take-append-drop 16 bs

pub joined_length : (rs : List (List ℕ)) → AllByRecursion (λ r. length r ≡ 16) rs → length (flat_map (λ r. r) rs) ≡ 16 * length rs
joined_length [] h = refl
joined_length (r ∷ rs) h = length-append r (flat_map (λ r. r) rs) ∙ (let e = h.0 in let t = joined_length rs h.1 in omega arith)

pub joined_cut : (rs : List (List ℕ)) → AllByRecursion (λ r. length r ≡ 16) rs → first_chunks 16 (length rs) (flat_map (λ r. r) rs) ≡ rs
joined_cut [] h = refl
joined_cut (r ∷ rs) h =
    ap (λ t. t ∷ first_chunks 16 (length rs) (drop 16 (r ++ flat_map (λ r. r) rs))) (take_at r (flat_map (λ r. r) rs) 16 h.0)
    ∙ ap (λ t. r ∷ t) (ap (first_chunks 16 (length rs)) (drop_at r (flat_map (λ r. r) rs) 16 h.0) ∙ joined_cut rs h.1)
