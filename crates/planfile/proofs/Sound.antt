-- A file that is accepted is the layout of a proper description.
use Rattle.std.proofs.Common.{◌≡◌, ℕ, suc, ◌+◌, ◌<◌, ◌≤◌, max, true, false, eqb, List, [], ◌∷◌, ◌++◌, map, length, get_or, take, drop, Ok, sym, refl, ap, ◌∙◌, subst, inr, append_assoc, arith}
use Rattle.std.proofs.ByRecursion.{All-push, All-weaker}
use Rattle.std.proofs.lemmas.List.{length_push, append-nil, map_push}
use Rattle.std.proofs.lemmas.Bool.{eqb-true}
use Rattle.std.proofs.lemmas.Bool.Decides.{nat_tests}
use Rattle.std.specs.List.{AllByRecursion}
use Rattle.planfile.specs.declared.progress.FileKind.{FileKind}
use Rattle.planfile.specs.declared.progress.Progress.{Progress}
use Rattle.planfile.specs.declared.progress.Stage.{Stage}
use Rattle.planfile.specs.declared.reader.Bound.{Bound}
use Rattle.planfile.specs.declared.reader.Quote.{Quote}
use Rattle.planfile.specs.Fields.{price_of, spare_bytes}
use Rattle.planfile.specs.Progress.{rank, within, before, place, start}
use Rattle.planfile.specs.Records.{stepped, with_class, with_weekend, with_book, with_bound, with_quote, with_limit}
use Rattle.planfile.specs.Description.{Description, Proper, Before, Rising, Parents, Fitting, BoundStands, QuoteStands, class_row, weekend_row, book_row, bound_row, quote_row, limit_row, numbered, weekend_rows, rows}
use Rattle.planfile.specs.Reading.{walked, bound_of, quote_of}
use Rattle.planfile.proofs.Passed.{LimitOk}
use Rattle.planfile.proofs.Letters.{Accepted, accepted}
use Rattle.planfile.proofs.Letters.Accepted.{is_class, is_weekend, is_book, is_bound, is_quote, is_limit}
use Rattle.planfile.proofs.Rows.{class_row_lem, weekend_row_lem, book_row_lem, bound_row_lem, quote_row_lem, limit_row_lem, quote_fitting, limit_fitting_lem}
use Rattle.planfile.proofs.Sections.{Counted, Whole, numbered_push, weekends_push}
use Rattle.planfile.proofs.Walks.{turned_ok, finished_ok}

stage_in : (low high : ℕ) (s : Stage) → within low high s ≡ true → (low ≤ rank s) × (rank s ≤ high)
unfolding within
stage_in low high s e = grind (arith, nat_tests)

-- what was read before the limit
module _ (ps : List ℕ) (w : ℕ) (cs : List ℕ) (bs : List Bound) (qs : List Quote) where
  abbrev pub body_rows : List (List ℕ)
  body_rows = numbered class_row 0 ps ++ (weekend_rows 0 w ++ (numbered book_row 0 cs ++ (map bound_row bs ++ map quote_row qs)))

-- one more of the kind that comes last so far
body_class : (ps : List ℕ) (x : ℕ) → body_rows (ps ++ x ∷ []) 0 [] [] [] ≡ body_rows ps 0 [] [] [] ++ class_row (length ps) x ∷ []
body_class ps x =
    let e : 0 + length ps ≡ length ps = omega arith in
    append-nil (numbered class_row 0 (ps ++ x ∷ [])) ∙ (numbered_push class_row 0 x ps
    ∙ (ap (λ n. numbered class_row 0 ps ++ class_row n x ∷ []) e ∙ ap (λ t. t ++ class_row (length ps) x ∷ []) (sym (append-nil (numbered class_row 0 ps)))))

body_weekend : (ps : List ℕ) (w : ℕ) → body_rows ps (suc w) [] [] [] ≡ body_rows ps w [] [] [] ++ weekend_row w ∷ []
body_weekend ps w =
    let C = numbered class_row 0 ps in
    let e : 0 + w ≡ w = omega arith in
    ap (λ t. C ++ t) (append-nil (weekend_rows 0 (suc w)) ∙ (weekends_push 0 w ∙ ap (λ n. weekend_rows 0 w ++ weekend_row n ∷ []) e))
    ∙ (sym (append_assoc C (weekend_rows 0 w) (weekend_row w ∷ [])) ∙ ap (λ t. (C ++ t) ++ weekend_row w ∷ []) (sym (append-nil (weekend_rows 0 w))))

body_book : (ps : List ℕ) (w : ℕ) (cs : List ℕ) (x : ℕ) → body_rows ps w (cs ++ x ∷ []) [] [] ≡ body_rows ps w cs [] [] ++ book_row (length cs) x ∷ []
body_book ps w cs x =
    let C = numbered class_row 0 ps in let W = weekend_rows 0 w in let B = numbered book_row 0 cs in let r = book_row (length cs) x in
    let e : 0 + length cs ≡ length cs = omega arith in
    ap (λ t. C ++ (W ++ t)) (append-nil (numbered book_row 0 (cs ++ x ∷ [])) ∙ (numbered_push book_row 0 x cs ∙ ap (λ n. B ++ book_row n x ∷ []) e))
    ∙ (ap (λ t. C ++ t) (sym (append_assoc W B (r ∷ []))) ∙ (sym (append_assoc C (W ++ B) (r ∷ [])) ∙ ap (λ t. (C ++ (W ++ t)) ++ r ∷ []) (sym (append-nil B))))

body_bound : (ps : List ℕ) (w : ℕ) (cs : List ℕ) (bs : List Bound) (x : Bound) → body_rows ps w cs (bs ++ x ∷ []) [] ≡ body_rows ps w cs bs [] ++ bound_row x ∷ []
body_bound ps w cs bs x =
    let C = numbered class_row 0 ps in let W = weekend_rows 0 w in let B = numbered book_row 0 cs in let N = map bound_row bs in let r = bound_row x in
    ap (λ t. C ++ (W ++ (B ++ t))) (append-nil (map bound_row (bs ++ x ∷ [])) ∙ map_push bound_row bs x)
    ∙ (ap (λ t. C ++ (W ++ t)) (sym (append_assoc B N (r ∷ []))) ∙ (ap (λ t. C ++ t) (sym (append_assoc W (B ++ N) (r ∷ [])))
    ∙ (sym (append_assoc C (W ++ (B ++ N)) (r ∷ [])) ∙ ap (λ t. (C ++ (W ++ (B ++ t))) ++ r ∷ []) (sym (append-nil N)))))

body_end : (ps : List ℕ) (w : ℕ) (cs : List ℕ) (bs : List Bound) (qs : List Quote) (rs : List (List ℕ))
    → numbered class_row 0 ps ++ (weekend_rows 0 w ++ (numbered book_row 0 cs ++ (map bound_row bs ++ (map quote_row qs ++ rs)))) ≡ body_rows ps w cs bs qs ++ rs
body_end ps w cs bs qs rs =
    let C = numbered class_row 0 ps in let W = weekend_rows 0 w in let B = numbered book_row 0 cs in let N = map bound_row bs in let Q = map quote_row qs in
    ap (λ t. C ++ (W ++ (B ++ t))) (sym (append_assoc N Q rs)) ∙ (ap (λ t. C ++ (W ++ t)) (sym (append_assoc B (N ++ Q) rs))
    ∙ (ap (λ t. C ++ t) (sym (append_assoc W (B ++ (N ++ Q)) rs)) ∙ sym (append_assoc C (W ++ (B ++ (N ++ Q))) rs)))

body_quote : (ps : List ℕ) (w : ℕ) (cs : List ℕ) (bs : List Bound) (qs : List Quote) (x : Quote) → body_rows ps w cs bs (qs ++ x ∷ []) ≡ body_rows ps w cs bs qs ++ quote_row x ∷ []
body_quote ps w cs bs qs x =
    ap (λ t. numbered class_row 0 ps ++ (weekend_rows 0 w ++ (numbered book_row 0 cs ++ (map bound_row bs ++ t)))) (map_push quote_row qs x)
    ∙ body_end ps w cs bs qs (quote_row x ∷ [])

-- orders of places
before_next : (a b c d e f : ℕ) → Before a b c d → before (place e f) (place c d) ≡ false → Before a b e f
unfolding before
before_next a b c d e f h n = grind (arith, nat_tests)

before_more : (a b e f : ℕ) → Before a b e f → Before a b e (f + 1)
before_more a b e f h = grind arith

rising_push : {X : Type 0} (f g : X → ℕ) (xs : List X) (y : X) → Rising f g xs → AllByRecursion (λ x. Before (f x) (g x) (f y) (g y)) xs → Rising f g (xs ++ y ∷ [])
rising_push f g [] y r h = (tt, tt)
rising_push f g (x ∷ xs) y r h = (All-push (λ z. Before (f x) (g x) (f z) (g z)) xs y r.0 h.0, rising_push f g xs y r.1 h.1)

parents_push : (n : ℕ) (xs : List ℕ) (x : ℕ) → Parents n xs → x < max (n + length xs) 1 → Parents n (xs ++ x ∷ [])
parents_push n [] x h l = (omega arith, tt)
parents_push n (y ∷ xs) x h l = (h.0, parents_push (n + 1) xs x h.1 (omega arith))

-- what the records so far describe
pub record Draft (k : FileKind) (p : Progress) (ps : List ℕ) (w : ℕ) (cs : List ℕ) (bs : List Bound) (qs : List Quote) : Type 0 where
  pub classes : p.classes ≡ length ps
  pub weekends : p.weekends ≡ w
  pub books : p.books ≡ length cs
  pub bounds : p.bounds ≡ length bs
  pub quotes : p.quotes ≡ length qs
  pub no_weekends : rank p.stage ≤ 1 → w ≡ 0
  pub no_books : rank p.stage ≤ 2 → cs ≡ []
  pub no_bounds : rank p.stage ≤ 3 → bs ≡ []
  pub no_quotes : rank p.stage ≤ 4 → qs ≡ []
  pub some_class : 1 ≤ rank p.stage → 1 ≤ length ps
  pub some_weekend : 2 ≤ rank p.stage → 1 ≤ w
  pub some_book : 3 ≤ rank p.stage → 1 ≤ length cs
  pub unended : rank p.stage ≤ 5
  pub few_classes : length ps ≤ 8
  pub few_weekends : w ≤ 16
  pub few_books : length cs ≤ 120
  pub parents : Parents 0 ps
  pub classes_in : AllByRecursion (λ c. c < length ps) cs
  pub bounds_in : AllByRecursion (BoundStands w (length ps)) bs
  pub bounds_rise : Rising (λ b. b.weekend) (λ b. b.class) bs
  pub bounds_before : AllByRecursion (λ b. Before b.weekend b.class p.next_bound.row p.next_bound.column) bs
  pub quotes_in : AllByRecursion (QuoteStands k (length cs) w) qs
  pub quotes_rise : Rising (λ q. q.book) (λ q. q.weekend) qs
  pub quotes_before : AllByRecursion (λ q. Before q.book q.weekend p.next_quote.row p.next_quote.column) qs

-- nothing read yet
pub draft_start : (k : FileKind) → Draft k start [] 0 [] [] []
draft_start k =
    record {
      classes = refl;
      weekends = refl;
      books = refl;
      bounds = refl;
      quotes = refl;
      no_weekends = λ _. refl;
      no_books = λ _. refl;
      no_bounds = λ _. refl;
      no_quotes = λ _. refl;
      some_class = λ h. omega arith;
      some_weekend = λ h. omega arith;
      some_book = λ h. omega arith;
      unended = omega arith;
      few_classes = omega arith;
      few_weekends = omega arith;
      few_books = omega arith;
      parents = tt;
      classes_in = tt;
      bounds_in = tt;
      bounds_rise = tt;
      bounds_before = tt;
      quotes_in = tt;
      quotes_rise = tt;
      quotes_before = tt;
    }

all_none : {X : Type 0} (P : X → Type 0) (xs : List X) → xs ≡ [] → AllByRecursion P xs
all_none P xs e = subst (AllByRecursion P) (sym e) tt

-- one record more of each kind
module _ (k : FileKind) (p : Progress) (ps : List ℕ) (w : ℕ) (cs : List ℕ) (bs : List Bound) (qs : List Quote) (d : Draft k p ps w cs bs qs) where
  draft_class : (a b : ℕ) → a ≡ p.classes → a < 8 → b < max a 1 → rank p.stage ≤ 1 → Draft k (with_class p a) (ps ++ b ∷ []) w cs bs qs
  draft_class a b e few parent stage =
      let l = length_push ps b in
      let no_book : cs ≡ [] = d.no_books (omega arith) in
      let no_bound : bs ≡ [] = d.no_bounds (omega arith) in
      record {
        classes = ap (λ n. n + 1) (e ∙ d.classes) ∙ sym l;
        weekends = d.weekends;
        books = d.books;
        bounds = d.bounds;
        quotes = d.quotes;
        no_weekends = λ _. d.no_weekends stage;
        no_books = λ _. no_book;
        no_bounds = λ _. no_bound;
        no_quotes = λ _. d.no_quotes (omega arith);
        some_class = λ _. omega (arith, l);
        some_weekend = λ h. absurd (omega arith);
        some_book = λ h. absurd (omega arith);
        unended = omega arith;
        few_classes = let c = d.classes in omega (arith, l);
        few_weekends = d.few_weekends;
        few_books = d.few_books;
        parents = parents_push 0 ps b d.parents (let c = d.classes in omega arith);
        classes_in = all_none _ cs no_book;
        bounds_in = all_none _ bs no_bound;
        bounds_rise = d.bounds_rise;
        bounds_before = d.bounds_before;
        quotes_in = d.quotes_in;
        quotes_rise = d.quotes_rise;
        quotes_before = d.quotes_before;
      }

  draft_weekend : (a : ℕ) → a ≡ p.weekends → a < 16 → 1 ≤ rank p.stage → rank p.stage ≤ 2 → Draft k (with_weekend p a) ps (suc w) cs bs qs
  draft_weekend a e few low high =
      let no_book : cs ≡ [] = d.no_books high in
      let no_bound : bs ≡ [] = d.no_bounds (omega arith) in
      let no_quote : qs ≡ [] = d.no_quotes (omega arith) in
      let c = d.weekends in
      record {
        classes = d.classes;
        weekends = omega arith;
        books = d.books;
        bounds = d.bounds;
        quotes = d.quotes;
        no_weekends = λ h. absurd (omega arith);
        no_books = λ _. no_book;
        no_bounds = λ _. no_bound;
        no_quotes = λ _. no_quote;
        some_class = λ _. d.some_class low;
        some_weekend = λ _. omega arith;
        some_book = λ h. absurd (omega arith);
        unended = omega arith;
        few_classes = d.few_classes;
        few_weekends = omega arith;
        few_books = d.few_books;
        parents = d.parents;
        classes_in = d.classes_in;
        bounds_in = all_none _ bs no_bound;
        bounds_rise = d.bounds_rise;
        bounds_before = d.bounds_before;
        quotes_in = all_none _ qs no_quote;
        quotes_rise = d.quotes_rise;
        quotes_before = d.quotes_before;
      }

  draft_book : (a b : ℕ) → a ≡ p.books → a < 120 → b < p.classes → 2 ≤ rank p.stage → rank p.stage ≤ 3 → Draft k (with_book p a) ps w (cs ++ b ∷ []) bs qs
  draft_book a b e few class low high =
      let l = length_push cs b in
      let no_bound : bs ≡ [] = d.no_bounds high in
      let no_quote : qs ≡ [] = d.no_quotes (omega arith) in
      let c = d.books in let n = d.classes in
      record {
        classes = d.classes;
        weekends = d.weekends;
        books = omega (arith, l);
        bounds = d.bounds;
        quotes = d.quotes;
        no_weekends = λ h. absurd (omega arith);
        no_books = λ h. absurd (omega arith);
        no_bounds = λ _. no_bound;
        no_quotes = λ _. no_quote;
        some_class = λ _. d.some_class (omega arith);
        some_weekend = λ _. d.some_weekend low;
        some_book = λ _. omega (arith, l);
        unended = omega arith;
        few_classes = d.few_classes;
        few_weekends = d.few_weekends;
        few_books = omega (arith, l);
        parents = d.parents;
        classes_in = All-push (λ x. x < length ps) cs b d.classes_in (omega arith);
        bounds_in = d.bounds_in;
        bounds_rise = d.bounds_rise;
        bounds_before = d.bounds_before;
        quotes_in = all_none _ qs no_quote;
        quotes_rise = d.quotes_rise;
        quotes_before = d.quotes_before;
      }

  draft_bound : (x : Bound) → x.weekend < p.weekends → x.class < p.classes → x.lower ≤ x.upper → x.upper ≤ 120
      → before (place x.weekend x.class) p.next_bound ≡ false → 3 ≤ rank p.stage → rank p.stage ≤ 4 → Draft k (with_bound p x.weekend x.class) ps w cs (bs ++ x ∷ []) qs
  draft_bound x weekend class ordered most rises low high =
      let l = length_push bs x in
      let earlier : AllByRecursion (λ b. Before b.weekend b.class x.weekend x.class) bs
      = All-weaker _ _ (λ b h. before_next b.weekend b.class p.next_bound.row p.next_bound.column x.weekend x.class h rises) bs d.bounds_before in
      let c = d.bounds in let n = d.classes in let m = d.weekends in
      record {
        classes = d.classes;
        weekends = d.weekends;
        books = d.books;
        bounds = omega (arith, l);
        quotes = d.quotes;
        no_weekends = λ h. absurd (omega arith);
        no_books = λ h. absurd (omega arith);
        no_bounds = λ h. absurd (omega arith);
        no_quotes = λ _. d.no_quotes high;
        some_class = λ _. d.some_class (omega arith);
        some_weekend = λ _. d.some_weekend (omega arith);
        some_book = λ _. d.some_book low;
        unended = omega arith;
        few_classes = d.few_classes;
        few_weekends = d.few_weekends;
        few_books = d.few_books;
        parents = d.parents;
        classes_in = d.classes_in;
        bounds_in = All-push (BoundStands w (length ps)) bs x d.bounds_in (record { weekend = omega arith; class = omega arith; ordered = ordered; most = most });
        bounds_rise = rising_push (λ b. b.weekend) (λ b. b.class) bs x d.bounds_rise earlier;
        bounds_before = All-push (λ b. Before b.weekend b.class x.weekend (x.class + 1)) bs x
            (All-weaker _ _ (λ b h. before_more b.weekend b.class x.weekend x.class h) bs earlier) (inr (refl, omega arith));
        quotes_in = d.quotes_in;
        quotes_rise = d.quotes_rise;
        quotes_before = d.quotes_before;
      }

  draft_quote : (x : Quote) → QuoteStands k p.books p.weekends x
      → before (place x.book x.weekend) p.next_quote ≡ false → 3 ≤ rank p.stage → rank p.stage ≤ 5 → Draft k (with_quote p x.book x.weekend) ps w cs bs (qs ++ x ∷ [])
  draft_quote x stands rises low high =
      let l = length_push qs x in
      let earlier : AllByRecursion (λ q. Before q.book q.weekend x.book x.weekend) qs
      = All-weaker _ _ (λ q h. before_next q.book q.weekend p.next_quote.row p.next_quote.column x.book x.weekend h rises) qs d.quotes_before in
      let c = d.quotes in
      record {
        classes = d.classes;
        weekends = d.weekends;
        books = d.books;
        bounds = d.bounds;
        quotes = omega (arith, l);
        no_weekends = λ h. absurd (omega arith);
        no_books = λ h. absurd (omega arith);
        no_bounds = λ h. absurd (omega arith);
        no_quotes = λ h. absurd (omega arith);
        some_class = λ _. d.some_class (omega arith);
        some_weekend = λ _. d.some_weekend (omega arith);
        some_book = λ _. d.some_book low;
        unended = omega arith;
        few_classes = d.few_classes;
        few_weekends = d.few_weekends;
        few_books = d.few_books;
        parents = d.parents;
        classes_in = d.classes_in;
        bounds_in = d.bounds_in;
        bounds_rise = d.bounds_rise;
        bounds_before = d.bounds_before;
        quotes_in = All-push (QuoteStands k (length cs) w) qs x d.quotes_in (subst (λ n. QuoteStands k n w x) d.books (subst (λ n. QuoteStands k p.books n x) d.weekends stands));
        quotes_rise = rising_push (λ q. q.book) (λ q. q.weekend) qs x d.quotes_rise earlier;
        quotes_before = All-push (λ q. Before q.book q.weekend x.book (x.weekend + 1)) qs x
            (All-weaker _ _ (λ q h. before_more q.book q.weekend x.book x.weekend h) qs earlier) (inr (refl, omega arith));
      }

-- what one accepted record makes of what was read so far: more of the same, or the end
data Next (k : FileKind) (p q : Progress) (r : List ℕ) (ps : List ℕ) (w : ℕ) (cs : List ℕ) (bs : List Bound) (qs : List Quote) : Type 0 where
  more : (ps' : List ℕ) (w' : ℕ) (cs' : List ℕ) (bs' : List Bound) (qs' : List Quote) → Draft k q ps' w' cs' bs' qs'
      → body_rows ps' w' cs' bs' qs' ≡ body_rows ps w cs bs qs ++ r ∷ [] → Next k p q r ps w cs bs qs
  last : LimitOk p q (take (spare_bytes k + 2) (drop 1 r)) (price_of r) → r ≡ limit_row (price_of r) → Fitting k (price_of r) → Next k p q r ps w cs bs qs

class_at : (ps : List ℕ) (w : ℕ) (cs : List ℕ) (bs : List Bound) (qs : List Quote) (x : ℕ) → w ≡ 0 → cs ≡ [] → bs ≡ [] → qs ≡ []
    → body_rows (ps ++ x ∷ []) w cs bs qs ≡ body_rows ps w cs bs qs ++ class_row (length ps) x ∷ []
class_at ps w cs bs qs x e1 e2 e3 e4 = rw (e1, e2, e3, e4) (body_class ps x)

weekend_at : (ps : List ℕ) (w : ℕ) (cs : List ℕ) (bs : List Bound) (qs : List Quote) → cs ≡ [] → bs ≡ [] → qs ≡ []
    → body_rows ps (suc w) cs bs qs ≡ body_rows ps w cs bs qs ++ weekend_row w ∷ []
weekend_at ps w cs bs qs e2 e3 e4 = rw (e2, e3, e4) (body_weekend ps w)

book_at : (ps : List ℕ) (w : ℕ) (cs : List ℕ) (bs : List Bound) (qs : List Quote) (x : ℕ) → bs ≡ [] → qs ≡ []
    → body_rows ps w (cs ++ x ∷ []) bs qs ≡ body_rows ps w cs bs qs ++ book_row (length cs) x ∷ []
book_at ps w cs bs qs x e3 e4 = rw (e3, e4) (body_book ps w cs x)

bound_at : (ps : List ℕ) (w : ℕ) (cs : List ℕ) (bs : List Bound) (qs : List Quote) (x : Bound) → qs ≡ []
    → body_rows ps w cs (bs ++ x ∷ []) qs ≡ body_rows ps w cs bs qs ++ bound_row x ∷ []
bound_at ps w cs bs qs x e4 = rw e4 (body_bound ps w cs bs x)

next : (k : FileKind) (p q : Progress) (r : List ℕ) (ps : List ℕ) (w : ℕ) (cs : List ℕ) (bs : List Bound) (qs : List Quote)
    → Draft k p ps w cs bs qs → Whole r → Accepted k p q r → Next k p q r ps w cs bs qs
next k p q r ps w cs bs qs d whole (is_class l h) =
    let s = stage_in 0 1 p.stage h.stage in
    let row : class_row (length ps) (get_or r 2 0) ≡ r = ap (λ n. class_row n (get_or r 2 0)) (sym (h.counts ∙ d.classes)) ∙ sym (class_row_lem r whole.0 p q l h) in
    more (ps ++ get_or r 2 0 ∷ []) w cs bs qs
    (subst (λ x. Draft k x (ps ++ get_or r 2 0 ∷ []) w cs bs qs) h.next (draft_class k p ps w cs bs qs d (get_or r 1 0) (get_or r 2 0) h.counts h.few h.parent s.1))
    (class_at ps w cs bs qs (get_or r 2 0) (d.no_weekends s.1) (d.no_books (omega (arith, s.1))) (d.no_bounds (omega (arith, s.1))) (d.no_quotes (omega (arith, s.1)))
    ∙ ap (λ t. body_rows ps w cs bs qs ++ t ∷ []) row)
next k p q r ps w cs bs qs d whole (is_weekend l h) =
    let s = stage_in 1 2 p.stage h.stage in
    let row : weekend_row w ≡ r = ap weekend_row (sym (h.counts ∙ d.weekends)) ∙ sym (weekend_row_lem r whole.0 p q l h) in
    more ps (suc w) cs bs qs
    (subst (λ x. Draft k x ps (suc w) cs bs qs) h.next (draft_weekend k p ps w cs bs qs d (get_or r 1 0) h.counts h.few s.0 s.1))
    (weekend_at ps w cs bs qs (d.no_books s.1) (d.no_bounds (omega (arith, s.1))) (d.no_quotes (omega (arith, s.1))) ∙ ap (λ t. body_rows ps w cs bs qs ++ t ∷ []) row)
next k p q r ps w cs bs qs d whole (is_book l h) =
    let s = stage_in 2 3 p.stage h.stage in
    let row : book_row (length cs) (get_or r 2 0) ≡ r = ap (λ n. book_row n (get_or r 2 0)) (sym (h.counts ∙ d.books)) ∙ sym (book_row_lem r whole.0 p q l h) in
    more ps w (cs ++ get_or r 2 0 ∷ []) bs qs
    (subst (λ x. Draft k x ps w (cs ++ get_or r 2 0 ∷ []) bs qs) h.next (draft_book k p ps w cs bs qs d (get_or r 1 0) (get_or r 2 0) h.counts h.few h.class s.0 s.1))
    (book_at ps w cs bs qs (get_or r 2 0) (d.no_bounds s.1) (d.no_quotes (omega (arith, s.1))) ∙ ap (λ t. body_rows ps w cs bs qs ++ t ∷ []) row)
next k p q r ps w cs bs qs d whole (is_bound l h) =
    let s = stage_in 3 4 p.stage h.stage in
    more ps w cs (bs ++ bound_of r ∷ []) qs
    (subst (λ x. Draft k x ps w cs (bs ++ bound_of r ∷ []) qs) h.next
    (draft_bound k p ps w cs bs qs d (bound_of r) h.weekend h.class h.ordered h.most h.rises s.0 s.1))
    (bound_at ps w cs bs qs (bound_of r) (d.no_quotes s.1) ∙ ap (λ t. body_rows ps w cs bs qs ++ t ∷ []) (sym (bound_row_lem r whole.0 p q l h)))
next k p q r ps w cs bs qs d whole (is_quote l h) =
    let s = stage_in 3 5 p.stage h.stage in
    let stands : QuoteStands k p.books p.weekends (quote_of r)
    = record { book = h.book; weekend = h.weekend; strain = h.strain; money = h.money; fitting = quote_fitting r whole.0 p q whole.1 k h.rest } in
    more ps w cs bs (qs ++ quote_of r ∷ [])
    (subst (λ x. Draft k x ps w cs bs (qs ++ quote_of r ∷ [])) h.next (draft_quote k p ps w cs bs qs d (quote_of r) stands h.rises s.0 s.1))
    (body_quote ps w cs bs qs (quote_of r) ∙ ap (λ t. body_rows ps w cs bs qs ++ t ∷ []) (sym (quote_row_lem r whole.0 p q whole.1 k l h.rest)))
next k p q r ps w cs bs qs d whole (is_limit l h) = last h (limit_row_lem r whole.0 p q whole.1 k l h.rest) (limit_fitting_lem r whole.0 p q whole.1 k h.rest)

-- a description whose records these are
pub record Found (k : FileKind) (q : Progress) (all : List (List ℕ)) : Type 0 where
  pub d : Description
  pub proper : Proper k d
  pub laid : rows d ≡ all
  pub counted : Counted q d

-- after the limit nothing follows
no_more : (k : FileKind) (i : ℕ) (p q : Progress) (rs : List (List ℕ)) → rank p.stage ≡ 6 → walked k i p rs ≡ Ok q → (rs ≡ []) × (p ≡ q)
unfolding walked
no_more k i p q [] e h = (refl, (finished_ok i p q h).1)
no_more k i p q (r ∷ rs) e h =
    let t = turned_ok i (λ m. walked k (i + 1) m rs) (stepped k p r) q h in
    absurd (shut (accepted k p t.0 r t.1))
  where
    up : (low high : ℕ) → within low high p.stage ≡ true → high ≤ 5 → ⊥
    up low high f l = let s = stage_in low high p.stage f in omega (arith, s.1)

    shut : {m : Progress} → Accepted k p m r → ⊥
    shut (is_class l a) = up 0 1 a.stage (omega arith)
    shut (is_weekend l a) = up 1 2 a.stage (omega arith)
    shut (is_book l a) = up 2 3 a.stage (omega arith)
    shut (is_bound l a) = up 3 4 a.stage (omega arith)
    shut (is_quote l a) = up 3 5 a.stage (omega arith)
    shut (is_limit l a) = up 3 5 a.stage (omega arith)

ended : (k : FileKind) (i : ℕ) (p m q : Progress) (r : List ℕ) (rs : List (List ℕ)) (ps : List ℕ) (w : ℕ) (cs : List ℕ) (bs : List Bound) (qs : List Quote)
    → Draft k p ps w cs bs qs → LimitOk p m (take (spare_bytes k + 2) (drop 1 r)) (price_of r) → r ≡ limit_row (price_of r) → Fitting k (price_of r)
    → walked k i m rs ≡ Ok q → Found k q (body_rows ps w cs bs qs ++ r ∷ rs)
ended k i p m q r rs ps w cs bs qs d h row fits walk =
    let s = stage_in 3 5 p.stage h.stage in
    let e = no_more k i m q rs (subst (λ x. rank x.stage ≡ 6) h.next refl) walk in
    let same : with_limit p ≡ q = h.next ∙ e.1 in
    let whole : Description = record { parents = ps; weekends = w; classes = cs; bounds = bs; quotes = qs; limit = price_of r } in
    record {
      d = whole;
      proper = record {
        some_class = d.some_class (omega (arith, s.0));
        few_classes = d.few_classes;
        parents = d.parents;
        some_weekend = d.some_weekend (omega (arith, s.0));
        few_weekends = d.few_weekends;
        some_book = d.some_book s.0;
        few_books = d.few_books;
        classes = d.classes_in;
        bounds = d.bounds_in;
        bounds_rise = d.bounds_rise;
        quotes = d.quotes_in;
        quotes_rise = d.quotes_rise;
        limit = h.money;
        limit_fitting = fits;
      };
      laid = body_end ps w cs bs qs (limit_row (price_of r) ∷ []) ∙ (ap (λ t. body_rows ps w cs bs qs ++ t ∷ []) (sym row) ∙ ap (λ t. body_rows ps w cs bs qs ++ r ∷ t) (sym e.0));
      counted = subst (λ x. Counted x whole) same (record { classes = d.classes; weekends = d.weekends; books = d.books; bounds = d.bounds; quotes = d.quotes });
    }

pub sound : (k : FileKind) (i : ℕ) (p q : Progress) (rs : List (List ℕ)) (ps : List ℕ) (w : ℕ) (cs : List ℕ) (bs : List Bound) (qs : List Quote)
    → Draft k p ps w cs bs qs → AllByRecursion Whole rs → walked k i p rs ≡ Ok q → Found k q (body_rows ps w cs bs qs ++ rs)
unfolding walked
sound k i p q [] ps w cs bs qs d whole h =
    let f = finished_ok i p q h in absurd (not_six p.stage d.unended f.0)
  where
    not_six : (s : Stage) → rank s ≤ 5 → eqb (rank s) 6 ≡ true → ⊥
    not_six s l e = let x = eqb-true (rank s) 6 e in omega arith
sound k i p q (r ∷ rs) ps w cs bs qs d whole h =
    let t = turned_ok i (λ m. walked k (i + 1) m rs) (stepped k p r) q h in
    elim (next k p t.0 r ps w cs bs qs d whole.0 (accepted k p t.0 r t.1)) [
      | more ps' w' cs' bs' qs' d' e ↦
          subst (Found k q) (ap (λ x. x ++ rs) e ∙ append_assoc (body_rows ps w cs bs qs) (r ∷ []) rs) (sound k (i + 1) t.0 q rs ps' w' cs' bs' qs' d' whole.1 t.2)
      | last l row fits ↦ ended k (i + 1) p t.0 q r rs ps w cs bs qs d l row fits t.2
    ]
