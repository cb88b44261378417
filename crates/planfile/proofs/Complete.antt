-- The layout of a proper description is accepted.
use Rattle.std.proofs.Common.{◌≡◌, ℕ, zero, suc, ◌+◌, ◌<◌, ◌≤◌, false, List, [], ◌∷◌, ◌++◌, map, length, Ok, sym, refl, ap, ◌∙◌, subst, zero-add, arith}
use Rattle.std.proofs.ByRecursion.{All-weaker}
use Rattle.std.proofs.lemmas.Bool.Decides.{nat_tests}
use Rattle.std.specs.List.{AllByRecursion}
use Rattle.planfile.specs.declared.progress.FileKind.{FileKind}
use Rattle.planfile.specs.declared.progress.Place.{Place}
use Rattle.planfile.specs.declared.progress.Progress.{Progress}
use Rattle.planfile.specs.declared.reader.Bound.{Bound}
use Rattle.planfile.specs.declared.reader.Quote.{Quote}
use Rattle.planfile.specs.Progress.{rank, before, place, start}
use Rattle.planfile.specs.Records.{stepped, with_class, with_weekend, with_book, with_bound, with_quote, with_limit}
use Rattle.planfile.specs.Description.{Description, Proper, Before, Rising, Parents, BoundStands, QuoteStands, class_row, weekend_row, book_row, bound_row, quote_row, limit_row, numbered, weekend_rows, rows}
use Rattle.planfile.specs.Reading.{walked, turned}
use Rattle.planfile.proofs.Rows.{class_step, weekend_step, book_step, bound_step, quote_step, limit_step}
use Rattle.planfile.proofs.Sections.{Counted}

-- the records rs are read, and what is left is rest: the file is then in a stage from lo to hi, with so many of each kind
pub record Reads (k : FileKind) (i : ℕ) (p : Progress) (rs rest : List (List ℕ)) (lo hi c w b n m : ℕ) : Type 0 where
  pub j : ℕ
  pub q : Progress
  pub runs : walked k i p (rs ++ rest) ≡ walked k j q rest
  pub low : lo ≤ rank q.stage
  pub high : rank q.stage ≤ hi
  pub classes : q.classes ≡ c
  pub weekends : q.weekends ≡ w
  pub books : q.books ≡ b
  pub bounds : q.bounds ≡ n
  pub quotes : q.quotes ≡ m

-- one record that is accepted, and then the others
turn : (k : FileKind) (i : ℕ) (p q : Progress) (r : List ℕ) (rs : List (List ℕ)) → stepped k p r ≡ Ok q → walked k i p (r ∷ rs) ≡ walked k (i + 1) q rs
unfolding walked
turn k i p q r rs e = ap (turned i (λ m. walked k (i + 1) m rs)) e

-- the same, where the places of bounds and quotes are still free
pub record Front (k : FileKind) (i : ℕ) (p : Progress) (rs rest : List (List ℕ)) (lo hi c w b n m : ℕ) : Type 0 where
  pub reads : Reads k i p rs rest lo hi c w b n m
  pub next_bound_same : reads.q.next_bound ≡ p.next_bound
  pub next_quote_same : reads.q.next_quote ≡ p.next_quote

read_classes : (k : FileKind) (xs : List ℕ) (n i : ℕ) (p : Progress) (rest : List (List ℕ)) → rank p.stage ≤ 1 → 1 ≤ rank p.stage + length xs
    → p.classes ≡ n → n + length xs ≤ 8 → Parents n xs → Front k i p (numbered class_row n xs) rest 1 1 (n + length xs) p.weekends p.books p.bounds p.quotes
read_classes k [] n i p rest stage some e few h =
    record { reads = record { j = i; q = p; runs = refl; low = omega arith; high = stage; classes = omega arith; weekends = refl; books = refl; bounds = refl; quotes = refl }; next_bound_same = refl; next_quote_same = refl }
read_classes k (x ∷ xs) n i p rest stage some e few h =
    let t = read_classes k xs (n + 1) (i + 1) (with_class p n) rest (omega arith) (omega arith) refl (omega arith) h.1 in
    let s = class_step k p n x stage (sym e) (omega arith) h.0 in
    let f = t.reads in
    record {
      reads = record {
        j = f.j;
        q = f.q;
        runs = turn k i p (with_class p n) (class_row n x) (numbered class_row (n + 1) xs ++ rest) s ∙ f.runs;
        low = f.low;
        high = f.high;
        classes = f.classes ∙ omega arith;
        weekends = f.weekends;
        books = f.books;
        bounds = f.bounds;
        quotes = f.quotes;
      };
      next_bound_same = t.next_bound_same;
      next_quote_same = t.next_quote_same;
    }

read_weekends : (k : FileKind) (l : ℕ) (n i : ℕ) (p : Progress) (rest : List (List ℕ)) → 1 ≤ rank p.stage → rank p.stage ≤ 2 → 2 ≤ rank p.stage + l
    → p.weekends ≡ n → n + l ≤ 16 → Front k i p (weekend_rows n l) rest 2 2 p.classes (n + l) p.books p.bounds p.quotes
read_weekends k zero n i p rest low high some e few =
    record { reads = record { j = i; q = p; runs = refl; low = omega arith; high = high; classes = refl; weekends = omega arith; books = refl; bounds = refl; quotes = refl }; next_bound_same = refl; next_quote_same = refl }
read_weekends k (suc l) n i p rest low high some e few =
    let t = read_weekends k l (n + 1) (i + 1) (with_weekend p n) rest (omega arith) (omega arith) (omega arith) refl (omega arith) in
    let s = weekend_step k p n low high (sym e) (omega arith) in
    let f = t.reads in
    record {
      reads = record {
        j = f.j;
        q = f.q;
        runs = turn k i p (with_weekend p n) (weekend_row n) (weekend_rows (n + 1) l ++ rest) s ∙ f.runs;
        low = f.low;
        high = f.high;
        classes = f.classes;
        weekends = f.weekends ∙ omega arith;
        books = f.books;
        bounds = f.bounds;
        quotes = f.quotes;
      };
      next_bound_same = t.next_bound_same;
      next_quote_same = t.next_quote_same;
    }

read_books : (k : FileKind) (xs : List ℕ) (n i : ℕ) (p : Progress) (rest : List (List ℕ)) → 2 ≤ rank p.stage → rank p.stage ≤ 3 → 3 ≤ rank p.stage + length xs
    → p.books ≡ n → n + length xs ≤ 120 → AllByRecursion (λ c. c < p.classes) xs → Front k i p (numbered book_row n xs) rest 3 3 p.classes p.weekends (n + length xs) p.bounds p.quotes
read_books k [] n i p rest low high some e few h =
    record { reads = record { j = i; q = p; runs = refl; low = omega arith; high = high; classes = refl; weekends = refl; books = omega arith; bounds = refl; quotes = refl }; next_bound_same = refl; next_quote_same = refl }
read_books k (x ∷ xs) n i p rest low high some e few h =
    let t = read_books k xs (n + 1) (i + 1) (with_book p n) rest (omega arith) (omega arith) (omega arith) refl (omega arith) h.1 in
    let s = book_step k p n x low high (sym e) (omega arith) h.0 in
    let f = t.reads in
    record {
      reads = record {
        j = f.j;
        q = f.q;
        runs = turn k i p (with_book p n) (book_row n x) (numbered book_row (n + 1) xs ++ rest) s ∙ f.runs;
        low = f.low;
        high = f.high;
        classes = f.classes;
        weekends = f.weekends;
        books = f.books ∙ omega arith;
        bounds = f.bounds;
        quotes = f.quotes;
      };
      next_bound_same = t.next_bound_same;
      next_quote_same = t.next_quote_same;
    }

-- what stands behind a place is not before the next one
behind : (a b c d : ℕ) → Before a b c d → before (place c d) (place a (b + 1)) ≡ false
unfolding before
behind a b c d h = grind (arith, nat_tests)

pub first_free : (a b : ℕ) → before (place a b) (place 0 0) ≡ false
unfolding before
first_free a b = grind (arith, nat_tests)

read_bounds : (k : FileKind) (xs : List Bound) (i : ℕ) (p : Progress) (rest : List (List ℕ)) → 3 ≤ rank p.stage → rank p.stage ≤ 4
    → AllByRecursion (BoundStands p.weekends p.classes) xs → Rising (λ b. b.weekend) (λ b. b.class) xs
    → AllByRecursion (λ b. before (place b.weekend b.class) p.next_bound ≡ false) xs
    → (f : Reads k i p (map bound_row xs) rest 3 4 p.classes p.weekends p.books (p.bounds + length xs) p.quotes) × (f.q.next_quote ≡ p.next_quote)
read_bounds k [] i p rest low high h rise free =
    (record { j = i; q = p; runs = refl; low = low; high = high; classes = refl; weekends = refl; books = refl; bounds = omega arith; quotes = refl }, refl)
read_bounds k (x ∷ xs) i p rest low high h rise free =
    let m = with_bound p x.weekend x.class in
    let t = read_bounds k xs (i + 1) m rest (omega arith) (omega arith) h.1 rise.1
    (All-weaker _ _ (λ b l. behind x.weekend x.class b.weekend b.class l) xs rise.0) in
    let s = bound_step k p x low high h.0 free.0 in
    let f = t.0 in (
      record {
        j = f.j;
        q = f.q;
        runs = turn k i p m (bound_row x) (map bound_row xs ++ rest) s ∙ f.runs;
        low = f.low;
        high = f.high;
        classes = f.classes;
        weekends = f.weekends;
        books = f.books;
        bounds = f.bounds ∙ omega arith;
        quotes = f.quotes;
      },
      t.1,
    )

read_quotes : (k : FileKind) (xs : List Quote) (i : ℕ) (p : Progress) (rest : List (List ℕ)) → 3 ≤ rank p.stage → rank p.stage ≤ 5
    → AllByRecursion (QuoteStands k p.books p.weekends) xs → Rising (λ q. q.book) (λ q. q.weekend) xs
    → AllByRecursion (λ q. before (place q.book q.weekend) p.next_quote ≡ false) xs
    → Reads k i p (map quote_row xs) rest 3 5 p.classes p.weekends p.books p.bounds (p.quotes + length xs)
read_quotes k [] i p rest low high h rise free =
    record { j = i; q = p; runs = refl; low = low; high = high; classes = refl; weekends = refl; books = refl; bounds = refl; quotes = omega arith }
read_quotes k (x ∷ xs) i p rest low high h rise free =
    let m = with_quote p x.book x.weekend in
    let f = read_quotes k xs (i + 1) m rest (omega arith) (omega arith) h.1 rise.1
    (All-weaker _ _ (λ q l. behind x.book x.weekend q.book q.weekend l) xs rise.0) in
    let s = quote_step k p x low high h.0 free.0 in
    record {
      j = f.j;
      q = f.q;
      runs = turn k i p m (quote_row x) (map quote_row xs ++ rest) s ∙ f.runs;
      low = f.low;
      high = f.high;
      classes = f.classes;
      weekends = f.weekends;
      books = f.books;
      bounds = f.bounds;
      quotes = f.quotes ∙ omega arith;
    }

free_from : {X : Type 0} (f g : X → ℕ) (s : Place) (xs : List X) → s ≡ place 0 0 → AllByRecursion (λ x. before (place (f x) (g x)) s ≡ false) xs
free_from f g s [] e = tt
free_from f g s (x ∷ xs) e = (ap (before (place (f x) (g x))) e ∙ first_free (f x) (g x), free_from f g s xs e)

-- the records rs are the last ones, and with them the file has what d describes
pub record End (k : FileKind) (i : ℕ) (p : Progress) (rs : List (List ℕ)) (d : Description) : Type 0 where
  pub q : Progress
  pub runs : walked k i p rs ≡ Ok q
  pub counted : Counted q d

through : {k : FileKind} {i : ℕ} {p : Progress} {rs rest : List (List ℕ)} {lo hi c w b n m : ℕ} {d : Description} (f : Reads k i p rs rest lo hi c w b n m) → End k f.j f.q rest d → End k i p (rs ++ rest) d
through f e = record { q = e.q; runs = f.runs ∙ e.runs; counted = e.counted }

-- the sections of a proper description, from the last to the first
module _ (k : FileKind) (d : Description) (h : Proper k d) where
  abbrev limit_rows : List (List ℕ)
  limit_rows = limit_row d.limit ∷ []

  abbrev from_quotes : List (List ℕ)
  from_quotes = map quote_row d.quotes ++ limit_rows

  abbrev from_bounds : List (List ℕ)
  from_bounds = map bound_row d.bounds ++ from_quotes

  abbrev from_books : List (List ℕ)
  from_books = numbered book_row 0 d.classes ++ from_bounds

  abbrev from_weekends : List (List ℕ)
  from_weekends = weekend_rows 0 d.weekends ++ from_books

  end_limit : (i : ℕ) (p : Progress) → 3 ≤ rank p.stage → rank p.stage ≤ 5 → Counted p d → End k i p limit_rows d
  unfolding walked
  end_limit i p low high c =
      record {
        q = with_limit p;
        runs = turn k i p (with_limit p) (limit_row d.limit) [] (limit_step k p d.limit low high h.limit h.limit_fitting);
        counted = record { classes = c.classes; weekends = c.weekends; books = c.books; bounds = c.bounds; quotes = c.quotes };
      }

  end_quotes : (i : ℕ) (p : Progress) → 3 ≤ rank p.stage → rank p.stage ≤ 4 → p.classes ≡ length d.parents → p.weekends ≡ d.weekends → p.books ≡ length d.classes
      → p.bounds ≡ length d.bounds → p.quotes ≡ 0 → p.next_quote ≡ place 0 0 → End k i p from_quotes d
  end_quotes i p low high ec ew eb en em next =
      by (read_quotes k d.quotes i p limit_rows low (omega arith)
      (All-weaker _ _ (λ x l. subst (λ m. QuoteStands k m p.weekends x) (sym eb) (subst (λ m. QuoteStands k (length d.classes) m x) (sym ew) l)) d.quotes h.quotes) h.quotes_rise
      (free_from (λ x. x.book) (λ x. x.weekend) p.next_quote d.quotes next))
    where
      by : Reads k i p (map quote_row d.quotes) limit_rows 3 5 p.classes p.weekends p.books p.bounds (p.quotes + length d.quotes) → End k i p from_quotes d
      by f = through f (end_limit f.j f.q f.low f.high
          (record { classes = f.classes ∙ ec; weekends = f.weekends ∙ ew; books = f.books ∙ eb; bounds = f.bounds ∙ en; quotes = f.quotes ∙ (ap (λ z. z + length d.quotes) em ∙ zero-add (length d.quotes)) }))

  end_bounds : (i : ℕ) (p : Progress) → 3 ≤ rank p.stage → rank p.stage ≤ 3 → p.classes ≡ length d.parents → p.weekends ≡ d.weekends → p.books ≡ length d.classes
      → p.bounds ≡ 0 → p.quotes ≡ 0 → p.next_bound ≡ place 0 0 → p.next_quote ≡ place 0 0 → End k i p from_bounds d
  end_bounds i p low high ec ew eb en em next_b next_q =
      by (read_bounds k d.bounds i p from_quotes low (omega arith)
      (All-weaker _ _ (λ x l. subst (λ m. BoundStands m p.classes x) (sym ew) (subst (λ m. BoundStands d.weekends m x) (sym ec) l)) d.bounds h.bounds) h.bounds_rise
      (free_from (λ x. x.weekend) (λ x. x.class) p.next_bound d.bounds next_b))
    where
      by : (f : Reads k i p (map bound_row d.bounds) from_quotes 3 4 p.classes p.weekends p.books (p.bounds + length d.bounds) p.quotes) × (f.q.next_quote ≡ p.next_quote) → End k i p from_bounds d
      by (f, n) = through f (end_quotes f.j f.q f.low f.high (f.classes ∙ ec) (f.weekends ∙ ew) (f.books ∙ eb)
          (f.bounds ∙ (ap (λ z. z + length d.bounds) en ∙ zero-add (length d.bounds))) (f.quotes ∙ em) (n ∙ next_q))

  end_books : (i : ℕ) (p : Progress) → 2 ≤ rank p.stage → rank p.stage ≤ 2 → p.classes ≡ length d.parents → p.weekends ≡ d.weekends → p.books ≡ 0
      → p.bounds ≡ 0 → p.quotes ≡ 0 → p.next_bound ≡ place 0 0 → p.next_quote ≡ place 0 0 → End k i p from_books d
  end_books i p low high ec ew eb en em next_b next_q =
      by (read_books k d.classes 0 i p from_bounds low (omega arith) (let s = h.some_book in omega arith) eb (let s = h.few_books in omega arith)
      (All-weaker _ _ (λ x l. subst (λ n. x < n) (sym ec) l) d.classes h.classes))
    where
      by : Front k i p (numbered book_row 0 d.classes) from_bounds 3 3 p.classes p.weekends (0 + length d.classes) p.bounds p.quotes → End k i p from_books d
      by t = let f = t.reads in
          through f (end_bounds f.j f.q f.low f.high (f.classes ∙ ec) (f.weekends ∙ ew) (f.books ∙ zero-add (length d.classes)) (f.bounds ∙ en) (f.quotes ∙ em) (t.next_bound_same ∙ next_b) (t.next_quote_same ∙ next_q))

  end_weekends : (i : ℕ) (p : Progress) → 1 ≤ rank p.stage → rank p.stage ≤ 1 → p.classes ≡ length d.parents → p.weekends ≡ 0 → p.books ≡ 0
      → p.bounds ≡ 0 → p.quotes ≡ 0 → p.next_bound ≡ place 0 0 → p.next_quote ≡ place 0 0 → End k i p from_weekends d
  end_weekends i p low high ec ew eb en em next_b next_q =
      by (read_weekends k d.weekends 0 i p from_books low (omega arith) (let s = h.some_weekend in omega arith) ew (let s = h.few_weekends in omega arith))
    where
      by : Front k i p (weekend_rows 0 d.weekends) from_books 2 2 p.classes (0 + d.weekends) p.books p.bounds p.quotes → End k i p from_weekends d
      by t = let f = t.reads in
          through f (end_books f.j f.q f.low f.high (f.classes ∙ ec) (f.weekends ∙ zero-add d.weekends) (f.books ∙ eb) (f.bounds ∙ en) (f.quotes ∙ em) (t.next_bound_same ∙ next_b) (t.next_quote_same ∙ next_q))

  -- all records, from the first to the limit
  pub complete : End k 0 start (rows d) d
  complete =
      by (read_classes k d.parents 0 0 start from_weekends (omega arith) (let s = h.some_class in omega arith) refl (let s = h.few_classes in omega arith) h.parents)
    where
      by : Front k 0 start (numbered class_row 0 d.parents) from_weekends 1 1 (0 + length d.parents) 0 0 0 0 → End k 0 start (rows d) d
      by t = let f = t.reads in
          through f (end_weekends f.j f.q f.low f.high (f.classes ∙ zero-add (length d.parents)) f.weekends f.books f.bounds f.quotes t.next_bound_same t.next_quote_same)
