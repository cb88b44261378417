-- The search for one book: its starts are the nodes of one class, that of the book, at the weekends where the book may go. What is shown of it. Assumes nothing.
use Rattle.std.specs.Prelude.{◌≡◌, ℕ, ◌^◌, ◌<◌, ◌≤◌, Bool, true, Option, ◌≢◌}
use Rattle.amounts.specs.Kind.{Kind}
use Rattle.solver.specs.declared.arcs.Arc.{Arc}
use Rattle.plans.specs.Problem.{Problem}
use Rattle.solver.specs.Search.{nodes, FromClass, Searchable, Seeks}
use Rattle.solver.specs.Residual.{quoted, Fits, node, above, Charges, Counts, Inside, LightLabels, Valid}
use Rattle.solver.specs.Flows.{SearchKept, SearchEnded, Reassigned}

module _ {V : Type 0} (K : Kind V) where
  -- where no book may move, labels are valid if each is that of the node above less the rise: a search may start from there
  abbrev pub ColdByRises : Type 0
  ColdByRises = (B : Problem V) (X : Charges V) → Fits K B X → (word : ℕ → ℕ → Bool) (l : ℕ → V) (p f : ℕ → ℕ) → LightLabels K B l → ((b : ℕ) → b < B.books → p b < B.weekends) → ((b x : ℕ) → word b x ≡ true → x ≡ p b) →
      ((w c : ℕ) → w < B.weekends → c < B.classes → l (node w c) ≡ K.plus (l (above B.parent w c)) (K.minus (X.rise w c (f (node w c))))) → Valid K B X word l p f

  -- a search from one class may be made where its first labels are light
  abbrev pub ClassSearchable : Type 0
  ClassSearchable = (B : Problem V) (X : Charges V) (word : ℕ → ℕ → Bool) (k : ℕ) (into : ℕ → Bool) (begin : ℕ → V) (p f : ℕ → ℕ) (pot : ℕ → V) → Fits K B X → ((j : ℕ) → j < B.books → p j < B.weekends) → Valid K B X word pot p f → LightLabels K B pot →
      ((x : ℕ) → x < B.weekends → K.weight (begin x) ≤ 10 ^ 9) → Searchable K B X word (FromClass B k into begin) p f pot

  -- its steps keep its invariant
  abbrev pub ClassSearch : Type 0
  ClassSearch = (B : Problem V) (X : Charges V) (word : ℕ → ℕ → Bool) (k : ℕ) (into : ℕ → Bool) (begin : ℕ → V) (p f : ℕ → ℕ) (pot : ℕ → V) → Searchable K B X word (FromClass B k into begin) p f pot →
      SearchKept K B X word (FromClass B k into begin) p f pot

  -- where it has ended, its labels are light and valid, those of the starts have not grown, and the walk of b may begin
  abbrev pub ClassSearchEnds : Type 0
  ClassSearchEnds = (B : Problem V) (X : Charges V) (word : ℕ → ℕ → Bool) (b : ℕ) (into : ℕ → Bool) (begin : ℕ → V) (p f : ℕ → ℕ) (pot : ℕ → V) → b < B.books → Inside B word p → Counts B p f → Searchable K B X word (FromClass B (B.class b) into begin) p f pot →
      (x₀ : ℕ) → x₀ < B.weekends → into x₀ ≡ true →
      (t : ℕ) (d : ℕ → V) (seen : ℕ → Bool) (rank : ℕ → ℕ) (via : ℕ → Option Arc) → Seeks K B X word (FromClass B (B.class b) into begin) p f pot t d seen rank via → ((v : ℕ) → seen v ≡ true → rank v < nodes) →
      SearchEnded K B X word into begin d rank via p f b

  -- Where it has ended, with first labels that differ as the quotes of b do, there is an assignment with b at a weekend of `into` and every other book inside its
  -- word. The labels that the search found are valid for it, so it is least; and the labels say what it costs
  abbrev pub ClassReassigns : Type 0
  ClassReassigns = (B : Problem V) (X : Charges V) (word : ℕ → ℕ → Bool) (b : ℕ) (into : ℕ → Bool) (begin : ℕ → V) (p f : ℕ → ℕ) (pot : ℕ → V) → b < B.books → Inside B word p → Counts B p f → Searchable K B X word (FromClass B (B.class b) into begin) p f pot →
      ((x y : ℕ) → x < B.weekends → y < B.weekends → into x ≡ true → into y ≡ true → K.plus (begin x) (quoted K B b y) ≡ K.plus (begin y) (quoted K B b x)) →
      (x₀ : ℕ) → x₀ < B.weekends → into x₀ ≡ true →
      (t : ℕ) (d : ℕ → V) (seen : ℕ → Bool) (rank : ℕ → ℕ) (via : ℕ → Option Arc) → Seeks K B X word (FromClass B (B.class b) into begin) p f pot t d seen rank via → ((v : ℕ) → seen v ≡ true → rank v < nodes) →
      (word' : ℕ → ℕ → Bool) → ((x : ℕ) → word' b x ≡ into x) → ((j x : ℕ) → (j ≢ b) → word' j x ≡ word j x) → Reassigned K B X word' begin d p b
