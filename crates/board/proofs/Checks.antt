-- The first entries of a sheet; and neither check says yes where there is a plan within the limit. Assumes nothing.
use Rattle.std.proofs.Common.{◌≡◌, ℕ, zero, suc, ◌+◌, ◌-◌, ◌<◌, ◌≤◌, Bool, true, false, cond, ◌&&◌, ltb, leb, List, ℤ, pos, unsigned_abs, length, get_or, take, slice_range, IfSome, Ok, Err, Result, refl, sym, ap, ◌∙◌, subst, arith}
use Rattle.std.proofs.Math.Bool.{and_comm}
use Rattle.std.proofs.lemmas.Bool.{and_parts, leb-true, false≢true}
use Rattle.std.proofs.lemmas.List.Folds.{list_all_more}
use Rattle.std.specs.List.{list_all}
use Rattle.amounts.specs.Kind.{Kind, Lawful}
use Rattle.amounts.specs.Sums.{item}
use Rattle.sources.specs.declared.meaning.Source.{Ghosts}
use Rattle.sources.specs.Meaning.{InRange}
use Rattle.sources.specs.declared.strike_layer.StrikeLayer.{StrikeLayer}
use Rattle.plans.specs.declared.bound_table.Bounds.{Bounds}
use Rattle.plans.specs.declared.class_tree.Roster.{Roster}
use Rattle.plans.specs.Problem.{Problem}
use Rattle.plans.specs.Sheets.{each_below, toll_accepts, head_accepts}
use Rattle.plans.specs.Theorems.{Sound}
use Rattle.plans.proofs.Below.{each_holds}
use Rattle.plans.proofs.Posing.{posed_sound}
use Rattle.plans.proofs.Verdicts.{toll_check_sound, head_check_sound}
use Rattle.board.specs.declared.refusal.Refusal.{Refusal}
use Rattle.board.specs.declared.refusal.Refusal.TheVariants.{Range, Heavy, Short}
use Rattle.board.specs.Boards.{Desk, desk, under_strikes, posed}
use Rattle.board.specs.Questions.{places, light_entries, head_entries, toll_check, head_check}
use Rattle.board.specs.Theorems.{NeverWrong}

-- a test of the first n entries of a sheet, entry by entry
all_first : {X : Type 0} (p : X → Bool) (none : X) (xs : List X) (n : ℕ) → n ≤ length xs → list_all p (take n xs) ≡ each_below n (λ i. p (get_or xs i none))
unfolding each_below
all_first p none xs zero h = refl
all_first p none xs (suc n) h =
    let next : suc n ≡ n + 1 = omega arith in
    ap (λ k. list_all p (take k xs)) next
    ∙ (list_all_more p xs n none (omega arith) ∙ (and_comm (list_all p (take n xs)) (p (get_or xs n none)) ∙ ap (λ r. p (get_or xs n none) && r) (all_first p none xs n (omega arith))))

all_below : {X : Type 0} (p : X → Bool) (none : X) (xs : List X) (n : ℕ) (entries : List X) → n ≤ length xs → entries ≡ slice_range xs 0 n
    → each_below n (λ i. p (get_or xs i none)) ≡ list_all p entries
all_below p none xs n entries h is =
    let whole : n - 0 ≡ n = omega arith in
    sym (ap (list_all p) is ∙ (ap (λ k. list_all p (take k xs)) whole ∙ all_first p none xs n h))

pub all_light : {V : Type 0} (K : Kind V) (n : ℕ) (sheet entries : List V) → n ≤ length sheet → entries ≡ slice_range sheet 0 n
    → light_entries K n sheet ≡ list_all (λ x. leb (K.weight x) 1000000000000) entries
all_light K n sheet entries = all_below (λ x. leb (K.weight x) 1000000000000) K.none sheet n entries

pub all_heads : (n : ℕ) (sheet entries : List ℤ) → n ≤ length sheet → entries ≡ slice_range sheet 0 n → head_entries n sheet ≡ list_all (λ x. leb (unsigned_abs x) 1) entries
all_heads n sheet entries = all_below (λ x. leb (unsigned_abs x) 1) (pos 0) sheet n entries

-- what a board puts is sound, where each quote is light
pub board_sound : {S V : Type 0} (source : Ghosts S V) → InRange source.count source.weeks source.table → (K : Kind V) (b : Desk S V) (layer : StrikeLayer S) (roster : Roster) (bounds : Bounds) (limit : V)
    → desk layer roster bounds limit ≡ b → K.weight limit ≤ 1000000000000
    → ((k w : ℕ) → k < (posed source b).books → w < (posed source b).weekends → IfSome ((posed source b).quote k w) (λ x. K.weight x ≤ 1000000000)) → Sound K (posed source b)
board_sound source ranges K b layer roster bounds limit is modest =
    subst (λ d. ((k w : ℕ) → k < (posed source d).books → w < (posed source d).weekends → IfSome ((posed source d).quote k w) (λ x. K.weight x ≤ 1000000000)) → Sound K (posed source d)) is
    (λ quotes. posed_sound K (under_strikes source (desk layer roster bounds limit)) roster bounds limit (ranges.few_books layer.below) (ranges.few_weeks layer.below) quotes modest)

-- is the answer a yes?
abbrev pub yes : Result Bool Refusal → Bool
yes (Ok said) = said
yes (Err r) = false

-- a check that says yes found the sheet long enough and its entries in order
checked : (short fine said : Bool) (r r' : Refusal) → cond short (Err r) (cond fine (Ok said) (Err r')) ≡ Ok true → (fine ≡ true) × (said ≡ true)
checked true fine said r r' e = absurd (false≢true (ap yes e))
checked false true said r r' e = (refl, ap yes e)
checked false false said r r' e = absurd (false≢true (ap yes e))

pub never_wrong : {V : Type 0} {K : Kind V} → Lawful K → (B : Problem V) → Sound K B → NeverWrong K B
unfolding toll_check head_check
never_wrong {K = K} L B s = record {
  toll = λ possible sheet e.
      let light = leb (K.weight B.limit) 1000000000000 in
      let entries = light_entries K (places B) sheet in
      let found = checked (ltb (length sheet) (places B)) (light && entries) (toll_accepts K B sheet) Short Heavy e in
      let each = each_holds (places B) (λ i. leb (K.weight (item K sheet i)) 1000000000000) (and_parts light entries found.0).1 in
      toll_check_sound L B s possible sheet (λ i l. leb-true (K.weight (item K sheet i)) 1000000000000 (each i l)) found.1;
  head = λ p plan sheet e.
      head_check_sound K B s p plan sheet (checked (ltb (length sheet) (places B)) (head_entries (places B) sheet) (head_accepts B sheet) Short Range e).1;
}
