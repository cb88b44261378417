-- One write after another.
use Rattle.std.proofs.Common.{◌≡◌, ℕ, ◌+◌, ◌-◌, ◌/◌, ◌≤◌, false, ltb, List, ◌++◌, length, take, drop, Ok, Result, sym, refl, ap, ◌∙◌, subst, append_assoc, zero-add, arith}
use borrow.Rule.Slice.PartMut.{put_mid}
use Rattle.std.proofs.lemmas.List.{length-append, length-take, length-drop, take_at, drop_at, drop-drop}
use Rattle.std.proofs.lemmas.Bool.{le-ltb, cond-false}
use Rattle.planfile.specs.declared.pen.Pen.{Pen}
use Rattle.planfile.specs.declared.progress.FileKind.TheVariants.{Money}
use Rattle.planfile.specs.declared.refusal.Fault.{Fault}
use Rattle.planfile.specs.Description.{Description}
use Rattle.planfile.specs.Reading.{read_file}
use Rattle.planfile.specs.Lines.{overwritten, Wrote, Writes, report, report_text, report_answer, report_sheet}

-- after `out[at..end].copy_from_slice(t)`
pub wrote_text : (s t y : List ℕ) (at : ℕ) → y ≡ t → at + length t ≤ length s → Wrote s at t (put_mid at (at + length t - at) s y) (at + length t)
unfolding overwritten
wrote_text s t y at e h =
    let n : at + (at + length t - at) ≡ at + length t = omega arith in
    record {
      bytes = ap (λ z. take at s ++ (z ++ drop (at + length t - at) (drop at s))) e
          ∙ ap (λ z. take at s ++ (t ++ z)) (drop-drop (at + length t - at) at s ∙ ap (λ k. drop k s) n);
      end = refl;
      room = h;
      long = rw e (simp (length-append, length-take, length-drop) (omega arith));
    }

over_over : (s a b : List ℕ) (at : ℕ) → at + length a ≤ length s → overwritten (overwritten s at a) (at + length a) b ≡ overwritten s at (a ++ b)
unfolding overwritten
over_over s a b at h =
    let p = take at s ++ a in let d = drop (at + length a) s in
    let l : length (take at s ++ a) ≡ at + length a = simp (length-append, length-take) (omega arith) in
    let n : at + length a + length b ≡ at + length (a ++ b) = simp length-append (omega arith) in
    let e : take at s ++ (a ++ d) ≡ p ++ d = sym (append_assoc (take at s) a d) in
    let x : take (at + length a) (p ++ d) ++ (b ++ drop (at + length a + length b) (p ++ d)) ≡ take at s ++ ((a ++ b) ++ drop (at + length (a ++ b)) s)
    = grind (arith, append_assoc, n, take_at p d _ l, drop_at p d _ l, drop-drop (length b) (at + length a) (p ++ d), drop-drop (length b) (at + length a) s) in
    rw e x

pub wrote_then : {s : List ℕ} {at : ℕ} {a s1 : List ℕ} {at1 : ℕ} {b s2 : List ℕ} {at2 : ℕ} → Wrote s at a s1 at1 → Wrote s1 at1 b s2 at2 → Wrote s at (a ++ b) s2 at2
wrote_then {s} {at} {a} {s1} {at1} {b} {s2} {at2} p q =
    record {
      bytes = q.bytes ∙ (ap (λ x. overwritten x at1 b) p.bytes ∙ (ap (λ n. overwritten (overwritten s at a) n b) p.end ∙ over_over s a b at (omega arith)));
      end = simp length-append (omega arith);
      room = omega arith;
      long = q.long ∙ p.long;
    }

-- the same of a pen
pub writes_then : {p q r : Pen} {a b : List ℕ} → Writes p a q → Writes q b r → Writes p (a ++ b) r
writes_then x y = record { same = y.same ∙ x.same; wrote = wrote_then x.wrote y.wrote }

pub wrote_as : {s : List ℕ} {at : ℕ} {a b t : List ℕ} {n : ℕ} → a ≡ b → Wrote s at a t n → Wrote s at b t n
wrote_as {s} {at} {a} {b} {t} {n} e w = subst (λ x. Wrote s at x t n) e w

-- the same, of a sheet that holds the same
pub same_sheet : {s : List ℕ} {at : ℕ} {bs x y : List ℕ} {n : ℕ} → Wrote s at bs x n → y ≡ x → Wrote s at bs y n
same_sheet w e = record { bytes = e ∙ w.bytes; end = w.end; room = w.room; long = ap length e ∙ w.long }

-- a report that was written
pub report_done : (bs sheet text after : List ℕ) (n : ℕ) → 16384 ≤ length sheet → text ≡ report bs → Wrote sheet 0 text after n
    → (◌≡◌ {A = Result ℕ Fault} (Ok n) (report_answer bs (length sheet))) × (after ≡ report_sheet bs sheet)
report_done bs sheet text after n long e w =
    let t : ltb (length sheet) 16384 ≡ false = le-ltb (length sheet) 16384 long in
    let v = wrote_as e w in (
      ap Ok (v.end ∙ zero-add (length (report bs))) ∙ sym (cond-false _ _ _ t),
      v.bytes ∙ sym (cond-false _ _ _ t),
    )

pub report_is : (bs : List ℕ) (x : Result Description Fault) → x ≡ read_file Money bs → report_text (length bs / 16) x ≡ report bs
unfolding report
report_is bs x e = ap (report_text (length bs / 16)) e
