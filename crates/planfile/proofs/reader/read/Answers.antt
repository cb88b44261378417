use Rattle.std.proofs.Common.{◌≡◌, ℕ, true, false, List, get_or, Ok, Err, Result, sym, ap, ◌∙◌, arith, w8, Fits}
use Rattle.std.proofs.lemmas.Bool.{cond-true}
use Rattle.std.proofs.lemmas.Bool.Decides.{nat_tests}
use Rattle.planfile.specs.declared.progress.FileKind.{FileKind}
use Rattle.planfile.specs.declared.reader.PlanFile.{PlanFile}
use Rattle.planfile.specs.declared.refusal.Fault.{Fault}
use Rattle.planfile.specs.Laws.{Tells}
use Rattle.planfile.specs.Refusals.{fault_at}
use Rattle.planfile.specs.Reading.{answered, bad_size, read_file}
use Rattle.planfile.proofs.Layouts.{tells_all}
use Rattle.planfile.proofs.Walks.{read_ok}
use Rattle.planfile.proofs.reader.read.Goals as goal
use Rattle.planfile.proofs.reader.read.Goals.{then-is_empty-via-then-is_empty, then-is_empty-via-else-is_empty+then-not-is_empty, then-is_empty-via-else-is_empty+else-not-is_empty+then-rows-gt2193}

-- an answer that is the defined one tells what it should
told : (k : FileKind) (bs : List ℕ) (r : Result PlanFile Fault) → ((i : ℕ) → Fits w8 (get_or bs i 0)) → answered r ≡ read_file k bs
    → record { answer : answered r ≡ read_file k bs; tells : Tells k bs (answered r) }
told k bs r bytes e = record { answer = e; tells = tells_all k bs (answered r) (λ i. (bytes i).fits) e }

pub returns-then-is_empty : goal.returns-then-is_empty
unfolding read_file bad_size
returns-then-is_empty c =
    let bad : bad_size c.args.file.now ≡ true = elim c.then-is_empty.branch [
      | then-is_empty-via-then-is_empty w ↦ grind (arith, nat_tests)
      | then-is_empty-via-else-is_empty+then-not-is_empty w ↦ grind (arith, nat_tests)
      | then-is_empty-via-else-is_empty+else-not-is_empty+then-rows-gt2193 w ↦ grind (arith, nat_tests)
    ] in
    told c.args.kind c.args.file.now (Err _) c.type_inv.file (ap Err (c.in_record.ensures ∙ ap (fault_at 0) c.at.ensures) ∙ sym (cond-true _ _ _ bad))

pub returns : goal.returns
unfolding bad_size
returns c =
    let good : bad_size c.args.file.now ≡ false = grind (arith, nat_tests) in
    told c.args.kind c.args.file.now (Ok c.sections.result) c.type_inv.file
    (read_ok c.args.kind c.args.file.now c.as_chunks.result.0.now good c.as_chunks.ensures.front c.in_ok-end.end _ (sym c.in_ok-end.ensures) c.sections.ensures)
