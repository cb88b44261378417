use Rattle.std.proofs.Common.{◌/◌, ◌++◌, length, Ok, Err, ap, ◌∙◌}
use Rattle.planfile.specs.Lines.{accepted_line, counts_line}
use Rattle.planfile.proofs.Writes.{report_done, report_is}
use Rattle.planfile.proofs.reporting.report.Goals as goal

pub returns-in-Ok : goal.returns-in-Ok
returns-in-Ok c =
    let bs = c.args.file.now in
    let d = report_done bs c.args.sheet.now _ c.write_counts.new.sheet c.write_counts.result c.if-sheet-lt16384.false
    (ap (λ x. accepted_line (length bs / 16) ++ counts_line x) c.counts.ensures ∙ report_is bs (Ok _) c.in-Ok.ensures.answer) c.write_counts.ensures in
    record { answer = d.0; sheet = d.1; fits = c.write_counts.ensures.room }

pub returns-in-Err : goal.returns-in-Err
returns-in-Err c =
    let bs = c.args.file.now in
    let d = report_done bs c.args.sheet.now _ c.write_fault.new.sheet c.write_fault.result c.if-sheet-lt16384.false
    (report_is bs (Err c.in-Err.fault) c.in-Err.ensures.answer) c.write_fault.ensures in
    record { answer = d.0; sheet = d.1; fits = c.write_fault.ensures.room }
