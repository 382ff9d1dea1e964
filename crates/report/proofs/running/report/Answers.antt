use Rattle.std.proofs.Common.{◌≡◌, ◌++◌, vec_items, ap, ◌∙◌}
use Rattle.report.specs.Running.{report_lines, texts}
use Rattle.report.proofs.Headings.{closed_ends}
use Rattle.report.proofs.Tellings.{reported}
use Rattle.report.proofs.running.report.Goals as goal
use Rattle.report.proofs.running.report.Goals.{in-Err+in_ok-push_stop, in_default}

pub returns : goal.returns
returns c =
    let bytes = c.args.sheet.now in
    let text : vec_items c.match-run_sheet.out ≡ texts (report_lines bytes) = elim c.match-run_sheet.branch [
      | in-Err+in_ok-push_stop w ↦
          ap vec_items w.out-is
          ∙ closed_ends w.in-Err.stop (vec_items c.new-out.result) (vec_items c.run_sheet.new.out) (vec_items w.push_stop.new.out) (report_lines bytes) w.in-Err.ensures w.in_ok-push_stop.ensures
          ∙ ap (λ bs. bs ++ texts (report_lines bytes)) c.new-out.ensures.items
      | in_default w ↦ ap vec_items w.out-is ∙ w.in_default.ensures ∙ ap (λ bs. bs ++ texts (report_lines bytes)) c.new-out.ensures.items
    ] in
    record { text = text; meaning = record { lines = report_lines bytes; text = text; tells = reported bytes } }
