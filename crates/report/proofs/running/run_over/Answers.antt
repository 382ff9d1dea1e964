use Rattle.std.proofs.Common.{◌≡◌, length, Err, Result, vec_items, Option, sym, ap, ◌∙◌, subst}
use Rattle.std.proofs.lemmas.Result.{err_from_is_err_and}
use Rattle.book.specs.Judge.{judge_lay, on_grant}
use Rattle.book.specs.Effects.{laid}
use Rattle.book.specs.Kept.{ledger}
use Rattle.book.proofs.Granting.{none_from, some_from}
use Rattle.sheet.specs.Reading.{state, begun}
use Rattle.book.specs.declared.refusal.Refusal.{Refusal}
use Rattle.report.specs.declared.stop.Stop.{Stop}
use Rattle.report.specs.declared.stop.Stop.TheVariants as stop
use Rattle.report.specs.Heading.{with_field}
use Rattle.report.specs.Running.{items, left, lines, told, Ends}
use Rattle.report.proofs.Headings.{placed_by_book, granted_by_book, ends_same, field_lines, lay_refused}
use Rattle.report.proofs.running.run_over.Goals as goal

pub returns-in_err-by_book : goal.returns-in_err-by_book
returns-in_err-by_book g c =
    let s = state c.args.reader.now in
    let A = g.F.Field.meaning c.args.field in
    let v = c.in_ok-variables.variables in
    let was = vec_items c.args.out.now in
    let turns = length c.args.reader.now.bytes.now in
    let p = err_from_is_err_and c.from_residual-in_err-by_book.result c.from_residual-in_err-by_book.ensures.1 in
    let q = placed_by_book c.lay.result c.in_ok-variables.byte 0 c.in_err-by_book.field-0.0 (sym c.by_book.ensures ∙ c.in_err-by_book.was) in
    subst (λ (r : Result (Unit {0}) Stop). Ends r was was (told (with_field s A) turns)) (sym (p.1 ∙ ap Err (p.2 ∙ ap stop.Fault q.2)))
    (lay_refused s A v c.in_ok-variables.byte c.in_ok-variables.ensures.value q.0 was turns (some_from (judge_lay v) tt q.0 (sym c.lay.ensures.answer ∙ q.1)))

pub returns : goal.returns
returns g c =
    let s = state c.args.reader.now in
    let A = g.F.Field.meaning c.args.field in
    let v = c.in_ok-variables.variables in
    let granted = granted_by_book c.lay.result c.in_ok-variables.byte 0 c.in_ok-by_book.field-0 (sym c.by_book.ensures ∙ c.in_ok-by_book.was) in
    let none = none_from (judge_lay v) tt c.in_ok-by_book.field-0 (sym c.lay.ensures.answer ∙ granted) in
    let L = ledger c.lay.new.self.contents in
    let is : L ≡ laid v = c.lay.ensures.after ∙ ap (λ (o : Option Refusal). on_grant o (laid v) (ledger c.new-book.result.contents)) none in
    let S = state c.begin.new.self in
    let stands = c.begin.ensures ∙ ap (begun v) c.heading_number.ensures.after in
    ends_same c.run_records.result (vec_items c.args.out.now) (vec_items c.run_records.new.out) (lines (g.F.Field.meaning c.lay.new.self.field) L (items (left S) S)) (told (with_field s A) (length s.sheet))
    (field_lines s A v c.in_ok-variables.byte c.in_ok-variables.ensures.value none (g.F.Field.meaning c.lay.new.self.field) L S (ap g.F.Field.meaning (c.lay.ensures.field ∙ c.new-book.ensures.field)) is stands)
    c.run_records.ensures
