use Rattle.std.proofs.Common.{◌≡◌, min, length, Err, Result, vec_items, sym, ap, ◌∙◌, subst, arith}
use Rattle.std.proofs.lemmas.Result.{err_from_is_err_and}
use Rattle.book.specs.Kept.{ledger}
use Rattle.run.specs.Calls.{step_of, finish}
use Rattle.sheet.specs.Numbers.{numbers_of}
use Rattle.sheet.specs.Reading.{seen}
use Rattle.report.specs.declared.stop.Stop.{Stop}
use Rattle.report.specs.declared.stop.Stop.TheVariants as stop
use Rattle.report.specs.Calls.{call, step}
use Rattle.report.specs.Running.{row_left, RecordEnds}
use Rattle.report.proofs.Headings.{placed_by_book}
use Rattle.report.proofs.Stepping.{row_short, refused_there}
use Rattle.report.proofs.running.run_record.Goals as goal

pub push_answer-requires : goal.push_answer-requires
push_answer-requires g c =
    let A = g.F.Field.meaning c.args.book.now.field in
    let k = c.args.book.now.contents in
    let x = seen c.args.placed in
    let is : step_of c.in_ok-call.call ≡ step (ledger k) x = c.in_ok-call.ensures ∙ ap (λ D. call (min x.variables 8) D x.kind (numbers_of x.body)) c.size.ensures.value in
    let short = row_short A (g.met.F.Field.lawful c.args.book.now.field).commutative_ring k c.args.book.now.kept x in
    omega (arith, short, c.size.ensures.value, c.size.ensures.few, ap (λ s. length (row_left s)) c.perform.ensures.finish, ap (λ s. length (row_left (finish A (ledger k) s))) is)

pub returns-in_err-answer-clause-ends : goal.returns-in_err-answer-clause-ends
returns-in_err-answer-clause-ends g c =
    let A = g.F.Field.meaning c.args.book.now.field in
    let L = ledger c.args.book.now.contents in
    let M = ledger c.perform.new.book.contents in
    let x = seen c.args.placed in
    let was = vec_items c.args.out.now in
    let is : step_of c.in_ok-call.call ≡ step L x = c.in_ok-call.ensures ∙ ap (λ D. call (min x.variables 8) D x.kind (numbers_of x.body)) c.size.ensures.value in
    let p = err_from_is_err_and c.from_residual-in_err-answer.result c.from_residual-in_err-answer.ensures.1 in
    let q = placed_by_book c.perform.result x.byte x.count c.in_err-answer.field-0.0 (sym c.by_book.ensures ∙ c.in_err-answer.was) in
    subst (λ (r : Result (Unit {0}) Stop). RecordEnds A L M x r was was) (sym (p.1 ∙ ap Err (p.2 ∙ ap stop.Fault q.2)))
    (refused_there A L x (step_of c.in_ok-call.call) is (step_of c.perform.new.call) q.0 was (sym q.1 ∙ c.perform.ensures.answer) c.perform.ensures.finish)
