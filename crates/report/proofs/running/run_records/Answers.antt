use Rattle.std.proofs.Common.{◌<◌, ◌++◌, Ok, Err, vec_items, Option, Result, sym, refl, ap, ◌∙◌, subst}
use Rattle.std.proofs.lemmas.Result.{err_from_is_err_and}
use Rattle.book.specs.Kept.{ledger}
use Rattle.sheet.specs.declared.reader.Placed.{Placed}
use Rattle.sheet.specs.Reading.{state, seen, seen_next}
use Rattle.sheet.proofs.Progress.{progress}
use Rattle.report.specs.declared.stop.Stop.{Stop}
use Rattle.report.specs.Running.{items, left, lines, texts, Ends}
use Rattle.report.proofs.Walking.{goes_on, ends, ends_at_fault, ends_at_record}
use Rattle.report.proofs.running.run_records.Goals as goal

pub loop-placed-smaller : goal.loop-placed-smaller
loop-placed-smaller g c =
    let s = state c.loop-placed.reader in
    let e = sym c.in_ok-placed.ensures.value ∙ ap (λ (o : Option Placed). seen_next (Ok o)) c.in-Some.is in
    subst (λ t. left t < left s) (sym c.next.ensures.after) (progress s (seen c.in-Some.placed) e)

pub loop-placed-preserved : goal.loop-placed-preserved
loop-placed-preserved g c =
    let A = g.F.Field.meaning c.args.book.now.field in
    let B = g.F.Field.meaning c.loop-placed.book.field in
    let s = state c.loop-placed.reader in
    let e = sym c.in_ok-placed.ensures.value ∙ ap (λ (o : Option Placed). seen_next (Ok o)) c.in-Some.is in (
      c.run_record.ensures.field ∙ c.loop-placed.invariant.0,
      goes_on A B (ledger c.loop-placed.book.contents) s _ (vec_items c.loop-placed.out) (ap g.F.Field.meaning c.loop-placed.invariant.0) c.loop-placed.invariant.1 (seen c.in-Some.placed) (ledger c.run_record.new.book.contents) (state c.next.new.self) (vec_items c.run_record.new.out) e c.next.ensures.after c.in_ok-run_record.ensures.ends,
    )

pub returns-in_err-placed : goal.returns-in_err-placed
returns-in_err-placed g c =
    let A = g.F.Field.meaning c.args.book.now.field in
    let B = g.F.Field.meaning c.loop-placed.book.field in
    let s = state c.loop-placed.reader in
    let p = err_from_is_err_and c.from_residual.result c.from_residual.ensures.1 in
    let all = vec_items c.args.out.now ++ texts (lines A (ledger c.args.book.now.contents) (items (left (state c.args.reader.now)) (state c.args.reader.now))) in
    subst (λ (r : Result (Unit {0}) Stop). Ends r (vec_items c.args.out.now) (vec_items c.loop-placed.out) (lines A (ledger c.args.book.now.contents) (items (left (state c.args.reader.now)) (state c.args.reader.now)))) (sym (p.1 ∙ ap Err p.2))
    (ends_at_fault A B (ledger c.loop-placed.book.contents) s all (vec_items c.loop-placed.out) (ap g.F.Field.meaning c.loop-placed.invariant.0) c.loop-placed.invariant.1 c.in_err-placed.field-0.0 (sym c.in_err-placed.ensures.value))

pub returns-in_err-run_record : goal.returns-in_err-run_record
returns-in_err-run_record g c =
    let A = g.F.Field.meaning c.args.book.now.field in
    let B = g.F.Field.meaning c.loop-placed.book.field in
    let s = state c.loop-placed.reader in
    let e = sym c.in_ok-placed.ensures.value ∙ ap (λ (o : Option Placed). seen_next (Ok o)) c.in-Some.is in
    let p = err_from_is_err_and c.from_residual-in_err-run_record.result c.from_residual-in_err-run_record.ensures.1 in
    let ls = lines A (ledger c.args.book.now.contents) (items (left (state c.args.reader.now)) (state c.args.reader.now)) in
    subst (λ (r : Result (Unit {0}) Stop). Ends r (vec_items c.args.out.now) (vec_items c.run_record.new.out) ls) (sym (p.1 ∙ ap Err p.2))
    (ends_at_record A B (ledger c.loop-placed.book.contents) s _ (vec_items c.loop-placed.out) (ap g.F.Field.meaning c.loop-placed.invariant.0) c.loop-placed.invariant.1 (seen c.in-Some.placed) (ledger c.run_record.new.book.contents) c.in_err-run_record.field-0.0 (vec_items c.args.out.now) (vec_items c.run_record.new.out) ls e refl c.in_err-run_record.ensures.ends)

pub returns : goal.returns
returns g c =
    let A = g.F.Field.meaning c.args.book.now.field in
    let B = g.F.Field.meaning c.loop-placed.book.field in
    let s = state c.loop-placed.reader in
    let e = sym c.in_ok-placed.ensures.value ∙ ap (λ (o : Option Placed). seen_next (Ok o)) c.in_default.is in
    ends A B (ledger c.loop-placed.book.contents) s _ (vec_items c.loop-placed.out) (ap g.F.Field.meaning c.loop-placed.invariant.0) c.loop-placed.invariant.1 e
