use Rattle.std.proofs.Common.{◌≤◌, length, Err, ap, ◌∙◌, arith}
use Rattle.std.proofs.lemmas.Result.{err_from_is_err_and}
use Rattle.book.specs.declared.phase.Event.TheVariants.{Cofactors}
use Rattle.book.specs.Kept.{ledger}
use Rattle.book.proofs.Keeping.{facts}
use Rattle.book.proofs.Judging.{few_degrees, few_slots, pairs_refused}
use Rattle.book.proofs.book.Book.judge_cofactors.Goals as goal

pub returns-in_err-judge_polynomial : goal.returns-in_err-judge_polynomial
returns-in_err-judge_polynomial g c =
    let back = c.from_residual-in_err-judge_polynomial in
    let p = err_from_is_err_and back.result back.ensures.1 in
    let a = c.in_ok-admit.ensures in
    let b = c.in_err-judge_polynomial.ensures in
    p.1 ∙ ap Err p.2 ∙ pairs_refused _ (ledger c.args.self.now.contents) Cofactors _ a c.args.p.now (length c.args.row.now) _ _ tt b

pub degrees-requires : goal.degrees-requires
degrees-requires g c = few_degrees _ (ledger c.args.self.now.contents) c.args.p.now (length c.args.row.now) _ c.in_ok-judge_polynomial.ensures

pub overflow_mul-len : goal.overflow_mul-len
overflow_mul-len g c =
    let k = c.args.self.now.contents in
    let few = (facts k c.args.self.now.kept).few_terms in
    let low = few_degrees _ (ledger k) c.args.p.now (length c.args.row.now) _ c.in_ok-judge_polynomial.ensures in
    let size : c.len.result ≤ 32 = omega (arith, few, c.len.ensures.value) in
    let sum : c.degrees.result ≤ 1536 = omega (arith, low, c.degrees.ensures) in
    omega (arith, few_slots c.len.result c.degrees.result size sum)
