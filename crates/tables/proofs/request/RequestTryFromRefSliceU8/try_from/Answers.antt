use Rattle.std.proofs.Common.{◌≡◌, length, Some, None, Err, sym, ap, ◌∙◌, rules, arith}
use Rattle.std.proofs.lemmas.Bool.{eqb-false}
use Rattle.tables.specs.Request.{decimal_number, with_number}
use Rattle.tables.specs.declared.request.RequestError.TheVariants.{NoPair}
use Rattle.tables.proofs.Cuts.{word_before, word_after}
use Rattle.tables.proofs.Readings.{no_number, pair}
use Rattle.tables.proofs.request.RequestTryFromRefSliceU8.try_from.Goals as goal

pub returns-in_err-n : goal.returns-in_err-n
returns-in_err-n c =
    let line = c.args.line.now in
    let none : None ≡ c.number.result = search rules in
    let error : c.from_residual.result ≡ Err NoPair = search rules in
    error ∙ sym (no_number c.cut.result.0.now)
    ∙ (λ i. with_number ((c.cut.ensures.before ∙ word_before line) i) ((none ∙ c.number.ensures ∙ ap decimal_number (c.cut.ensures.after ∙ word_after line)) i))

pub returns : goal.returns
returns c =
    let line = c.args.line.now in
    let word = c.cut.result.0.now in
    let some = eqb-false (length word) 0 (sym c.is_empty.ensures ∙ c.if-is_empty.false) in
    let number : Some c.in_ok-n.n ≡ c.number.result = search rules in
    c.of_kind.ensures ∙ sym (pair word c.in_ok-n.n (omega arith))
    ∙ (λ i. with_number ((c.cut.ensures.before ∙ word_before line) i) ((number ∙ c.number.ensures ∙ ap decimal_number (c.cut.ensures.after ∙ word_after line)) i))
