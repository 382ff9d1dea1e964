use Rattle.std.proofs.Common.{rules, length, ap, sym, ◌∙◌, arith}
use Rattle.std.proofs.lemmas.Bool.{eqb-false}
use Rattle.tables.specs.Request.{digits_on}
use Rattle.tables.proofs.Readings.{digits_folded, some_digits}
use Rattle.tables.proofs.request.number.Goals as goal

pub returns : goal.returns
returns c =
    let xs = c.args.digits.now in
    digits_folded _ _ (λ f n b v h k. search rules) _ _ _ _ _ c.try_fold.ensures.ran
    ∙ ap (digits_on 0) c.iter.ensures.rest
    ∙ sym (some_digits xs (omega (arith, eqb-false (length xs) 0 (sym c.if-is_empty.ensures))))
