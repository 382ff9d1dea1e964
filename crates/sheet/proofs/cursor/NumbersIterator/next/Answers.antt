use Rattle.std.proofs.Common.{length, sym, ap, ◌∙◌, arith}
use Rattle.sheet.proofs.Lists.{numbers_next}
use Rattle.sheet.proofs.cursor.NumbersIterator.next.Goals as goal

pub returns-clause-steps : goal.returns-clause-steps
returns-clause-steps c = numbers_next _ _ _ _ c.read_number.ensures.value (sym c.in_ok-value.was ∙ c.ok.ensures.value)

pub returns-clause-goes : goal.returns-clause-goes
returns-clause-goes c =
    let shorter = ap length (numbers_next c.args.self.now.rest.now _ c.in_ok-value.value c.in_ok-value.size c.read_number.ensures.value (sym c.in_ok-value.was ∙ c.ok.ensures.value)) in
    record { on = λ _. (tt, tt, omega (arith, shorter)); keeps = tt; rests = λ _. tt }
