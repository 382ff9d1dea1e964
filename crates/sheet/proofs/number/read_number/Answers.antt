use Rattle.std.proofs.Common.{ℕ, ◌<◌, get_or, sym, ◌∙◌, subst, arith}
use Rattle.sheet.specs.Number.{ReadAsWritten}
use Rattle.sheet.proofs.Digits.{goes_on, number_back}
use Rattle.sheet.proofs.number.read_number.Goals as goal

pub returns-else-b-lt128-clause-back : goal.returns-else-b-lt128-clause-back
returns-else-b-lt128-clause-back c =
    let limit = c.args.limit in
    let bytes = c.args.bytes.now in
    let fit : (i : ℕ) → get_or bytes i 0 < 256 = λ i. omega (arith, c.type_inv.bytes i) in
    subst (ReadAsWritten limit bytes) (sym (c.second_byte.ensures ∙ goes_on limit bytes c.if-b-lt128.false)) (number_back limit bytes fit)
