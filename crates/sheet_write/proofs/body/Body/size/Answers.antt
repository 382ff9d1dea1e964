use Rattle.std.proofs.Common.{◌+◌, ◌≤◌, get_or, sym, ◌∙◌, arith}
use Rattle.sheet.specs.Body.{limit_at}
use Rattle.sheet_write.proofs.Flats.{flat_front, more_length, allowed_more, size_past}
use Rattle.sheet_write.proofs.body.Body.size.Goals as goal

pub returns-then-size-gt65520 : goal.returns-then-size-gt65520
returns-then-size-gt65520 c =
    let xs = c.args.self.numbers.now in
    let j = c.loop-j.j in
    size_past c.args.self.kind c.args.self.n xs (omega (arith, more_length xs j c.loop-j-test.true, flat_front xs (j + 1), c.loop-j.invariant.0, c.number_size-size.ensures, c.if-size-gt65520.true))

pub loop-j-preserved : goal.loop-j-preserved
loop-j-preserved c =
    let xs = c.args.self.numbers.now in
    let j = c.loop-j.j in
    let low : get_or xs j 0 ≤ limit_at c.args.self.kind c.args.self.n j = omega (arith, c.limit.ensures, c.if-number-limit.false) in (
      omega (arith, more_length xs j c.loop-j-test.true, c.loop-j.invariant.0, c.number_size-size.ensures),
      c.if-size-gt65520.false,
      sym (allowed_more c.args.self.kind c.args.self.n xs j c.loop-j-test.true low) ∙ c.loop-j.invariant.2,
    )
