use Rattle.std.proofs.Common.{◌+◌, ◌∙◌, arith}
use Rattle.sheet_write.proofs.Flats.{flat_more, flat_front, more_length}
use Rattle.sheet_write.proofs.Pastes.{puts_more}
use Rattle.sheet_write.proofs.writer.Writer.numbers.Goals as goal

pub number-requires : goal.number-requires
number-requires c =
    let xs = c.args.numbers.now in
    let j = c.loop-number.number-index in
    omega (arith, c.requires, more_length xs j c.loop-number-test.true, flat_front xs (j + 1), c.loop-number.invariant.puts.at, c.loop-number.invariant.puts.len)

pub loop-number-preserved : goal.loop-number-preserved
loop-number-preserved c = record {
  same = c.number.ensures.same ∙ c.loop-number.invariant.same;
  puts = rw (flat_more c.args.numbers.now c.loop-number.number-index c.loop-number-test.true) (puts_more _ _ _ _ _ c.loop-number.invariant.puts c.number.ensures.puts (omega (arith, c.requires)));
}
