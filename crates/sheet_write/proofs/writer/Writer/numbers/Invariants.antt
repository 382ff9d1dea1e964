use Rattle.std.proofs.Common.{◌≡◌, take}
use Rattle.sheet_write.specs.Puts.{Puts}
use Rattle.sheet_write.specs.Writing.{flat}
use Rattle.sheet_write.proofs.writer.Writer.numbers.Given as goal

abbrev pub invariant-loop-number : goal.invariant-loop-number
invariant-loop-number l = record {
  same : l.self.out.ghost_name ≡ l.initial.self.out.ghost_name;
  puts : Puts l.initial.self l.self (flat (take l.number-index l.numbers));
}
