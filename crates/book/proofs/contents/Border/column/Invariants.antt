use Rattle.std.proofs.Common.{◌≡◌, length, take}
use Rattle.book.specs.Leading.{leads_of}
use Rattle.book.proofs.contents.Border.column.Given as goal

abbrev pub invariant-loop-j : goal.invariant-loop-j
invariant-loop-j l = record {
  long : length l.column ≡ 32;
  front : take l.j l.column ≡ leads_of l.set.basis.now.terms l.self.terms l.i (take l.j l.set.basis.now.terms);
}
