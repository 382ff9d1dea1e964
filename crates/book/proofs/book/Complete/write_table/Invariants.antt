use Rattle.field.specs.Arithmetic.{ring}
use Rattle.book.proofs.Forming.{Tabled}
use Rattle.book.proofs.book.Complete.write_table.Given as goal

abbrev pub invariant-loop-j : goal.invariant-loop-j
invariant-loop-j g l = Tabled (ring (g.F.Field.meaning l.self.field.now)) l.self.contents.now l.i l.j l.table
