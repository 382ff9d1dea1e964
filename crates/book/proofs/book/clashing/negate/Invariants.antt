use Rattle.std.proofs.Common.{◌≡◌, ◌++◌, map, take, drop}
use Rattle.field.specs.Arithmetic.{ring}
use Rattle.book.proofs.Clashing.{negative_entry}
use Rattle.book.proofs.book.clashing.negate.Given as goal

abbrev pub invariant-loop-entry : goal.invariant-loop-entry
invariant-loop-entry g l = l.slots ≡ map (negative_entry (ring (g.F.Field.meaning l.f))) (take l.entry-index l.initial.slots) ++ drop l.entry-index l.initial.slots
