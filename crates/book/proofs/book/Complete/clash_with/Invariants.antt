use Rattle.std.proofs.Common.{◌≡◌, ◌+◌, [], get_or}
use Rattle.field.specs.Arithmetic.{ring}
use Rattle.book.specs.Kept.{ledger, terms_of}
use Rattle.book.specs.Ledger.{system}
use Rattle.book.proofs.Clashing.{with_left}
use Rattle.book.proofs.book.Complete.clash_with.Given as goal

abbrev pub invariant-loop-b : goal.invariant-loop-b
invariant-loop-b g l =
    with_left (ring (g.F.Field.meaning l.self.field.now)) (system (ledger l.self.contents.now)) (get_or (terms_of l.self.contents.now) l.j []) l.a l.b
    ≡ with_left (ring (g.F.Field.meaning l.self.field.now)) (system (ledger l.self.contents.now)) (get_or (terms_of l.self.contents.now) l.j []) l.a (l.a + 1)
