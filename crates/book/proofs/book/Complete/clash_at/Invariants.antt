use Rattle.std.proofs.Common.{◌≡◌, [], get_or}
use Rattle.field.specs.Arithmetic.{ring}
use Rattle.algebra.specs.Clash.{clash_at, pairs}
use Rattle.book.specs.Kept.{ledger, terms_of}
use Rattle.book.specs.Ledger.{system}
use Rattle.book.proofs.Clashing.{from_left}
use Rattle.book.proofs.book.Complete.clash_at.Given as goal

abbrev pub invariant-loop-a : goal.invariant-loop-a
invariant-loop-a g l =
    from_left (ring (g.F.Field.meaning l.self.field.now)) (system (ledger l.self.contents.now)) (get_or (terms_of l.self.contents.now) l.j []) l.a
    ≡ clash_at (ring (g.F.Field.meaning l.self.field.now)) (system (ledger l.self.contents.now)) (get_or (terms_of l.self.contents.now) l.j []) (pairs l.self.contents.now.basis.variables)
