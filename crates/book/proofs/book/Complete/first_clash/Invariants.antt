use Rattle.std.proofs.Common.{◌≡◌}
use Rattle.field.specs.Arithmetic.{ring}
use Rattle.algebra.specs.Clash.{first_clash}
use Rattle.book.specs.Kept.{ledger}
use Rattle.book.specs.Ledger.{system}
use Rattle.book.proofs.Clashing.{terms_left}
use Rattle.book.proofs.book.Complete.first_clash.Given as goal

abbrev pub invariant-loop-j : goal.invariant-loop-j
invariant-loop-j g l =
    terms_left (ring (g.F.Field.meaning l.self.field.now)) (system (ledger l.self.contents.now)) l.j
    ≡ first_clash (ring (g.F.Field.meaning l.self.field.now)) (system (ledger l.self.contents.now))
