use Rattle.std.proofs.Common.{◌≡◌}
use Rattle.book.specs.Kept.{ledger}
use Rattle.run.proofs.Replaying.{Replaying}
use Rattle.run.proofs.running.replay.Given as goal

abbrev pub invariant-loop-line : goal.invariant-loop-line
invariant-loop-line g l = (l.book.field ≡ l.initial.book.field) × Replaying (g.F.Field.meaning l.initial.book.field) l.initial.lines l.lines l.line-index (ledger l.book.contents)
