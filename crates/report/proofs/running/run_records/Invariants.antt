use Rattle.std.proofs.Common.{◌≡◌, ◌++◌, vec_items}
use Rattle.book.specs.Kept.{ledger}
use Rattle.sheet.specs.Reading.{state}
use Rattle.report.specs.Running.{items, lines, texts, left}
use Rattle.report.proofs.running.run_records.Given as goal

abbrev pub invariant-loop-placed : goal.invariant-loop-placed
invariant-loop-placed g l =
    (l.book.field ≡ l.initial.book.field)
    × (vec_items l.out ++ texts (lines (g.F.Field.meaning l.initial.book.field) (ledger l.book.contents) (items (left (state l.reader)) (state l.reader)))
    ≡ vec_items l.initial.out ++ texts (lines (g.F.Field.meaning l.initial.book.field) (ledger l.initial.book.contents) (items (left (state l.initial.reader)) (state l.initial.reader))))

abbrev pub decreases-loop-placed : goal.decreases-loop-placed
decreases-loop-placed g l = left (state l.reader)
