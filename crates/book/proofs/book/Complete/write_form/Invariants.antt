use Rattle.std.proofs.Common.{◌≡◌}
use Rattle.field.specs.Arithmetic.{ring}
use Rattle.row.specs.Listing.{listing}
use Rattle.book.specs.Kept.{ledger}
use Rattle.book.specs.Ledger.{system}
use Rattle.book.proofs.Forming.{Formed}
use Rattle.book.proofs.book.Complete.write_form.Given as goal

abbrev pub invariant-loop-code : goal.invariant-loop-code
invariant-loop-code g l = record {
  same_reference : l.slots.slots.ghost_name ≡ l.initial.slots.slots.ghost_name;
  formed : Formed (ring (g.F.Field.meaning l.self.field.now)) (system (ledger l.self.contents.now)) l.p (listing l.initial.slots.slots.now l.initial.slots.count) l.code-index l.row (listing l.slots.slots.now l.slots.count);
}
