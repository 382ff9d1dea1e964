use Rattle.std.proofs.Common.{◌≡◌}
use Rattle.field.specs.Arithmetic.{ring}
use Rattle.std.specs.Prelude.{map}
use Rattle.algebra.specs.Term.{degree}
use Rattle.row.specs.Listing.{listing}
use Rattle.row.proofs.Walking.{Left}
use Rattle.row.proofs.maps.Maps.walk.Given as goal

abbrev pub invariant-loop-first : goal.invariant-loop-first
invariant-loop-first g l = record {
  same_reference : l.slots.slots.ghost_name ≡ l.fn.slots.slots.ghost_name;
  left : Left (ring (g.F.Field.meaning l.self.field.now)) (map g.R.StoredRow.codes l.self.rows.now) l.leads l.fn.row l.fn.t (listing l.fn.slots.slots.now l.fn.slots.count) l.row l.rest (listing l.slots.slots.now l.slots.count);
}

abbrev pub decreases-loop-first : goal.decreases-loop-first
decreases-loop-first g l = degree l.rest
