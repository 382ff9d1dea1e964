use Rattle.std.proofs.Common.{◌∙◌}
use Rattle.field.specs.Arithmetic.{ring}
use Rattle.std.specs.Prelude.{map}
use Rattle.row.specs.Listing.{listing}
use Rattle.row.proofs.Walking.{quotient_less, left_less, left_none}
use Rattle.row.proofs.maps.Maps.walk.Goals as goal

pub loop-first-smaller : goal.loop-first-smaller
loop-first-smaller g c = quotient_less c.loop-first.rest c.in-Some.first.0 c.in-Some.first.1 c.in-Some.ensures.value

pub loop-first-preserved : goal.loop-first-preserved
loop-first-preserved g c = record {
  same_reference = c.list_step.ensures.same_reference ∙ c.loop-first.invariant.same_reference;
  left = left_less (ring (g.F.Field.meaning c.args.self.now.field.now)) (map g.R.StoredRow.codes c.args.self.now.rows.now) c.args.leads.now c.args.row.now c.args.t (listing c.args.slots.now.slots.now c.args.slots.now.count)
      c.loop-first.row c.loop-first.rest (listing c.loop-first.slots.slots.now c.loop-first.slots.count) c.in-Some.first.0 c.in-Some.first.1 c.advance.new.row (listing c.list_step.new.self.slots.now c.list_step.new.self.count)
      c.loop-first.invariant.left c.in-Some.ensures.value c.list_step.ensures.listed c.advance.ensures;
}

pub returns : goal.returns
returns g c =
    let end =
    left_none (ring (g.F.Field.meaning c.args.self.now.field.now)) (map g.R.StoredRow.codes c.args.self.now.rows.now) c.args.leads.now c.args.row.now c.args.t (listing c.args.slots.now.slots.now c.args.slots.now.count)
    c.loop-first.row c.loop-first.rest (listing c.loop-first.slots.slots.now c.loop-first.slots.count) c.loop-first.invariant.left c.in_default.ensures.value in
    record { last = end.0; same_reference = c.loop-first.invariant.same_reference; listed = end.1 }
