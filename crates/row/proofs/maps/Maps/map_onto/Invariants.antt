use Rattle.std.proofs.Common.{◌≡◌}
use Rattle.field.specs.Arithmetic.{ring}
use Rattle.std.specs.Prelude.{map}
use Rattle.row.specs.Leads.{map_led}
use Rattle.row.proofs.maps.Maps.map_onto.Given as goal

abbrev pub invariant-loop-c : goal.invariant-loop-c
invariant-loop-c g l =
    let R = ring (g.F.Field.meaning l.self.field.now) in
    map_led R (map g.R.StoredRow.codes l.self.rows.now) l.out l.c-iterator.a.rest.now l.c-iterator.b.rest.now ≡ map_led R (map g.R.StoredRow.codes l.fn.self.rows.now) l.fn.out l.row l.leads
