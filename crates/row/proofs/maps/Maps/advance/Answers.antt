use Rattle.field.specs.Arithmetic.{ring}
use Rattle.std.specs.Prelude.{map}
use Rattle.row.proofs.Leading.{still_long, mapped_back}
use Rattle.row.proofs.maps.Maps.advance.Goals as goal

pub slice_bounds-copy_from_slice-end : goal.slice_bounds-copy_from_slice-end
slice_bounds-copy_from_slice-end g c = still_long _ _ c.map_onto.new.out _ c.if-size-le32.true c.map_onto.auto.out

pub returns-then-size-le32 : goal.returns-then-size-le32
returns-then-size-le32 g c =
    mapped_back 32 (ring (g.F.Field.meaning c.args.self.now.field.now)) (map g.R.StoredRow.codes c.args.self.now.rows.now) c.args.leads.now c.args.row.now c.map_onto.new.out _ c.copy_from_slice.new.self
    c.if-size-le32.true c.if-size-le32.true c.map_onto.auto.out c.map_onto.ensures c.copy_from_slice.ensures.after
