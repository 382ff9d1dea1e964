use Rattle.std.proofs.Common.{◌*◌, sym, ◌∙◌, arith}
use Rattle.field.specs.Arithmetic.{ring}
use Rattle.book.proofs.Forming.{row_within, tabled_none, tabled_more, tabled_all}
use Rattle.book.proofs.book.Complete.write_table.Goals as goal

pub loop-j-init : goal.loop-j-init
loop-j-init g c = tabled_none (ring (g.F.Field.meaning c.args.self.now.field.now)) c.args.self.now.contents.now c.args.i c.args.table.now

pub slice_bounds-part-end : goal.slice_bounds-part-end
slice_bounds-part-end g c = row_within c.loop-j.j c.len-size.result c.loop-j.table c.loop-j-test.true (c.loop-j.auto.table ∙ c.requires.1 ∙ (λ i. sym c.len-size.ensures.value i * sym c.len-size.ensures.value i))

pub loop-j-preserved : goal.loop-j-preserved
loop-j-preserved g c =
    rw c.len-size.ensures.value
    (tabled_more (g.met.F.Field.lawful c.args.self.now.field.now).commutative_ring c.args.self.now.contents.now c.args.self.now.kept c.args.self.now.ready c.args.i c.loop-j.j _ c.loop-j.table
    c.unit.new.row c.map.new.row c.requires.0 (omega arith) (c.loop-j.auto.table ∙ c.requires.1) c.loop-j.invariant c.unit.ensures c.map.ensures)

pub returns : goal.returns
returns g c =
    tabled_all (g.met.F.Field.lawful c.args.self.now.field.now).commutative_ring c.args.self.now.contents.now c.args.self.now.kept c.args.self.now.ready c.args.i c.loop-j.j c.loop-j.table
    (omega arith) (omega arith) (c.loop-j.auto.table ∙ c.requires.1) c.loop-j.invariant
