use Rattle.std.proofs.Common.{arith, rules}
use Rattle.field.specs.Arithmetic.{ring}
use Rattle.book.proofs.Clashing.{clash_witness}
use Rattle.book.proofs.book.Complete.write_clash.Goals as goal

pub offset_bounds-slots-middle : goal.offset_bounds-slots-middle
offset_bounds-slots-middle g c =
    let w = clash_witness (ring (g.F.Field.meaning c.args.self.now.field.now)) c.args.self.now.contents.now c.args.self.now.kept c.args.self.now.ready c.args.clash c.args.slots.now c.list_walk.new.slots.slots.now c.list_walk-2.new.slots.slots.now c.list_walk.new.slots.count c.list_walk-2.new.slots.count c.requires.lengths.1 c.list_walk.ensures.listed c.list_walk-2.ensures.listed in
    omega (arith, w.ordered, w.short)

pub slice_bounds-negate-count : goal.slice_bounds-negate-count
slice_bounds-negate-count g c =
    let w = clash_witness (ring (g.F.Field.meaning c.args.self.now.field.now)) c.args.self.now.contents.now c.args.self.now.kept c.args.self.now.ready c.args.clash c.args.slots.now c.list_walk.new.slots.slots.now c.list_walk-2.new.slots.slots.now c.list_walk.new.slots.count c.list_walk-2.new.slots.count c.requires.lengths.1 c.list_walk.ensures.listed c.list_walk-2.ensures.listed in
    omega (arith, w.ordered)

pub slice_bounds-negate-start : goal.slice_bounds-negate-start
slice_bounds-negate-start g c = slice_bounds-negate-count g c

pub slice_bounds-negate-end : goal.slice_bounds-negate-end
slice_bounds-negate-end g c =
    let w = clash_witness (ring (g.F.Field.meaning c.args.self.now.field.now)) c.args.self.now.contents.now c.args.self.now.kept c.args.self.now.ready c.args.clash c.args.slots.now c.list_walk.new.slots.slots.now c.list_walk-2.new.slots.slots.now c.list_walk.new.slots.count c.list_walk-2.new.slots.count c.requires.lengths.1 c.list_walk.ensures.listed c.list_walk-2.ensures.listed in
    omega (arith, w.ordered, w.within)

pub returns-clause-slots : goal.returns-clause-slots
returns-clause-slots g c =
    let w = clash_witness (ring (g.F.Field.meaning c.args.self.now.field.now)) c.args.self.now.contents.now c.args.self.now.kept c.args.self.now.ready c.args.clash c.args.slots.now c.list_walk.new.slots.slots.now c.list_walk-2.new.slots.slots.now c.list_walk.new.slots.count c.list_walk-2.new.slots.count c.requires.lengths.1 c.list_walk.ensures.listed c.list_walk-2.ensures.listed in
    let done = w.negated c.negate.new.slots c.negate.ensures in
    search rules

pub returns-clause-count : goal.returns-clause-count
returns-clause-count g c =
    let w = clash_witness (ring (g.F.Field.meaning c.args.self.now.field.now)) c.args.self.now.contents.now c.args.self.now.kept c.args.self.now.ready c.args.clash c.args.slots.now c.list_walk.new.slots.slots.now c.list_walk-2.new.slots.slots.now c.list_walk.new.slots.count c.list_walk-2.new.slots.count c.requires.lengths.1 c.list_walk.ensures.listed c.list_walk-2.ensures.listed in
    w.count
