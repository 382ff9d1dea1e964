use Rattle.std.proofs.Common.{refl, ◌∙◌, rules}
use Rattle.row.specs.Listing.{listing}
use Rattle.book.proofs.Forming.{formed_none, formed_more, formed_all}
use Rattle.book.proofs.book.Complete.write_form.Goals as goal

pub loop-code-init : goal.loop-code-init
loop-code-init g c = record {
  same_reference = refl;
  formed = formed_none (g.met.F.Field.lawful c.args.self.now.field.now).commutative_ring c.args.self.now.contents.now c.args.self.now.kept c.args.self.now.ready c.args.p.now (listing c.args.slots.now 0)
      c.args.row.now c.clear.new.row c.requires.1 c.clear.ensures;
}

pub loop-code-preserved : goal.loop-code-preserved
loop-code-preserved g c =
    let last = rw (c.maps-maps.ensures.field, c.maps-maps.ensures.rows, c.len-size.ensures.value) at c.walk.ensures.last in
    let listed = rw (c.maps-maps.ensures.field, c.maps-maps.ensures.rows, c.len-size.ensures.value) at c.walk.ensures.listed in
    record {
      same_reference = c.walk.ensures.same_reference ∙ c.loop-code.invariant.same_reference;
      formed = formed_more (g.met.F.Field.lawful c.args.self.now.field.now).commutative_ring c.args.self.now.contents.now c.args.self.now.kept c.args.self.now.ready c.args.p.now (listing c.args.slots.now 0)
          c.loop-code.code-index c.loop-code.row (listing c.loop-code.slots.slots.now c.loop-code.slots.count) c.walk.new.row c.add_multiple.new.out (listing c.walk.new.slots.slots.now c.walk.new.slots.count)
          c.requires.0 c.loop-code-test.true c.loop-code.invariant.formed last listed c.add_multiple.ensures;
    }

-- what the loop leaves when the pairs are at their end
pub returns-clause-row : goal.returns-clause-row
returns-clause-row g c =
    (formed_all (g.met.F.Field.lawful c.args.self.now.field.now).commutative_ring c.args.self.now.contents.now c.args.self.now.kept c.args.self.now.ready c.args.p.now (listing c.args.slots.now 0)
    c.loop-code.code-index c.loop-code.row (listing c.loop-code.slots.slots.now c.loop-code.slots.count) c.loop-code-test.false c.loop-code.invariant.formed).0

pub returns-clause-listed : goal.returns-clause-listed
returns-clause-listed g c =
    let end =
    (formed_all (g.met.F.Field.lawful c.args.self.now.field.now).commutative_ring c.args.self.now.contents.now c.args.self.now.kept c.args.self.now.ready c.args.p.now (listing c.args.slots.now 0)
    c.loop-code.code-index c.loop-code.row (listing c.loop-code.slots.slots.now c.loop-code.slots.count) c.loop-code-test.false c.loop-code.invariant.formed).1 in
    search rules
