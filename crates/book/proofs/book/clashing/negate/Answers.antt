use Rattle.std.proofs.Common.{refl}
use Rattle.field.specs.Arithmetic.{ring}
use Rattle.book.proofs.Clashing.{negated_more, negated_all}
use Rattle.book.proofs.book.clashing.negate.Goals as goal

pub loop-entry-init : goal.loop-entry-init
loop-entry-init g c = refl

pub loop-entry-preserved : goal.loop-entry-preserved
loop-entry-preserved g c =
    negated_more (ring (g.F.Field.meaning c.args.f.now)) c.args.slots.now c.loop-entry.slots c.loop-entry.entry-index _ c.negative-entry.result c.loop-entry-test.true c.loop-entry.auto.slots c.loop-entry.invariant c.negative-entry.ensures

pub returns : goal.returns
returns g c =
    negated_all (ring (g.F.Field.meaning c.args.f.now)) c.args.slots.now c.loop-entry.slots c.loop-entry.entry-index c.loop-entry-test.false c.loop-entry.invariant
