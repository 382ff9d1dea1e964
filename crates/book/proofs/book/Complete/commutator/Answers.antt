use Rattle.field.specs.Arithmetic.{ring}
use Rattle.std.proofs.Common.{[], get_or}
use Rattle.book.specs.Kept.{ledger, terms_of}
use Rattle.book.specs.Ledger.{system}
use Rattle.book.proofs.Ready.{ready_contents}
use Rattle.book.proofs.Clashing.{twice_mapped, commutator_subtracted}
use Rattle.book.proofs.book.Complete.commutator.Goals as goal

pub returns : goal.returns
returns g c =
    let k = c.args.self.now.contents.now in
    let B = system (ledger k) in
    let R = ring (g.F.Field.meaning c.args.self.now.field.now) in
    let t = get_or (terms_of k) c.args.j [] in
    commutator_subtracted (g.met.F.Field.lawful c.args.self.now.field.now).commutative_ring B (ready_contents k c.args.self.now.kept c.args.self.now.ready).good c.args.a c.args.b t c.requires.0 c.requires.1.0
    c.map-2.new.row c.map-4.new.row c.subtract.new.out
    (twice_mapped R B c.args.a c.args.b t c.unit.new.row c.map.new.row c.map-2.new.row c.unit.ensures c.map.ensures c.map-2.ensures)
    (twice_mapped R B c.args.b c.args.a t c.unit-2.new.row c.map-3.new.row c.map-4.new.row c.unit-2.ensures c.map-3.ensures c.map-4.ensures)
    c.subtract.ensures
