use Rattle.field.specs.Arithmetic.{ring}
use Rattle.row.proofs.Adding.{add_nowhere}
use Rattle.row.proofs.sums.add_at.Goals as goal

pub returns-else-place-ge1 : goal.returns-else-place-ge1
returns-else-place-ge1 g c =
    add_nowhere (ring (g.F.Field.meaning c.args.f.now)) c.args.out.now c.args.place c.args.c c.else-place-ge1.either
