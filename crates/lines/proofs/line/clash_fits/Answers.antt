use Rattle.std.proofs.Common.{arith}
use Rattle.std.proofs.lemmas.Bool.{leb-true}
use Rattle.lines.proofs.Widths.{clash_within}
use Rattle.lines.proofs.line.clash_fits.Goals as goal

pub returns : goal.returns
returns c = λ e.
    let room = leb-true 80 c.args.room e in
    let few = clash_within c.args.term c.args.a c.args.b (omega arith) (omega arith) (omega arith) in
    omega (arith, room, few)
