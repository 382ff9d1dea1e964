use Rattle.std.proofs.Common.{◌+◌, ◌*◌, length, arith}
use Rattle.std.proofs.lemmas.Bool.{leb-true}
use Rattle.lines.proofs.Widths.{form_within}
use Rattle.lines.proofs.line.form_fits.Goals as goal

pub returns : goal.returns
returns c = λ e.
    let room = leb-true (80 + 21 * length c.args.codes.now) c.args.room e in
    let few = form_within c.args.codes.now c.args.member c.args.count (λ i. omega (arith, c.items_fit i)) (omega arith) in
    omega (arith, room, few)
