use Rattle.std.proofs.Common.{◌∙◌, rules}
use Rattle.field.specs.Arithmetic.{ring}
use Rattle.row.proofs.Adding.{less_by, combined_difference}
use Rattle.row.proofs.sums.subtract.Goals as goal

pub returns : goal.returns
returns g c =
    let R = ring (g.F.Field.meaning c.args.f.now) in
    c.combine.ensures (less_by R) (λ a b r e. search rules) ∙ combined_difference R c.args.out.now c.args.row.now
