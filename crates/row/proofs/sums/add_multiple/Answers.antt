use Rattle.std.proofs.Common.{◌∙◌, rules}
use Rattle.field.specs.Arithmetic.{ring}
use Rattle.row.proofs.Adding.{more_by, combined_sum}
use Rattle.row.proofs.sums.add_multiple.Goals as goal

pub returns : goal.returns
returns g c =
    let R = ring (g.F.Field.meaning c.args.f.now) in
    c.combine.ensures (more_by R c.args.c) (λ a b r e. search rules) ∙ combined_sum R c.args.c c.args.out.now c.args.row.now
