use Rattle.std.proofs.Common.{ℕ, length, get_or, set, ap, ◌∙◌, arith}
use Rattle.std.proofs.lemmas.List.{get_or_default}
use Rattle.std.proofs.lemmas.List.Edits.{map_over_more}
use Rattle.book.proofs.book.rules.kept_row.Goals as goal

pub loop-code-preserved : goal.loop-code-preserved
loop-code-preserved g c =
    let row = c.args.row.now in
    let i = c.loop-code.code-index in
    let ys = c.loop-code.kept in
    let long = ap length c.copy_from_slice.ensures.after in
    ap (λ (x : ℕ). set ys i x) c.product.ensures
    ∙ map_over_more (λ (x : ℕ). (g.F.Field.meaning c.args.f.now).product x c.args.inverse) row ys i (get_or ys i 0) (omega (arith, c.loop-code-test.true, long)) c.loop-code.invariant (get_or_default ys i 0 (get_or ys i 0) (omega (arith, c.loop-code-test.true, c.loop-code.auto.kept)))
