use Rattle.std.proofs.Common.{◌≡◌, ◌<◌, ◌∷◌, length, sym, ap, ◌∙◌, rules, arith}
use Rattle.std.proofs.lemmas.Bool.{eqb-false}
use Rattle.tables.specs.Text.{lines}
use Rattle.tables.proofs.Cuts.{first_line}
use Rattle.tables.proofs.text.LinesIterator.next.Goals as goal

pub returns-clause-steps : goal.returns-clause-steps
returns-clause-steps c =
    let rest = c.args.self.now.0.now in
    let some = eqb-false (length rest) 0 (sym c.is_empty.ensures ∙ c.if-is_empty.false) in
    first_line rest (omega arith) ∙ (λ i. sym c.cut.ensures.before i ∷ lines (sym c.cut.ensures.after i))

pub returns-clause-goes : goal.returns-clause-goes
returns-clause-goes c =
    let rest = c.args.self.now.0.now in
    let some = eqb-false (length rest) 0 (sym c.is_empty.ensures ∙ c.if-is_empty.false) in
    let step : lines rest ≡ c.cut.result.0.now ∷ lines c.cut.result.1.now = first_line rest (omega arith) ∙ (λ i. sym c.cut.ensures.before i ∷ lines (sym c.cut.ensures.after i)) in
    let fewer : length (lines c.cut.result.1.now) < length (lines rest) = omega (arith, ap length step) in
    search rules
