use Rattle.std.proofs.Common.{◌≡◌, ◌++◌, ap, rules, arith}
use Rattle.std.proofs.Output.{has_written_append, has_written_of_eq}
use Rattle.std.specs.Fmt.{HasWritten}
use Rattle.tables.specs.declared.pages.Line.TheVariants.{Heads, Row}
use Rattle.tables.specs.Page.{in_turn, line}
use Rattle.tables.proofs.pages.TableDisplay.fmt.Goals as goal

pub returns-clause-writes : goal.returns-clause-writes
returns-clause-writes g c = λ p ok.
    let A = g.F.Field.meaning c.args.self.now.1.now in
    let o = c.args.self.now.0 in
    let end : c.loop-a.a ≡ A.order = omega (arith, c.order-a-end.ensures) in
    let head : HasWritten g.W.Write.write_str_gives c.args.f.now (line (Heads o) A) c.fmt.new.f = search rules in
    has_written_of_eq _ _ _ _ _ (ap (λ n. line (Heads o) A ++ in_turn (λ a. line (Row o a) A) n) end) (has_written_append _ _ _ _ _ _ head (c.loop-a.invariant head.plain))
