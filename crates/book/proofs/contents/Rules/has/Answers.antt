use Rattle.std.proofs.Common.{◌≡◌, length, take, ◌∙◌, arith, rules}
use Rattle.std.proofs.lemmas.Bool.{lt-leb}
use Rattle.std.proofs.lemmas.List.{length-take}
use Rattle.book.proofs.Judging.{kept_place, past_place}
use Rattle.book.proofs.contents.Rules.has.Goals as goal

pub returns-then-place-le256 : goal.returns-then-place-le256
returns-then-place-le256 c D m h = c.is_some.ensures ∙ kept_place D m c.args.self.now.rows c.args.place c.requires h

pub returns-else-place-le256 : goal.returns-else-place-le256
returns-else-place-le256 c D m h =
    let rows = c.args.self.now.rows in
    let deep : length rows ≡ 256 = search rules in
    lt-leb c.args.place 256 c.if-place-le256.false ∙ past_place D (take m rows) c.args.place (omega (arith, c.if-place-le256.false, deep, length-take m rows))
