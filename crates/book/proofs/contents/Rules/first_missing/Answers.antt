use Rattle.std.proofs.Common.{◌≡◌, ◌-◌, take, ap, ◌∙◌, arith, rules}
use Rattle.term.specs.Search.{first_place, found}
use Rattle.book.specs.Judge.{missing}
use Rattle.book.proofs.Judging.{first_missing}
use Rattle.book.proofs.contents.Rules.first_missing.Goals as goal

pub returns : goal.returns
returns c D =
    let rows = c.args.self.now.rows in
    let n = c.args.size in
    let all : n - 0 ≡ n = omega arith in
    c.first_place.ensures.place missing (λ x b e. search rules) ∙ ap (λ j. found (first_place missing (take j rows))) all ∙ ap found (first_missing D (take n rows))
