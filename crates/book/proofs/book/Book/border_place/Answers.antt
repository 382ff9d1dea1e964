use Rattle.std.proofs.Common.{List, sym, ap, ◌∙◌}
use Rattle.algebra.specs.Term.{Term, place}
use Rattle.term.specs.Search.{found}
use Rattle.book.proofs.Keeping.{facts}
use Rattle.book.proofs.Judging.{off_border}
use Rattle.book.proofs.book.Book.border_place.Goals as goal

pub returns-then-has : goal.returns-then-has
returns-then-has g c =
    let k = c.args.self.now.contents in
    ap found (off_border k.phase k.basis.variables _ c.args.e.now (sym c.has.ensures ∙ c.if-has.true))

pub returns : goal.returns
returns g c =
    let k = c.args.self.now.contents in
    c.place.ensures.value ∙ ap (λ (E : List Term). found (place c.args.e.now E)) (facts k c.args.self.now.kept).is_border
