use Rattle.std.proofs.Common.{List, length, ap, arith}
use Rattle.algebra.specs.Term.{Term, place}
use Rattle.book.specs.Kept.{border_of, terms_of, border_in}
use Rattle.book.proofs.Keeping.{facts}
use Rattle.book.proofs.Searching.{place_within}
use Rattle.book.proofs.Judging.{border_bound}
use Rattle.book.proofs.book.Book.judge_border.Goals as goal

pub returns-clause-bound : goal.returns-clause-bound
returns-clause-bound g c =
    let k = c.args.self.now.contents in
    let E = border_in k.phase k.basis.variables (terms_of k) in
    border_bound c.border_place.result c.ok_or.result (place c.args.e.now E) (length (border_of k)) c.ok_or.ensures.value c.border_place.ensures
    (omega (arith, place_within c.args.e.now E, ap (λ (ts : List Term). length ts) (facts k c.args.self.now.kept).is_border))
