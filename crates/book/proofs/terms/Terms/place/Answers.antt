use Rattle.std.proofs.Common.{List, length, ap, arith}
use Rattle.algebra.specs.Term.{Term, place}
use Rattle.book.proofs.Searching.{found_within, place_within}
use Rattle.book.proofs.terms.Terms.place.Goals as goal

pub returns-clause-bound : goal.returns-clause-bound
returns-clause-bound g c = found_within (place c.args.t.now c.as_slice.result.now) g.row.N _ c.place.ensures
    (omega (arith, place_within c.args.t.now c.as_slice.result.now, ap (λ (ts : List Term). length ts) c.as_slice.ensures.value, c.as_slice.ensures.few))
