use Rattle.std.proofs.Common.{◌∙◌, rules, arith}
use Rattle.std.proofs.lemmas.Iterator.{YieldsList-from_range}
use Rattle.std.proofs.lemmas.Iterator.Search.{any_from_yields_List}
use borrow.Author.Tests.{tests}
use Rattle.algebra.specs.Term.{same, times}
use Rattle.term.proofs.Places.{joins_any}
use Rattle.term.proofs.terms.joins.Goals as goal

pub returns : goal.returns
returns c =
    any_from_yields_List (λ j. same c.args.t.now (times j c.args.s.now)) _ _ c.any.result c.any.ensures.ran
    (YieldsList-from_range 0 c.args.n c.args.n (cc) (omega arith)) (λ x b q k. search (rules, tests))
    ∙ joins_any c.args.t.now c.args.s.now 0 c.args.n
