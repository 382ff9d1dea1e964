use Rattle.std.proofs.Common.{◌∙◌, rules}
use Rattle.std.proofs.lemmas.Iterator.{YieldsList-from_slice}
use Rattle.std.proofs.lemmas.Iterator.Search.{any_from_yields_List}
use borrow.Author.Tests.{tests}
use Rattle.algebra.specs.Term.{has}
use Rattle.algebra.specs.Border.{multiples_from}
use Rattle.term.proofs.Places.{joined_any}
use Rattle.term.proofs.terms.joined.Goals as goal

pub returns : goal.returns
returns c =
    any_from_yields_List (λ s. has c.args.t.now (multiples_from 0 c.args.n s)) _ _ c.any.result c.any.ensures.ran
    (YieldsList-from_slice c.args.terms.now cc) (λ x b q k. search (rules, tests))
    ∙ joined_any c.args.t.now c.args.n c.args.terms.now
