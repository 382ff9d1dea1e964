use Rattle.std.proofs.Common.{◌+◌, ◌∙◌, cond, get_or, eqb, rules, arith}
use Rattle.std.proofs.lemmas.Iterator.{YieldsList-from_range}
use Rattle.std.proofs.lemmas.Iterator.Search.{all_from_yields_List}
use borrow.Author.Tests.{tests}
use Rattle.term.proofs.Exponents.{product_each}
use Rattle.term.proofs.terms.is_product.Goals as goal

pub returns : goal.returns
returns c =
    all_from_yields_List (λ k. eqb (get_or c.args.t.now k 0) (get_or c.args.s.now k 0 + cond (eqb k c.args.i) 1 0)) _ _ c.all.result c.all.ensures.ran
    (YieldsList-from_range 0 8 8 (cc) (omega arith)) (λ x b q k. search (rules, tests))
    ∙ product_each c.args.i 8 c.args.t.now c.args.s.now c.told-t c.told-s
