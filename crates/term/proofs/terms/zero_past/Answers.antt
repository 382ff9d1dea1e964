use Rattle.std.proofs.Common.{◌||◌, ◌∙◌, get_or, eqb, ltb, rules, arith}
use Rattle.std.proofs.lemmas.Iterator.{YieldsList-from_range}
use Rattle.std.proofs.lemmas.Iterator.Search.{all_from_yields_List}
use borrow.Author.Tests.{tests}
use Rattle.term.proofs.Places.{zero_past_asked}
use Rattle.term.proofs.terms.zero_past.Goals as goal

pub returns : goal.returns
returns c =
    all_from_yields_List (λ k. ltb k c.args.n || eqb (get_or c.args.t.now k 0) 0) _ _ c.all.result c.all.ensures.ran
    (YieldsList-from_range 0 8 8 (cc) (omega arith)) (λ x b q k. search (rules, tests))
    ∙ zero_past_asked c.args.n 8 c.args.t.now c.told-t
