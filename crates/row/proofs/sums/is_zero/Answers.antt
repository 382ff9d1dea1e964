use Rattle.std.proofs.Common.{◌∙◌, rules, eqb}
use Rattle.std.proofs.lemmas.Iterator.{YieldsList-from_slice}
use Rattle.std.proofs.lemmas.Iterator.Search.{all_from_yields_List}
use borrow.Author.Tests.{tests}
use Rattle.row.proofs.Adding.{all_zero_all}
use Rattle.row.proofs.sums.is_zero.Goals as goal

pub returns : goal.returns
returns c =
    all_from_yields_List (λ e. eqb e 0) _ _ c.all.result c.all.ensures.ran (YieldsList-from_slice c.args.row.now cc) (λ x b q k. search (rules, tests))
    ∙ all_zero_all c.args.row.now
