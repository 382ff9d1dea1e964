use Rattle.std.proofs.Common.{sym, ◌∙◌, rules}
use Rattle.std.proofs.lemmas.Iterator.{YieldsList-from_slice}
use Rattle.std.proofs.lemmas.Iterator.Search.{position_from_yields_List}
use borrow.Author.Tests.{tests}
use Rattle.term.proofs.Places.{nonzero, variable_at, no_variable}
use Rattle.term.proofs.terms.first_variable.Goals as goal

pub returns-in_err-k-clause-value : goal.returns-in_err-k-clause-value
returns-in_err-k-clause-value c =
    let at = position_from_yields_List nonzero _ _ c.position.result c.position.ensures.ran
    (YieldsList-from_slice c.args.t cc) (λ x b q k. search (rules, tests)) in
    c.from_residual.ensures ∙ no_variable c.args.t (sym at ∙ c.in_err-k.was)

pub returns-clause-value : goal.returns-clause-value
returns-clause-value c =
    let at = position_from_yields_List nonzero _ _ c.position.result c.position.ensures.ran
    (YieldsList-from_slice c.args.t cc) (λ x b q k. search (rules, tests)) in
    variable_at c.args.t c.in_ok-k.k (sym at ∙ c.in_ok-k.was)
