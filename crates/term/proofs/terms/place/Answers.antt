use Rattle.std.proofs.Common.{◌≡◌, ◌+◌, ap, ◌∙◌, rules}
use Rattle.std.specs.Option.{option_map}
use Rattle.std.proofs.lemmas.Iterator.{YieldsList-from_slice}
use Rattle.std.proofs.lemmas.Iterator.Search.{position_from_yields_List}
use borrow.Author.Tests.{tests}
use Rattle.algebra.specs.Term.{same}
use Rattle.term.proofs.Places.{place_position}
use Rattle.term.proofs.terms.place.Goals as goal

pub returns : goal.returns
returns c =
    let next : c.map.result ≡ option_map (λ k. k + 1) c.position.result = search rules in
    next ∙ ap (option_map (λ k. k + 1)) (position_from_yields_List (same c.args.t.now) _ _ c.position.result c.position.ensures.ran
    (YieldsList-from_slice c.args.terms.now cc) (λ x b q k. search (rules, tests)))
    ∙ place_position c.args.t.now c.args.terms.now
