use Rattle.std.proofs.Common.{◌∙◌, rules}
use Rattle.std.proofs.lemmas.Iterator.{YieldsList-from_slice, YieldsList-from_map}
use Rattle.std.proofs.lemmas.Iterator.Consumers.{sum_by_from_yields_List}
use Rattle.std.proofs.iter.runs.Sources.{sums}
use Rattle.term.proofs.Places.{degree_sum}
use Rattle.term.proofs.terms.degree.Goals as goal

pub sum-requires-clause-fits : goal.sum-requires-clause-fits
sum-requires-clause-fits c = search (rules, sums)

pub returns : goal.returns
returns c =
    sum_by_from_yields_List (λ e. e) c.args.t.now _ c.sum.result c.sum.ensures.ran
    (YieldsList-from_map _ (λ e. e) (YieldsList-from_slice c.args.t.now cc) (cc) (λ x r q k. search rules))
    ∙ degree_sum c.args.t.now
