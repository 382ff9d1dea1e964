use Rattle.std.proofs.Common.{◌≤◌, subst, sym, ◌∙◌, rules}
use Rattle.std.specs.List.{sum_by}
use Rattle.std.proofs.lemmas.Iterator.{YieldsList-from_slice, YieldsList-from_map}
use Rattle.std.proofs.lemmas.Iterator.Consumers.{sum_by_from_yields_List}
use Rattle.std.proofs.iter.runs.Sources.{sums}
use Rattle.algebra.specs.Term.{degree}
use Rattle.book.proofs.Judging.{degrees_sum}
use Rattle.book.proofs.book.judging.degrees.Goals as goal

pub sum-requires-clause-fits : goal.sum-requires-clause-fits
sum-requires-clause-fits c =
    let few : sum_by (λ x. degree x.1) c.args.p.now ≤ 1536 = subst (λ n. n ≤ 1536) (sym (degrees_sum c.args.p.now)) c.requires in
    search (rules, sums)

pub returns : goal.returns
returns c =
    sum_by_from_yields_List (λ x. degree x.1) c.args.p.now _ c.sum.result c.sum.ensures.ran
    (YieldsList-from_map _ (λ x. degree x.1) (YieldsList-from_slice c.args.p.now cc) (cc) (λ x r q k. search rules))
    ∙ degrees_sum c.args.p.now
