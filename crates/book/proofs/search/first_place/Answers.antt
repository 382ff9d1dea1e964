use Rattle.std.proofs.Common.{true, false, refl, ap, ◌∙◌, arith}
use Rattle.term.specs.Search.{found}
use Rattle.term.proofs.Searching.{none_before, one_more, first_found, first_absent}
use Rattle.book.proofs.Searching.{found_next}
use Rattle.book.proofs.search.first_place.Goals as goal

pub loop-k-init : goal.loop-k-init
loop-k-init g c f says = none_before f c.args.xs.now

pub loop-k-preserved : goal.loop-k-preserved
loop-k-preserved g c f says = one_more f c.args.xs.now c.loop-k.k c.index-xs-k.result (omega arith) c.index-xs-k.is (c.loop-k.invariant f says) (says c.index-xs-k.result false (record { shown = _; shows = refl; says = record { met = c.if-passes.ensures } }))

pub returns-then-passes-clause-place : goal.returns-then-passes-clause-place
returns-then-passes-clause-place g c f says =
    found_next c.loop-k.k
    ∙ ap found (first_found f c.args.xs.now c.loop-k.k c.index-xs-k.result (omega arith) c.index-xs-k.is (c.loop-k.invariant f says) (says c.index-xs-k.result true (record { shown = _; shows = refl; says = record { met = c.if-passes.ensures } })))

pub returns-clause-place : goal.returns-clause-place
returns-clause-place g c f says = ap found (first_absent f c.args.xs.now c.loop-k.k (omega arith) (c.loop-k.invariant f says))
