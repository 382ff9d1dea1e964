use Rattle.std.proofs.Common.{arith}
use Rattle.term.proofs.Searching.{none_before, one_more, first_found, first_absent}
use Rattle.term.proofs.search.first_place.Goals as goal

pub loop-k-init : goal.loop-k-init
loop-k-init g c = none_before (g.T.Test.meaning c.args.test.now) c.args.xs.now

pub returns-then-passes : goal.returns-then-passes
returns-then-passes g c =
    first_found (g.T.Test.meaning c.args.test.now) c.args.xs.now c.loop-k.k c.index-xs-k.result (omega arith) c.index-xs-k.is c.loop-k.invariant c.if-passes.ensures

pub loop-k-preserved : goal.loop-k-preserved
loop-k-preserved g c =
    one_more (g.T.Test.meaning c.args.test.now) c.args.xs.now c.loop-k.k c.index-xs-k.result (omega arith) c.index-xs-k.is c.loop-k.invariant c.if-passes.ensures

pub returns : goal.returns
returns g c = first_absent (g.T.Test.meaning c.args.test.now) c.args.xs.now c.loop-k.k (omega arith) c.loop-k.invariant
