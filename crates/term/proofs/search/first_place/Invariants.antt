use Rattle.term.proofs.Searching.{PassedOver}
use Rattle.term.proofs.search.first_place.Given as goal

abbrev pub invariant-loop-k : goal.invariant-loop-k
invariant-loop-k g l = PassedOver (g.T.Test.meaning l.test) l.xs l.k
