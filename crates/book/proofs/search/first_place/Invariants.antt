use Rattle.std.proofs.Common.{◌≡◌, Bool}
use Rattle.std.specs.Fn.{FnReturnsAt}
use Rattle.term.proofs.Searching.{PassedOver}
use Rattle.book.proofs.search.first_place.Given as goal

abbrev pub invariant-loop-k : goal.invariant-loop-k
invariant-loop-k g l = (f : _ → Bool) → ((x : _) (b : Bool) → FnReturnsAt g.P.Fn l.passes x b → b ≡ f x) → PassedOver f l.xs l.k
