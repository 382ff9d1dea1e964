use Rattle.std.proofs.Common.{◌≡◌, ℕ}
use Rattle.row.proofs.Adding.{partly}
use Rattle.row.proofs.sums.combine.Given as goal

abbrev pub invariant-loop-k : goal.invariant-loop-k
invariant-loop-k g l = (f : ℕ → ℕ → ℕ) → ((a b r : ℕ) → goal.H-post g l.h a b r → r ≡ f a b) → l.out ≡ partly f l.k l.fn.out l.row
