-- A border that is laid product by product. Assumes nothing.
use Rattle.std.specs.Prelude.{List, ◌++◌}
use Rattle.algebra.specs.Term.{Term}
use Rattle.algebra.specs.Border.{fresh}

-- the border so far, and after it the products that are neither in S nor on it
abbrev pub extended : List Term → List Term → List Term → List Term
extended S E es = E ++ fresh (S ++ E) es
