-- A ledger: what a list of calls means, from the calls and the field alone. Assumes nothing.
use Rattle.std.specs.Prelude.{ℕ, List, [], map, Option}
use Rattle.std.specs.Option.{unwrap_or}
use Rattle.algebra.specs.Term.{Term}
use Rattle.algebra.specs.Border.{Row, System, border}
use Rattle.book.specs.declared.phase.Phase.{Phase}
use Rattle.book.specs.declared.phase.Phase.TheVariants.{Open}

-- The number of variables, the terms of S, the phase, and a kept row or none for each border place.
pub record Ledger : Type 0 where
  pub variables : ℕ
  pub terms : List Term
  pub phase : Phase
  pub rows : List (Option Row)

-- a new book is open, has one variable and no terms
abbrev pub new_ledger : Ledger
new_ledger = record { variables = 1; terms = []; phase = Open; rows = [] }

abbrev pub edge : Ledger → List Term
edge L = border L.variables L.terms

-- the terms with their rules, where none is missing
abbrev pub system : Ledger → System
system L = record { variables = L.variables; terms = L.terms; rows = map (λ (o : Option Row). unwrap_or o []) L.rows }
