-- Where each product of a variable and a term of S leads. Assumes nothing.
use Rattle.std.specs.Prelude.{ℕ, cond, List, map}
use Rattle.algebra.specs.Term.{Term, times, has, place}
use Rattle.row.specs.declared.lead.Lead.{Lead}
use Rattle.row.specs.declared.lead.Lead.TheVariants.{Inside, OnBorder}

-- to its place in S, or else to its place on the border
abbrev pub lead : List Term → List Term → Term → Lead
lead S E e = cond (has e S) (Inside (place e S)) (OnBorder (place e E))

-- the leads of variable i, for the terms of a list
abbrev pub leads_of : List Term → List Term → ℕ → List Term → List Lead
leads_of S E i ts = map (λ (t : Term). lead S E (times i t)) ts
