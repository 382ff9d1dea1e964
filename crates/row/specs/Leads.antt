-- The map of a variable on rows, by where its products with the terms lead. Assumes nothing.
use Rattle.std.specs.Prelude.{ℕ, cond, List, [], ◌∷◌, map, length, Option, ◌==◌, nat_le}
use Rattle.std.specs.Option.{unwrap_or}
use Rattle.field.specs.Arithmetic.{Ring}
use Rattle.algebra.specs.Border.{Row, at_place}
use Rattle.row.specs.declared.lead.Lead.{Lead}
use Rattle.row.specs.declared.lead.Lead.TheVariants.{Inside, OnBorder}
use Rattle.row.specs.Sums.{add_multiple, add_at, zeros_like}

-- the rows of the places, empty where there is none
abbrev pub given_rows : List (Option Row) → List Row
given_rows os = map (λ (o : Option Row). unwrap_or o []) os

-- a code times what a lead stands for, added to a row
abbrev pub add_led : Ring → List Row → Row → ℕ → Lead → Row
add_led R rows v c (Inside k) = add_at R v k c
add_led R rows v c (OnBorder k) = add_multiple R v c (at_place k rows [])

-- each nonzero code of a row times what its lead stands for, added up onto a row
abbrev pub map_led : Ring → List Row → Row → Row → List Lead → Row
map_led R rows acc [] ls = acc
map_led R rows acc (c ∷ v) [] = acc
map_led R rows acc (c ∷ v) (l ∷ ls) = map_led R rows (cond (c == 0) acc (add_led R rows acc c l)) v ls

-- a row of at most 32 codes mapped; a longer one stays
abbrev pub advanced : Ring → List Row → List Lead → Row → Row
advanced R rows ls v = cond (nat_le (length v) 32) (map_led R rows (zeros_like v) v ls) v
