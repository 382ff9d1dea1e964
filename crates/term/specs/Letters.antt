-- The first variable of a term, and a term times a variable within eight bytes. Assumes nothing.
use Rattle.std.specs.Prelude.{ℕ, zero, suc, ◌+◌, min, [], ◌∷◌, Some, None, Option, slice_index, slice_set}
use Rattle.algebra.specs.Term.{Term}

abbrev pub shifted : ℕ → Option (ℕ × Term) → Option (ℕ × Term)
shifted e None = None
shifted e (Some x) = Some (suc x.0, e ∷ x.1)

-- the first variable that divides a term, and the quotient
abbrev pub first_variable : Term → Option (ℕ × Term)
first_variable [] = None
first_variable (zero ∷ t) = shifted 0 (first_variable t)
first_variable (suc e ∷ t) = Some (0, e ∷ t)

-- one more at variable i, where the byte has room
abbrev pub raised : ℕ → Term → Term
raised i t = slice_set t i (min (slice_index t i + 1) 255)
