-- Row arithmetic in place: a row keeps its length. Assumes nothing.
use Rattle.std.specs.Prelude.{ℕ, zero, suc, [], ◌∷◌, slice_index, slice_set}
use Rattle.field.specs.Arithmetic.{Ring}
use Rattle.algebra.specs.Border.{Row}

-- each code combined with the code beside it, as far as both rows go
abbrev pub combined : (ℕ → ℕ → ℕ) → Row → Row → Row
combined g [] w = []
combined g (a ∷ v) [] = a ∷ v
combined g (a ∷ v) (b ∷ w) = g a b ∷ combined g v w

-- a code times a row, added to a row
abbrev pub add_multiple : Ring → Row → ℕ → Row → Row
add_multiple R [] c w = []
add_multiple R (a ∷ v) c [] = a ∷ v
add_multiple R (a ∷ v) c (b ∷ w) = R.sum a (R.product c b) ∷ add_multiple R v c w

-- a code added at a place counted from 1
abbrev pub add_at : Ring → Row → ℕ → ℕ → Row
add_at R v zero c = v
add_at R v (suc k) c = slice_set v k (R.sum (slice_index v k) c)

-- a row taken away from a row
abbrev pub subtract : Ring → Row → Row → Row
subtract R [] w = []
subtract R (a ∷ v) [] = a ∷ v
subtract R (a ∷ v) (b ∷ w) = R.sum a (R.negative b) ∷ subtract R v w

abbrev pub zeros_like : Row → Row
zeros_like [] = []
zeros_like (a ∷ v) = 0 ∷ zeros_like v
