-- The ideal of the rules. Assumes nothing.
use Rattle.std.specs.Prelude.{ℕ, List, [], ◌∷◌}
use Rattle.field.specs.Arithmetic.{Ring}
use Rattle.algebra.specs.Polynomial.{Polynomial, Equal, Over, sum, product}
use Rattle.algebra.specs.Border.{System, rule}

-- the sum of polynomials times rule polynomials
abbrev pub sum_of_multiples : Ring → System → List (Polynomial × ℕ) → Polynomial
sum_of_multiples R B [] = []
sum_of_multiples R B (g ∷ gs) = sum (product R g.0 (rule R B g.1)) (sum_of_multiples R B gs)

abbrev pub AllOver : ℕ → List (Polynomial × ℕ) → Type 0
AllOver n [] = Unit {0}
AllOver n (g ∷ gs) = Over n g.0 × AllOver n gs

-- p is a sum of polynomials, in the variables of the system and of any degree, times rule polynomials
abbrev pub InIdeal : Ring → System → Polynomial → Type 0
InIdeal R B p = (gs : List (Polynomial × ℕ)) × AllOver B.variables gs × Equal R p (sum_of_multiples R B gs)
