-- Polynomials over a ring on codes. Assumes nothing.
use Rattle.std.specs.Prelude.{◌≡◌, ℕ, cond, List, [], ◌∷◌, ◌++◌, map}
use Rattle.field.specs.Arithmetic.{Ring}
use Rattle.algebra.specs.Term.{Term, InVariables, same}
use Rattle.algebra.specs.Term as term

-- A list of pairs of a code and a term. Repeats and zero codes may occur; the empty list is zero.
abbrev pub Polynomial : Type 0
Polynomial = List (ℕ × Term)

-- what the codes of a term add up to
abbrev pub coefficient : Ring → Polynomial → Term → ℕ
coefficient R [] t = 0
coefficient R (x ∷ p) t = cond (same x.1 t) (R.sum x.0 (coefficient R p t)) (coefficient R p t)

-- two polynomials are equal when the codes of each term add up alike
abbrev pub Equal : Ring → Polynomial → Polynomial → Type 0
Equal R p q = (t : Term) → coefficient R p t ≡ coefficient R q t

abbrev pub sum : Polynomial → Polynomial → Polynomial
sum p q = p ++ q

abbrev pub negative : Ring → Polynomial → Polynomial
negative R p = map (λ (x : ℕ × Term). (R.negative x.0, x.1)) p

abbrev pub difference : Ring → Polynomial → Polynomial → Polynomial
difference R p q = sum p (negative R q)

-- a code times a term times a polynomial
abbrev pub multiple : Ring → ℕ → Term → Polynomial → Polynomial
multiple R c m p = map (λ (x : ℕ × Term). (R.product c x.0, term.product m x.1)) p

abbrev pub product : Ring → Polynomial → Polynomial → Polynomial
product R [] q = []
product R (x ∷ p) q = sum (multiple R x.0 x.1 q) (product R p q)

-- every term of the polynomial is in the first n variables
abbrev pub Over : ℕ → Polynomial → Type 0
Over n [] = Unit {0}
Over n (x ∷ p) = InVariables n x.1 × Over n p
