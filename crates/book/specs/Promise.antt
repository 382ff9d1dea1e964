-- What the answers of check, form and cofactors mean, in terms of the ideal U of the rules. Assumes nothing.
use Rattle.std.specs.Prelude.{◌≡◌, ℕ, Bool, true, List, take, Ok, Err, Result}
use Rattle.field.specs.Arithmetic.{Ring}
use Rattle.algebra.specs.Polynomial.{Polynomial, Equal, Over, sum, difference}
use Rattle.algebra.specs.Border.{Row, System, combination}
use Rattle.algebra.specs.Ideal.{InIdeal}
use Rattle.algebra.specs.Walk.{normal_form, sum_of_entries}
use Rattle.algebra.specs.Theorems.{Independent, Dependence}
use Rattle.algebra.specs.declared.Entry.{Entry}
use Rattle.book.specs.declared.refusal.Refusal.{Refusal}
use Rattle.book.specs.declared.verdict.Verdict.{Verdict}
use Rattle.book.specs.declared.verdict.Verdict.TheVariants.{Consistent, Clashes}

-- a row with entries that add up to it
pub record Accounted (R : Ring) (B : System) (row : Row) (es : List Entry) : Type 0 where
  pub dependence : Dependence R B row
  pub adds_up : Equal R (combination row B.terms) (sum_of_entries R B es)

-- Consistent: no combination of S but zero lies in U. A clash: the row is another such combination, and the entries counted add up to it.
abbrev pub VerdictMeans : Ring → System → Verdict → Row → List Entry → Type 0
VerdictMeans R B Consistent row slots = Independent R B
VerdictMeans R B (Clashes t a b n) row slots = Accounted R B row (take n slots)

abbrev pub CheckMeans : Ring → System → Result Verdict Refusal → Row → List Entry → Type 0
CheckMeans R B (Ok v) row slots = VerdictMeans R B v row slots
CheckMeans R B (Err r) row slots = Unit {0}

-- The row of a form, where no combination of S but zero lies in U: it is the row of another polynomial exactly when the difference lies in U,
-- and the answer is yes exactly when the polynomial itself lies in U.
pub record FormMeans (R : Ring) (B : System) (p : Polynomial) (row : Row) (yes : Bool) : Type 0 where
  pub over : Over B.variables p
  pub equal_forms : (q : Polynomial) → Over B.variables q → row ≡ normal_form R B q → InIdeal R B (difference R p q)
  pub equal_classes : Independent R B → (q : Polynomial) → Over B.variables q → InIdeal R B (difference R p q) → row ≡ normal_form R B q
  pub member : yes ≡ true → InIdeal R B p
  pub other : Independent R B → InIdeal R B p → yes ≡ true

abbrev pub Formed : Ring → System → Polynomial → Result Bool Refusal → Row → Type 0
Formed R B p (Ok said) row = FormMeans R B p row said
Formed R B p (Err r) row = Unit {0}

-- a polynomial is the combination of its form plus the sum of the entries counted
abbrev pub Accounts : Ring → System → Polynomial → Row → List Entry → Type 0
Accounts R B p row es = Equal R p (sum (combination row B.terms) (sum_of_entries R B es))

abbrev pub CofactorsMean : Ring → System → Polynomial → Result (ℕ × ℕ) Refusal → Row → List Entry → Type 0
CofactorsMean R B p (Ok n) row slots = Accounts R B p row (take n.0 slots)
CofactorsMean R B p (Err r) row slots = Unit {0}
