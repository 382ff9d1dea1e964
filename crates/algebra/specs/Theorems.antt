-- The theorems about border bases, over any commutative ring on codes. Assumes nothing.
use Rattle.std.specs.Prelude.{◌≡◌, ℕ, ◌<◌, true, false, List, None}
use Rattle.field.specs.Arithmetic.{Ring, CommutativeRing}
use Rattle.algebra.specs.Term.{Term, has, spelled, Letters}
use Rattle.algebra.specs.Polynomial.{Polynomial, Equal, Over, sum, difference, multiple}
use Rattle.algebra.specs.Border.{Row, System, LawfulSystem, IsRow, combination}
use Rattle.algebra.specs.Ideal.{InIdeal}
use Rattle.algebra.specs.Walk.{last_row, entries, sum_of_entries, normal_form, cofactors, all_zero}
use Rattle.algebra.specs.Clash.{Commute, commutator, commutator_entries, first_clash}

-- Every walk accounts for itself: a row times a word is the last row plus the entries. Nothing is assumed of the rules.
pub record WalksAccount (R : Ring) (B : System) : Type 0 where
  pub of_a_row : (v : Row) (w : List ℕ) → Letters B.variables w → Equal R (multiple R 1 (spelled w) (combination v B.terms)) (sum (combination (last_row R B v w) B.terms) (sum_of_entries R B (entries R B v w)))
  pub of_a_polynomial : (p : Polynomial) → Over B.variables p → Equal R p (sum (combination (normal_form R B p) B.terms) (sum_of_entries R B (cofactors R B p)))
  pub of_a_commutator : (a b : ℕ) (t : Term) → a < B.variables → b < B.variables → Equal R (combination (commutator R B a b t) B.terms) (sum_of_entries R B (commutator_entries R B a b t))

-- no combination of S but zero lies in the ideal
abbrev pub Independent : Ring → System → Type 0
Independent R B = (r : Row) → IsRow R B.terms r → InIdeal R B (combination r B.terms) → all_zero r ≡ true

-- a combination of S other than zero that lies in the ideal
pub record Dependence (R : Ring) (B : System) (r : Row) : Type 0 where
  pub is_row : IsRow R B.terms r
  pub nonzero : all_zero r ≡ false
  pub in_ideal : InIdeal R B (combination r B.terms)

-- The border basis theorem: the maps commute on S exactly when no combination of S but zero lies in the ideal.
pub record BorderBasis (R : Ring) (B : System) : Type 0 where
  pub independent : Commute R B → Independent R B
  pub dependent : (Commute R B → ⊥) → (r : Row) × Dependence R B r
  pub no_clash : first_clash R B ≡ None → Commute R B
  pub clash : (t : Term) (a b : ℕ) → has t B.terms ≡ true → a < B.variables → b < B.variables → all_zero (commutator R B a b t) ≡ false → Dependence R B (commutator R B a b t)

-- Where the maps commute, equal normal forms mean exactly that the difference lies in the ideal.
pub record NormalForms (R : Ring) (B : System) : Type 0 where
  pub equal_forms : Commute R B → (p q : Polynomial) → Over B.variables p → Over B.variables q → normal_form R B p ≡ normal_form R B q → InIdeal R B (difference R p q)
  pub equal_classes : Commute R B → (p q : Polynomial) → Over B.variables p → Over B.variables q → InIdeal R B (difference R p q) → normal_form R B p ≡ normal_form R B q
  pub written_alike : Commute R B → (p q : Polynomial) → Over B.variables p → Over B.variables q → Equal R p q → normal_form R B p ≡ normal_form R B q
  pub member : Commute R B → (p : Polynomial) → Over B.variables p → InIdeal R B p → all_zero (normal_form R B p) ≡ true
  pub zero_form : (p : Polynomial) → Over B.variables p → all_zero (normal_form R B p) ≡ true → InIdeal R B p

abbrev pub WalksAccountAlways : Type 0
WalksAccountAlways = (R : Ring) → CommutativeRing R → (B : System) → LawfulSystem B → WalksAccount R B

abbrev pub BorderBasisTheorem : Type 0
BorderBasisTheorem = (R : Ring) → CommutativeRing R → (B : System) → LawfulSystem B → BorderBasis R B

abbrev pub NormalFormTheorem : Type 0
NormalFormTheorem = (R : Ring) → CommutativeRing R → (B : System) → LawfulSystem B → NormalForms R B
