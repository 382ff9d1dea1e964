-- A finite set of terms that is connected to 1, its border, and rules for the border. Assumes nothing.
use Rattle.std.specs.Prelude.{◌≡◌, ℕ, zero, suc, ◌<◌, ◌≤◌, Bool, true, false, cond, not, ◌&&◌, List, [], ◌∷◌, ◌++◌, length, slice_index_or}
use Rattle.field.specs.Arithmetic.{Ring}
use Rattle.algebra.specs.Term.{Term, one, times, same, has}
use Rattle.algebra.specs.Polynomial.{Polynomial, negative}

-- the products of a term and the n variables from i on
abbrev pub multiples_from : ℕ → ℕ → Term → List Term
multiples_from i zero t = []
multiples_from i (suc n) t = times i t ∷ multiples_from (suc i) n t

-- the products of the terms of a list and the first n variables, by the terms in order and then by the variables
abbrev pub multiples : ℕ → List Term → List Term
multiples n [] = []
multiples n (t ∷ ts) = multiples_from 0 n t ++ multiples n ts

-- Connected to 1: the first term is 1, and each later one is a variable times one before it and is not among those before it.
-- The divisors of a term need not be there.
abbrev pub grows : ℕ → List Term → List Term → Bool
grows n before [] = true
grows n before (t ∷ ts) = has t (multiples n before) && not (has t before) && grows n (before ++ t ∷ []) ts

abbrev pub connected : ℕ → List Term → Bool
connected n [] = false
connected n (t ∷ ts) = same t one && grows n (t ∷ []) ts

-- the terms of a list that are not among the known ones, each where it first arises
abbrev pub fresh : List Term → List Term → List Term
fresh known [] = []
fresh known (e ∷ es) = cond (has e known) (fresh known es) (e ∷ fresh (known ++ e ∷ []) es)

-- the products of a variable and a term of S that are not in S
abbrev pub border : ℕ → List Term → List Term
border n S = fresh S (multiples n S)

-- codes, one for each term of S
abbrev pub Row : Type 0
Row = List ℕ

-- a row stands for the sum of its codes times the terms
abbrev pub combination : Row → List Term → Polynomial
combination [] ts = []
combination (c ∷ v) [] = []
combination (c ∷ v) (t ∷ ts) = (c, t) ∷ combination v ts

-- Variables, a set of terms, and a row for each border term in the border's order.
pub record System : Type 0 where
  pub variables : ℕ
  pub terms : List Term
  pub rows : List Row

abbrev pub borders : System → List Term
borders B = border B.variables B.terms

-- what stands at a place counted from 1, or a value given for a place that is not there
abbrev pub at_place : {A : Type 0} → ℕ → List A → A → A
at_place zero xs d = d
at_place (suc k) xs d = slice_index_or xs k d

-- the rule polynomial of a border term: the term minus the combination of its row
abbrev pub rule_polynomial : Ring → List Term → Term → Row → Polynomial
rule_polynomial R S e r = (1, e) ∷ negative R (combination r S)

abbrev pub rule_polynomials : Ring → List Term → List Term → List Row → List Polynomial
rule_polynomials R S [] rs = []
rule_polynomials R S (e ∷ es) [] = []
rule_polynomials R S (e ∷ es) (r ∷ rs) = rule_polynomial R S e r ∷ rule_polynomials R S es rs

-- the rule polynomial at a border place, counted from 1; zero where there is none
abbrev pub rule : Ring → System → ℕ → Polynomial
rule R B k = at_place k (rule_polynomials R B.terms (borders B) B.rows) []

abbrev pub codes_below : ℕ → Row → Type 0
codes_below q [] = Unit {0}
codes_below q (c ∷ v) = (c < q) × codes_below q v

-- a code of the ring for each term of S
abbrev pub IsRow : Ring → List Term → Row → Type 0
IsRow R S v = (length v ≡ length S) × codes_below R.order v

-- every row has a code for each term of S
abbrev pub AreRows : List Term → List Row → Type 0
AreRows S [] = Unit {0}
AreRows S (r ∷ rs) = (length r ≡ length S) × AreRows S rs

-- a set of terms connected to 1 in at most eight variables, with a row for each border term
pub record LawfulSystem (B : System) : Type 0 where
  pub few_variables : B.variables ≤ 8
  pub is_connected : connected B.variables B.terms ≡ true
  pub all_rules : length B.rows ≡ length (borders B)
  pub are_rows : AreRows B.terms B.rows
