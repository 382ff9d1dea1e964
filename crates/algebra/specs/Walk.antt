-- The linear maps of the variables on rows, walks, normal forms and cofactors. Assumes nothing.
use Rattle.std.specs.Prelude.{ℕ, zero, suc, Bool, true, cond, ◌&&◌, List, [], ◌∷◌, ◌++◌, map, ◌==◌}
use Rattle.field.specs.Arithmetic.{Ring}
use Rattle.algebra.specs.Term.{Term, times, word, spelled, same, has, place}
use Rattle.algebra.specs.Polynomial.{Polynomial, multiple, sum}
use Rattle.algebra.specs.Border.{Row, System, borders, at_place, rule}
use Rattle.algebra.specs.declared.Entry.{Entry}

abbrev pub zeros : List Term → Row
zeros S = map (λ (_ : Term). 0) S

abbrev pub add_rows : Ring → Row → Row → Row
add_rows R [] w = w
add_rows R (a ∷ v) [] = a ∷ v
add_rows R (a ∷ v) (b ∷ w) = R.sum a b ∷ add_rows R v w

abbrev pub scale : Ring → ℕ → Row → Row
scale R c v = map (R.product c) v

-- the row with 1 at a term of S and 0 elsewhere
abbrev pub unit : List Term → Term → Row
unit S t = map (λ s. cond (same s t) 1 0) S

-- where variable i sends a term of S: to the product where that is in S, otherwise to the row of that border term
abbrev pub image : System → ℕ → Term → Row
image B i t = cond (has (times i t) B.terms) (unit B.terms (times i t)) (at_place (place (times i t) (borders B)) B.rows [])

-- the linear map of variable i: each code times the image of its term, added up onto a row
abbrev pub map_onto : Ring → System → ℕ → Row → Row → List Term → Row
map_onto R B i acc [] ts = acc
map_onto R B i acc (c ∷ v) [] = acc
map_onto R B i acc (c ∷ v) (t ∷ ts) = map_onto R B i (add_rows R acc (scale R c (image B i t))) v ts

abbrev pub mapped : Ring → System → ℕ → Row → Row
mapped R B i v = map_onto R B i (zeros B.terms) v B.terms

-- the last row of the walk of a row by a word
abbrev pub last_row : Ring → System → Row → List ℕ → Row
last_row R B v [] = v
last_row R B v (i ∷ w) = last_row R B (mapped R B i v) w

-- An entry stands for its code times its multiplier times the rule polynomial at its border place, counted from 1.
abbrev pub entry_at : ℕ → Term → ℕ → List Entry
entry_at c m zero = []
entry_at c m (suc k) = record { code = c; multiplier = m; place = suc k } ∷ []

-- the entries of a step with variable i: for each nonzero code whose product is on the border, with the product of the variables to come
abbrev pub step_entries : System → ℕ → Term → Row → List Term → List Entry
step_entries B i m [] ts = []
step_entries B i m (c ∷ v) [] = []
step_entries B i m (c ∷ v) (t ∷ ts) = cond (c == 0) [] (entry_at c m (place (times i t) (borders B))) ++ step_entries B i m v ts

abbrev pub entries : Ring → System → Row → List ℕ → List Entry
entries R B v [] = []
entries R B v (i ∷ w) = step_entries B i (spelled w) v B.terms ++ entries R B (mapped R B i v) w

-- what entries add up to
abbrev pub sum_of_entries : Ring → System → List Entry → Polynomial
sum_of_entries R B [] = []
sum_of_entries R B (e ∷ es) = sum (multiple R e.code e.multiplier (rule R B e.place)) (sum_of_entries R B es)

-- a code at the first term, 1
abbrev pub at_one : ℕ → List Term → Row
at_one c [] = []
at_one c (t ∷ ts) = c ∷ zeros ts

-- the normal form: the last rows of the walks of the pairs, added up
abbrev pub form_onto : Ring → System → Row → Polynomial → Row
form_onto R B acc [] = acc
form_onto R B acc (x ∷ p) = form_onto R B (add_rows R acc (last_row R B (at_one x.0 B.terms) (word x.1))) p

abbrev pub normal_form : Ring → System → Polynomial → Row
normal_form R B p = form_onto R B (zeros B.terms) p

-- the entries of those walks, in order
abbrev pub cofactors : Ring → System → Polynomial → List Entry
cofactors R B [] = []
cofactors R B (x ∷ p) = entries R B (at_one x.0 B.terms) (word x.1) ++ cofactors R B p

abbrev pub all_zero : Row → Bool
all_zero [] = true
all_zero (c ∷ v) = c == 0 && all_zero v
