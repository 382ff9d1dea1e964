-- Terms: products of powers of variables. Assumes nothing.
use Rattle.std.specs.Prelude.{◌≡◌, ℕ, zero, suc, ◌+◌, ◌<◌, Bool, true, false, cond, ◌&&◌, ◌||◌, List, [], ◌∷◌, ◌++◌, length, replicate, ◌==◌}
use Rattle.std.specs.Str.{bytes_eq}

-- A term is the list of its eight exponents, without a limit here. Variables count from 0: the exponent of variable i stands at place i.
abbrev pub Term : Type 0
Term = List ℕ

abbrev pub one : Term
one = replicate 8 0

-- variable i times a term
abbrev pub times : ℕ → Term → Term
times i [] = []
times zero (e ∷ t) = suc e ∷ t
times (suc i) (e ∷ t) = e ∷ times i t

-- the product of two terms
abbrev pub product : Term → Term → Term
product [] u = u
product (a ∷ t) [] = a ∷ t
product (a ∷ t) (b ∷ u) = (a + b) ∷ product t u

abbrev pub degree : Term → ℕ
degree [] = 0
degree (e ∷ t) = e + degree t

-- the word of a term: each variable as often as its exponent, the first variable first
abbrev pub word_from : ℕ → Term → List ℕ
word_from i [] = []
word_from i (e ∷ t) = replicate e i ++ word_from (suc i) t

abbrev pub word : Term → List ℕ
word t = word_from 0 t

-- the product of the variables of a word
abbrev pub spelled : List ℕ → Term
spelled [] = one
spelled (i ∷ w) = times i (spelled w)

-- every exponent from place n on is 0
abbrev pub zero_past : ℕ → Term → Bool
zero_past n [] = true
zero_past zero (e ∷ t) = e == 0 && zero_past zero t
zero_past (suc n) (e ∷ t) = zero_past n t

-- a term in the variables 0 to n − 1
abbrev pub InVariables : ℕ → Term → Type 0
InVariables n t = (length t ≡ 8) × (zero_past n t ≡ true)

-- the same as a test
abbrev pub in_variables : ℕ → Term → Bool
in_variables n t = length t == 8 && zero_past n t

abbrev pub same : Term → Term → Bool
same = bytes_eq

abbrev pub has : Term → List Term → Bool
has t [] = false
has t (u ∷ us) = same t u || has t us

-- the place of a term in a list, from 1; 0 where it is not there
abbrev pub next_place : ℕ → ℕ
next_place zero = 0
next_place (suc k) = suc (suc k)

abbrev pub place : Term → List Term → ℕ
place t [] = 0
place t (u ∷ us) = cond (same t u) 1 (next_place (place t us))

-- every variable of a word is below n
abbrev pub Letters : ℕ → List ℕ → Type 0
Letters n [] = Unit {0}
Letters n (i ∷ w) = (i < n) × Letters n w
