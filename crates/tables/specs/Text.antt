-- The whole text that an input of many lines is answered with. Assumes nothing.
use Rattle.std.specs.Prelude.{ℕ, suc, cond, List, [], ◌∷◌, ◌++◌, Ok, Err, Result, codes, decimal, ◌==◌}
use Rattle.field.specs.Supplied.{among, primes, modulo, binary_sizes, binary}
use Rattle.field.specs.Refusal.{number_of}
use Rattle.field.specs.declared.refusal.Refusal.TheVariants.{UnknownField}
use Rattle.tables.specs.declared.request.Request.{Request}
use Rattle.tables.specs.declared.request.Request.TheVariants.{PrimeField, BinaryField}
use Rattle.tables.specs.declared.request.RequestError.{RequestError}
use Rattle.tables.specs.declared.request.RequestError.TheVariants.{UnknownKind, NoPair}
use Rattle.tables.specs.Page.{page}
use Rattle.tables.specs.Request.{request}

-- a refusal names its number
abbrev pub refused : List ℕ
refused = codes "refused " ++ (decimal (number_of UnknownField) ++ codes ": no such field\n")

-- a line that is no pair is named by its place, counted from 1
abbrev pub no_pair : ℕ → List ℕ
no_pair n = codes "line " ++ (decimal n ++ codes ": expected a field kind and its number, as in `prime 5`\n")

abbrev pub answered : ℕ → Result Request RequestError → List ℕ
answered n (Ok (PrimeField p)) = cond (among primes p) (page (modulo p)) refused
answered n (Ok (BinaryField k)) = cond (among binary_sizes k) (page (binary k)) refused
answered n (Err UnknownKind) = refused
answered n (Err NoPair) = no_pair n

-- each line is repeated above its answer, and an empty line ends the answer
abbrev pub answer : ℕ → List ℕ → List ℕ
answer n line = line ++ 10 ∷ [] ++ answered n (request line) ++ 10 ∷ []

-- the lines of a text; the last may lack its line end
abbrev pub extend : ℕ → List (List ℕ) → List (List ℕ)
extend b [] = (b ∷ []) ∷ []
extend b (l ∷ ls) = (b ∷ l) ∷ ls

abbrev pub lines : List ℕ → List (List ℕ)
lines [] = []
lines (b ∷ bs) = cond (b == 10) ([] ∷ lines bs) (extend b (lines bs))

abbrev pub answers : ℕ → List (List ℕ) → List ℕ
answers n [] = []
answers n (l ∷ ls) = answer n l ++ answers (suc n) ls
