-- The printed page of an arithmetic: its order, the tables of sums and products, the negatives and the inverses. Assumes nothing.
use Rattle.std.specs.Prelude.{ℕ, zero, suc, ◌+◌, ◌/◌, ◌%◌, cond, List, [], ◌∷◌, ◌++◌, Some, None, codes, Option, nat_lt}
use Rattle.field.specs.Arithmetic.{Arithmetic}
use Rattle.tables.specs.declared.pages.Operation.{Operation}
use Rattle.tables.specs.declared.pages.Operation.TheVariants.{Sum, Product}
use Rattle.tables.specs.declared.pages.Line.{Line}
use Rattle.tables.specs.declared.pages.Line.TheVariants.{Heads, Row, Negatives, Inverses}

-- a blank in place of a leading zero: the digit of n in the place of unit, a power of ten
abbrev pub digit : ℕ → ℕ → ℕ
digit n unit = cond (nat_lt n unit) 32 (48 + (n / unit) % 10)

-- a code right-aligned in a column of four, or a dash where there is none
abbrev pub cell : Option ℕ → List ℕ
cell (Some n) = 32 ∷ digit n 100 ∷ digit n 10 ∷ (48 + n % 10) ∷ []
cell None = codes "   -"

-- f 0, f 1, up to f (n − 1), one after the other
abbrev pub in_turn : (ℕ → List ℕ) → ℕ → List ℕ
in_turn f zero = []
in_turn f (suc n) = in_turn f n ++ f n

abbrev pub apply : Operation → Arithmetic → ℕ → ℕ → ℕ
apply Sum A = A.sum
apply Product A = A.product

-- what stands in a line under the code b
abbrev pub entry : Line → Arithmetic → ℕ → Option ℕ
entry (Heads o) A b = Some b
entry (Row o a) A b = Some (apply o A a b)
entry Negatives A b = Some (A.negative b)
entry Inverses A b = A.inverse b

abbrev pub sign : Operation → List ℕ
sign Sum = codes "   +"
sign Product = codes "   *"

-- the first column of a line
abbrev pub label : Line → List ℕ
label (Heads o) = sign o
label (Row o a) = cell (Some a)
label Negatives = codes " neg"
label Inverses = codes " inv"

abbrev pub line : Line → Arithmetic → List ℕ
line l A = label l ++ in_turn (λ b. cell (entry l A b)) A.order ++ 10 ∷ []

abbrev pub table : Operation → Arithmetic → List ℕ
table o A = line (Heads o) A ++ in_turn (λ a. line (Row o a) A) A.order

abbrev pub page : Arithmetic → List ℕ
page A = codes "order" ++ cell (Some A.order) ++ 10 ∷ [] ++ table Sum A ++ table Product A ++ line Negatives A ++ line Inverses A
