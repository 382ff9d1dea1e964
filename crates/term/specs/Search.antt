-- The first place in a list that passes a test. Assumes nothing.
use Rattle.std.specs.Prelude.{ℕ, zero, suc, Bool, cond, List, [], ◌∷◌, Some, None, Option}
use Rattle.algebra.specs.Term.{next_place}

-- counted from 1; 0 where none passes
abbrev pub first_place : {X : Type 0} → (X → Bool) → List X → ℕ
first_place f [] = 0
first_place f (x ∷ xs) = cond (f x) 1 (next_place (first_place f xs))

-- a place as an answer: none for 0
abbrev pub found : ℕ → Option ℕ
found zero = None
found (suc k) = Some (suc k)
