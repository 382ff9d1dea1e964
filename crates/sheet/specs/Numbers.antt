-- The numbers of a body, one after another to its end. Assumes nothing.
use Rattle.std.specs.Prelude.{ℕ, zero, suc, min, cond, List, [], ◌∷◌, map, length, drop, Some, None, Ok, Err, Option, nat_lt, slice_index}
use Rattle.sheet.specs.declared.numbers.Numbers.{Numbers}
use Rattle.sheet.specs.Number.{Reading, read_number}

-- no number ends the list
abbrev pub listed : Reading → ((ℕ × ℕ) → List ℕ) → List ℕ
listed (Ok p) f = f p
listed (Err cause) f = []

-- each number takes a byte at least, so there are at most as many turns as bytes
abbrev pub numbers_in : ℕ → List ℕ → List ℕ
numbers_in turns [] = []
numbers_in zero (b ∷ bs) = []
numbers_in (suc turns) (b ∷ bs) = listed (read_number 65535 (b ∷ bs)) (λ p. p.0 ∷ numbers_in turns (drop p.1 (b ∷ bs)))

abbrev pub numbers_of : List ℕ → List ℕ
numbers_of bytes = numbers_in (length bytes) bytes

-- the numbers that are still to come out
abbrev pub left : Numbers → List ℕ
left s = numbers_of s.rest.now

abbrev pub first : List ℕ → Option ℕ
first [] = None
first (x ∷ xs) = Some x

-- the first n of eight exponents, and 0 for the others; an exponent is at most 255
abbrev pub exponent_at : ℕ → List ℕ → ℕ → ℕ
exponent_at n xs k = cond (nat_lt k n) (min (slice_index xs k) 255) 0

abbrev pub exponents_of : ℕ → List ℕ → List ℕ
exponents_of n xs = map (exponent_at n xs) (0 ∷ 1 ∷ 2 ∷ 3 ∷ 4 ∷ 5 ∷ 6 ∷ 7 ∷ [])
