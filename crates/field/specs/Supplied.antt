-- The two kinds of field that the library supplies. Assumes nothing.
use Rattle.std.specs.Prelude.{ℕ, zero, suc, ◌+◌, ◌-◌, ◌*◌, ◌/◌, ◌%◌, ◌^◌, Bool, false, cond, ◌||◌, List, [], ◌∷◌, Some, None, Option, ◌==◌, bit_xor}
use Rattle.field.specs.Arithmetic.{Arithmetic, read}

-- the first of the n codes from b on whose product with a is 1
abbrev pub partner : (ℕ → ℕ → ℕ) → ℕ → ℕ → ℕ → Option ℕ
partner product a zero b = None
partner product a (suc n) b = let later = partner product a n (suc b) in cond (product a b == 1) (Some b) later

-- An arithmetic from its operations on codes below q: every code is read first, and the inverse is the code whose product is 1.
abbrev pub on_codes : (q : ℕ) (sum : ℕ → ℕ → ℕ) (negative : ℕ → ℕ) (product : ℕ → ℕ → ℕ) → Arithmetic
on_codes q sum negative product = record {
  order = q;
  sum = λ a b. sum (read q a) (read q b);
  negative = λ a. negative (read q a);
  product = λ a b. product (read q a) (read q b);
  inverse = λ a. partner product (read q a) q 0;
}

abbrev pub among : List ℕ → ℕ → Bool
among [] n = false
among (m ∷ ms) n = n == m || among ms n

-- the moduli of the prime fields
abbrev pub primes : List ℕ
primes = 2 ∷ 3 ∷ 5 ∷ 7 ∷ 11 ∷ 13 ∷ 17 ∷ 19 ∷ 23 ∷ 29 ∷ 31 ∷ []

-- counting modulo p
abbrev pub modulo : ℕ → Arithmetic
modulo p = on_codes p (λ a b. (a + b) % p) (λ a. (p - a) % p) (λ a b. (a * b) % p)

-- the numbers k for which there is a binary field of order 2^k
abbrev pub binary_sizes : List ℕ
binary_sizes = 2 ∷ 3 ∷ 4 ∷ []

-- A code is a polynomial in t over the bits, bit i for t^i. The reduction polynomial is t^k + t + 1.
abbrev pub reduction : ℕ → ℕ
reduction k = 2 ^ k + 2 + 1

-- the coefficient of t^i
abbrev pub bit : ℕ → ℕ → ℕ
bit i a = (a / 2 ^ i) % 2

-- the product of a and the part of b below t^n
abbrev pub polynomial_product : ℕ → ℕ → ℕ → ℕ
polynomial_product zero a b = 0
polynomial_product (suc n) a b = bit_xor (polynomial_product n a b) (bit n b * (a * 2 ^ n))

-- what a polynomial of degree below k + n leaves on division by the reduction polynomial
abbrev pub remainder : ℕ → ℕ → ℕ → ℕ
remainder k zero a = a
remainder k (suc n) a = remainder k n (bit_xor a (bit (k + n) a * (reduction k * 2 ^ n)))

-- polynomials over the bits modulo the reduction polynomial
abbrev pub binary : ℕ → Arithmetic
binary k = on_codes (2 ^ k) (λ a b. bit_xor a b) (λ a. a) (λ a b. remainder k k (polynomial_product k a b))
