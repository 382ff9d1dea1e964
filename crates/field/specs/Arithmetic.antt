-- What an arithmetic on codes is, and which arithmetics are lawful. Assumes nothing.
use Rattle.std.specs.Prelude.{◌≡◌, ℕ, ◌<◌, ◌≤◌, cond, Some, None, Option, nat_lt}

-- Four functions on codes and the number of codes; the elements are the codes 0 to order − 1.
pub record Arithmetic : Type 0 where
  pub order : ℕ
  pub sum : ℕ → ℕ → ℕ
  pub negative : ℕ → ℕ
  pub product : ℕ → ℕ → ℕ
  pub inverse : ℕ → Option ℕ

-- What is left of an arithmetic when nothing divides.
pub record Ring : Type 0 where
  pub order : ℕ
  pub sum : ℕ → ℕ → ℕ
  pub negative : ℕ → ℕ
  pub product : ℕ → ℕ → ℕ

abbrev pub ring : Arithmetic → Ring
ring A = record { order = A.order; sum = A.sum; negative = A.negative; product = A.product }

-- a code that is not below the order q is read as 0
abbrev pub read : ℕ → ℕ → ℕ
read q a = cond (nat_lt a q) a 0

-- The laws of a commutative ring with 2 to 256 elements, asked of codes below the order; every other code is read as 0.
pub record CommutativeRing (R : Ring) : Type 0 where
  pub order_low : 2 ≤ R.order
  pub order_high : R.order ≤ 256
  pub sum_reads : (a b : ℕ) → R.sum a b ≡ R.sum (read R.order a) (read R.order b)
  pub negative_reads : (a : ℕ) → R.negative a ≡ R.negative (read R.order a)
  pub product_reads : (a b : ℕ) → R.product a b ≡ R.product (read R.order a) (read R.order b)
  pub sum_code : (a b : ℕ) → a < R.order → b < R.order → R.sum a b < R.order
  pub negative_code : (a : ℕ) → a < R.order → R.negative a < R.order
  pub product_code : (a b : ℕ) → a < R.order → b < R.order → R.product a b < R.order
  pub sum_comm : (a b : ℕ) → a < R.order → b < R.order → R.sum a b ≡ R.sum b a
  pub sum_assoc : (a b c : ℕ) → a < R.order → b < R.order → c < R.order → R.sum (R.sum a b) c ≡ R.sum a (R.sum b c)
  pub sum_zero : (a : ℕ) → a < R.order → R.sum a 0 ≡ a
  pub sum_negative : (a : ℕ) → a < R.order → R.sum a (R.negative a) ≡ 0
  pub product_comm : (a b : ℕ) → a < R.order → b < R.order → R.product a b ≡ R.product b a
  pub product_assoc : (a b c : ℕ) → a < R.order → b < R.order → c < R.order → R.product (R.product a b) c ≡ R.product a (R.product b c)
  pub one_product : (a : ℕ) → a < R.order → R.product 1 a ≡ a
  pub product_sum : (a b c : ℕ) → a < R.order → b < R.order → c < R.order → R.product a (R.sum b c) ≡ R.sum (R.product a b) (R.product a c)

-- A lawful field: a commutative ring in which every code but 0 has an inverse, and 0 has none.
pub record Lawful (A : Arithmetic) : Type 0 where
  pub commutative_ring : CommutativeRing (ring A)
  pub inverse_reads : (a : ℕ) → A.inverse a ≡ A.inverse (read A.order a)
  pub inverse_zero : A.inverse 0 ≡ None
  pub inverse_law : (a : ℕ) → a < A.order → 0 < a → (b : ℕ) × (A.inverse a ≡ Some b) × (b < A.order) × (A.product a b ≡ 1)
