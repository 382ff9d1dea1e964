-- What every commutative ring on codes shows without a premise, since codes are read. Assumes nothing.
use Rattle.std.specs.Prelude.{◌≡◌, ℕ, ◌<◌}
use Rattle.field.specs.Arithmetic.{Ring, CommutativeRing, read}

pub record Derived (R : Ring) : Type 0 where
  pub sum_below : (a b : ℕ) → R.sum a b < R.order
  pub negative_below : (a : ℕ) → R.negative a < R.order
  pub product_below : (a b : ℕ) → R.product a b < R.order
  pub sum_comm : (a b : ℕ) → R.sum a b ≡ R.sum b a
  pub sum_assoc : (a b c : ℕ) → R.sum (R.sum a b) c ≡ R.sum a (R.sum b c)
  pub sum_left_comm : (a b c : ℕ) → R.sum a (R.sum b c) ≡ R.sum b (R.sum a c)
  pub product_comm : (a b : ℕ) → R.product a b ≡ R.product b a
  pub product_assoc : (a b c : ℕ) → R.product (R.product a b) c ≡ R.product a (R.product b c)
  pub product_sum : (a b c : ℕ) → R.product a (R.sum b c) ≡ R.sum (R.product a b) (R.product a c)
  pub sum_product : (a b c : ℕ) → R.product (R.sum a b) c ≡ R.sum (R.product a c) (R.product b c)
  pub sum_zero : (a : ℕ) → R.sum a 0 ≡ read R.order a
  pub zero_sum : (a : ℕ) → R.sum 0 a ≡ read R.order a
  pub one_product : (a : ℕ) → R.product 1 a ≡ read R.order a
  pub product_one : (a : ℕ) → R.product a 1 ≡ read R.order a
  pub zero_product : (a : ℕ) → R.product 0 a ≡ 0
  pub product_zero : (a : ℕ) → R.product a 0 ≡ 0
  pub sum_negative : (a : ℕ) → R.sum a (R.negative a) ≡ 0
  pub negative_sum : (a : ℕ) → R.sum (R.negative a) a ≡ 0
  pub negative_zero : R.negative 0 ≡ 0
  pub negative_negative : (a : ℕ) → R.negative (R.negative a) ≡ read R.order a
  pub negative_of_sum : (a b : ℕ) → R.negative (R.sum a b) ≡ R.sum (R.negative a) (R.negative b)
  pub negative_product : (a b : ℕ) → R.product (R.negative a) b ≡ R.negative (R.product a b)
  pub product_negative : (a b : ℕ) → R.product a (R.negative b) ≡ R.negative (R.product a b)
  pub equal_from_difference : (a b : ℕ) → R.sum a (R.negative b) ≡ 0 → read R.order a ≡ read R.order b

-- derived from the ring laws alone: no inverse
abbrev pub Derivable : Type 0
Derivable = (R : Ring) → CommutativeRing R → Derived R
