-- What the laws of a commutative ring on codes give. Assumes nothing.
use Rattle.std.specs.Prelude.{◌≡◌, ℕ, ◌<◌, ◌≤◌, Some, None, ◌≢◌, nat_lt}
use Rattle.std.proofs.Common.{arith, sym, ap, ◌∙◌, ⊎_elim}
use Rattle.std.proofs.lemmas.Bool.{lt-ltb, cond-true, cond_both, ltb-true, cases_lt}
use Rattle.field.specs.Arithmetic.{Arithmetic, Ring, CommutativeRing, Lawful, read}
use Rattle.field.specs.Derived.{Derived, Derivable}

pub read_code : (q a : ℕ) → a < q → read q a ≡ a
read_code q a h = cond-true (nat_lt a q) a 0 (lt-ltb a q h)

pub read_below : (q a : ℕ) → 0 < q → read q a < q
read_below q a pos = cond_both (nat_lt a q) a 0 (λ x. x < q) (λ e. ltb-true a q e) (λ e. pos)

pub read_read : (q a : ℕ) → 0 < q → read q (read q a) ≡ read q a
read_read q a pos = read_code q (read q a) (read_below q a pos)

module _ {R : Ring} (laws : CommutativeRing R) where
  pub positive : 0 < R.order
  positive = omega (arith, laws.order_low)

  pub code_below : (a : ℕ) → read R.order a < R.order
  code_below a = read_below R.order a positive

  same : (a : ℕ) → read R.order (read R.order a) ≡ read R.order a
  same a = read_read R.order a positive

  pub sum_below : (a b : ℕ) → R.sum a b < R.order
  sum_below a b = rw (laws.sum_reads a b) (laws.sum_code _ _ (code_below a) (code_below b))

  pub negative_below : (a : ℕ) → R.negative a < R.order
  negative_below a = rw (laws.negative_reads a) (laws.negative_code _ (code_below a))

  pub product_below : (a b : ℕ) → R.product a b < R.order
  product_below a b = rw (laws.product_reads a b) (laws.product_code _ _ (code_below a) (code_below b))

  pub sum_left : (a b : ℕ) → R.sum (read R.order a) b ≡ R.sum a b
  sum_left a b = laws.sum_reads (read R.order a) b ∙ ap (λ x. R.sum x (read R.order b)) (same a) ∙ sym (laws.sum_reads a b)

  pub sum_right : (a b : ℕ) → R.sum a (read R.order b) ≡ R.sum a b
  sum_right a b = laws.sum_reads a (read R.order b) ∙ ap (λ x. R.sum (read R.order a) x) (same b) ∙ sym (laws.sum_reads a b)

  pub product_left : (a b : ℕ) → R.product (read R.order a) b ≡ R.product a b
  product_left a b = laws.product_reads (read R.order a) b ∙ ap (λ x. R.product x (read R.order b)) (same a) ∙ sym (laws.product_reads a b)

  pub product_right : (a b : ℕ) → R.product a (read R.order b) ≡ R.product a b
  product_right a b = laws.product_reads a (read R.order b) ∙ ap (λ x. R.product (read R.order a) x) (same b) ∙ sym (laws.product_reads a b)

  -- an equation of codes below the order holds of all, where both sides read their codes
  sum_comm : (a b : ℕ) → R.sum a b ≡ R.sum b a
  sum_comm a b = laws.sum_reads a b ∙ laws.sum_comm _ _ (code_below a) (code_below b) ∙ sym (laws.sum_reads b a)

  product_comm : (a b : ℕ) → R.product a b ≡ R.product b a
  product_comm a b = laws.product_reads a b ∙ laws.product_comm _ _ (code_below a) (code_below b) ∙ sym (laws.product_reads b a)

  sum_assoc : (a b c : ℕ) → R.sum (R.sum a b) c ≡ R.sum a (R.sum b c)
  sum_assoc a b c =
      sym (sum_right (R.sum a b) c) ∙ ap (λ x. R.sum x (read R.order c)) (laws.sum_reads a b)
      ∙ laws.sum_assoc _ _ _ (code_below a) (code_below b) (code_below c)
      ∙ ap (R.sum (read R.order a)) (sym (laws.sum_reads b c)) ∙ sum_left a (R.sum b c)

  product_assoc : (a b c : ℕ) → R.product (R.product a b) c ≡ R.product a (R.product b c)
  product_assoc a b c =
      sym (product_right (R.product a b) c) ∙ ap (λ x. R.product x (read R.order c)) (laws.product_reads a b)
      ∙ laws.product_assoc _ _ _ (code_below a) (code_below b) (code_below c)
      ∙ ap (R.product (read R.order a)) (sym (laws.product_reads b c)) ∙ product_left a (R.product b c)

  product_read : (a b : ℕ) → R.product (read R.order a) (read R.order b) ≡ R.product a b
  product_read a b = sym (laws.product_reads a b)

  product_sum : (a b c : ℕ) → R.product a (R.sum b c) ≡ R.sum (R.product a b) (R.product a c)
  product_sum a b c =
      sym (product_left a (R.sum b c)) ∙ ap (R.product (read R.order a)) (laws.sum_reads b c)
      ∙ laws.product_sum _ _ _ (code_below a) (code_below b) (code_below c)
      ∙ (λ i. R.sum (product_read a b i) (product_read a c i))

  sum_product : (a b c : ℕ) → R.product (R.sum a b) c ≡ R.sum (R.product a c) (R.product b c)
  sum_product a b c = product_comm (R.sum a b) c ∙ product_sum c a b ∙ (λ i. R.sum (product_comm c a i) (product_comm c b i))

  sum_left_comm : (a b c : ℕ) → R.sum a (R.sum b c) ≡ R.sum b (R.sum a c)
  sum_left_comm a b c = sym (sum_assoc a b c) ∙ ap (λ x. R.sum x c) (sum_comm a b) ∙ sum_assoc b a c

  sum_zero : (a : ℕ) → R.sum a 0 ≡ read R.order a
  sum_zero a = sym (sum_left a 0) ∙ laws.sum_zero _ (code_below a)

  one_product : (a : ℕ) → R.product 1 a ≡ read R.order a
  one_product a = sym (product_right 1 a) ∙ laws.one_product _ (code_below a)

  sum_negative : (a : ℕ) → R.sum a (R.negative a) ≡ 0
  sum_negative a = sym (sum_left a (R.negative a)) ∙ ap (R.sum (read R.order a)) (laws.negative_reads a) ∙ laws.sum_negative _ (code_below a)

  zero_read : read R.order 0 ≡ 0
  zero_read = read_code R.order 0 positive

  pub read_sum : (a b : ℕ) → read R.order (R.sum a b) ≡ R.sum a b
  read_sum a b = read_code _ _ (sum_below a b)

  pub read_negative : (a : ℕ) → read R.order (R.negative a) ≡ R.negative a
  read_negative a = read_code _ _ (negative_below a)

  pub read_product : (a b : ℕ) → read R.order (R.product a b) ≡ R.product a b
  read_product a b = read_code _ _ (product_below a b)

  -- a code that is its own double is 0
  double_is_zero : (a : ℕ) → a < R.order → R.sum a a ≡ a → a ≡ 0
  double_is_zero a h e =
      sym (read_code _ a h) ∙ sym (sum_zero a) ∙ ap (R.sum a) (sym (sum_negative a)) ∙ sym (sum_assoc a a (R.negative a))
      ∙ ap (λ x. R.sum x (R.negative a)) e ∙ sum_negative a

  zero_product : (a : ℕ) → R.product 0 a ≡ 0
  zero_product a =
      double_is_zero (R.product 0 a) (product_below 0 a)
      (sym (sum_product 0 0 a) ∙ ap (λ x. R.product x a) (sum_zero 0 ∙ zero_read))

  negative_unique : (a b : ℕ) → R.sum a b ≡ 0 → read R.order b ≡ R.negative a
  negative_unique a b e =
      sym (sum_zero b) ∙ ap (R.sum b) (sym (sum_negative a)) ∙ sym (sum_assoc b a (R.negative a))
      ∙ ap (λ x. R.sum x (R.negative a)) (sum_comm b a ∙ e) ∙ sum_comm 0 (R.negative a) ∙ sum_zero (R.negative a) ∙ read_negative a

  opposite_products : (a b : ℕ) → R.sum (R.product a b) (R.product (R.negative a) b) ≡ 0
  opposite_products a b = sym (sum_product a (R.negative a) b) ∙ ap (λ x. R.product x b) (sum_negative a) ∙ zero_product b

  negative_product : (a b : ℕ) → R.product (R.negative a) b ≡ R.negative (R.product a b)
  negative_product a b = sym (read_product (R.negative a) b) ∙ negative_unique (R.product a b) (R.product (R.negative a) b) (opposite_products a b)

  opposite_sums : (a b : ℕ) → R.sum (R.sum a b) (R.sum (R.negative a) (R.negative b)) ≡ 0
  opposite_sums a b =
      sum_assoc a b _ ∙ ap (R.sum a) (sum_left_comm b (R.negative a) (R.negative b)) ∙ sym (sum_assoc a (R.negative a) _)
      ∙ (λ i. R.sum (sum_negative a i) (sum_negative b i)) ∙ sum_zero 0 ∙ zero_read

  pub derived : Derived R
  derived = record {
    sum_below = sum_below;
    negative_below = negative_below;
    product_below = product_below;
    sum_comm = sum_comm;
    sum_assoc = sum_assoc;
    sum_left_comm = sum_left_comm;
    product_comm = product_comm;
    product_assoc = product_assoc;
    product_sum = product_sum;
    sum_product = sum_product;
    sum_zero = sum_zero;
    zero_sum = λ a. sum_comm 0 a ∙ sum_zero a;
    one_product = one_product;
    product_one = λ a. product_comm a 1 ∙ one_product a;
    zero_product = zero_product;
    product_zero = λ a. product_comm a 0 ∙ zero_product a;
    sum_negative = sum_negative;
    negative_sum = λ a. sum_comm (R.negative a) a ∙ sum_negative a;
    negative_zero = sym (negative_unique 0 0 (sum_zero 0 ∙ zero_read)) ∙ zero_read;
    negative_negative = λ a. sym (negative_unique (R.negative a) a (sum_comm (R.negative a) a ∙ sum_negative a));
    negative_of_sum = λ a b. sym (negative_unique (R.sum a b) _ (opposite_sums a b)) ∙ read_sum (R.negative a) (R.negative b);
    negative_product = negative_product;
    product_negative = λ a b. product_comm a (R.negative b) ∙ negative_product b a ∙ ap R.negative (product_comm b a);
    equal_from_difference = λ a b e.
        negative_unique (R.negative b) a (sum_comm (R.negative b) a ∙ e)
        ∙ sym (negative_unique (R.negative b) b (sum_comm (R.negative b) b ∙ sum_negative b));
  }

pub derivable : Derivable
derivable R laws = derived laws

-- the product with a is 1 at one code only
inverse_unique : {R : Ring} (laws : CommutativeRing R) (a b c : ℕ) → b < R.order → c < R.order → R.product a b ≡ 1 → R.product a c ≡ 1 → b ≡ c
inverse_unique {R} laws a b c hb hc eb ec =
    let d = derived laws in
    sym (read_code _ b hb) ∙ sym (d.product_one b) ∙ ap (R.product b) (sym ec) ∙ sym (d.product_assoc b a c)
    ∙ ap (λ x. R.product x c) (d.product_comm b a ∙ eb) ∙ d.one_product c ∙ read_code _ c hc

-- The inverse of a lawful field is the code whose product with a is 1, and it is absent where there is none.
module _ {A : Arithmetic} (laws : Lawful A) (a : ℕ) where
  pub inverse_found : (b : ℕ) → b < A.order → A.product a b ≡ 1 → Some b ≡ A.inverse a
  inverse_found b h e = ⊎_elim present absent (cases_lt 0 (read A.order a))
    where
      at_read : A.product (read A.order a) b ≡ 1
      at_read = product_left laws.commutative_ring a b ∙ e

      present : 0 < read A.order a → Some b ≡ A.inverse a
      present more =
          let r = laws.inverse_law _ (code_below laws.commutative_ring a) more in
          ap Some (inverse_unique laws.commutative_ring (read A.order a) b r.0 h r.2 at_read r.3) ∙ sym r.1 ∙ sym (laws.inverse_reads a)

      absent : read A.order a ≤ 0 → Some b ≡ A.inverse a
      absent none =
          let z : read A.order a ≡ 0 = omega arith in
          let one : ◌≡◌ {A = ℕ} 0 1 = sym (zero_product laws.commutative_ring b) ∙ ap (λ x. A.product x b) (sym z) ∙ at_read in
          absurd (omega arith)

  pub inverse_absent : ((b : ℕ) → b < A.order → A.product a b ≢ 1) → None ≡ A.inverse a
  inverse_absent never = ⊎_elim some none (cases_lt 0 (read A.order a))
    where
      some : 0 < read A.order a → None ≡ A.inverse a
      some more =
          let r = laws.inverse_law _ (code_below laws.commutative_ring a) more in
          absurd (never r.0 r.2 (sym (product_left laws.commutative_ring a r.0) ∙ r.3))

      none : read A.order a ≤ 0 → None ≡ A.inverse a
      none zero = let z : read A.order a ≡ 0 = omega arith in sym (laws.inverse_reads a ∙ ap A.inverse z ∙ laws.inverse_zero)
