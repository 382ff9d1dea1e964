-- What holds of each listed prime and of each listed k, by tests that antt computes. Assumes nothing.
use Rattle.std.specs.Prelude.{◌≡◌, ℕ, ◌+◌, ◌-◌, ◌*◌, ◌%◌, ◌^◌, ◌<◌, ◌≤◌, Bool, true, false, cond, ◌||◌, T, List, [], ◌∷◌, ◌==◌, bit_xor, nat_eq, nat_le, nat_lt, refl}
use Rattle.std.proofs.Math.Path.{sym, ap}
use Rattle.std.proofs.Common.{subst, ◌∙◌, arith}
use Rattle.std.proofs.Math.Dec.{leb→le, ltb→lt, eqb→eq}
use Rattle.std.proofs.lemmas.Bool.{eqb-true}
use Rattle.field.specs.Arithmetic.{Lawful, read}
use Rattle.field.specs.Laws.{derived, read_code, read_below}
use Rattle.field.specs.Supplied.{among, primes, modulo, binary_sizes, binary, bit, reduction, polynomial_product, remainder}
use Rattle.field.specs.Tables.{both, both_left, both_right, all_below, at_below, at_one, at_two, at_three, at_all, from_table}

abbrev each : (ℕ → Bool) → List ℕ → Bool
each f [] = true
each f (m ∷ ms) = both (f m) (each f ms)

-- a test that passes at each number of a list passes at a number among them
listed : (f : ℕ → Bool) (ms : List ℕ) → T (each f ms) → (n : ℕ) → T (among ms n) → T (f n)
listed f [] t n a = absurd a
listed f (m ∷ ms) t n a = go (n == m) refl a (listed f ms (both_right (f m) _ t) n)
  where
    go : (b : Bool) → (n == m) ≡ b → T (b || among ms n) → (T (among ms n) → T (f n)) → T (f n)
    go true e a rest = subst (λ x. T (f x)) (sym (eqb-true n m e)) (both_left (f m) _ t)
    go false e a rest = rest a

prime_test : ℕ → Bool
prime_test p = both (both (nat_le 2 p) (nat_le p 31)) (at_all p (λ a b. (a + b) % p) (λ a. (p - a) % p) (λ a b. (a * b) % p))

primes_pass : T (each prime_test primes)
unfolding prime_test both all_below at_one at_two at_three at_all
primes_pass = tt

module _ (p : ℕ) (is : T (among primes p)) where
  pub prime_low : 2 ≤ p
  unfolding prime_test
  prime_low = leb→le 2 p (both_left _ _ (both_left _ _ (listed prime_test primes primes_pass p is)))

  pub prime_high : p ≤ 31
  unfolding prime_test
  prime_high = leb→le p 31 (both_right _ _ (both_left _ _ (listed prime_test primes primes_pass p is)))

  pub prime_lawful : Lawful (modulo p)
  unfolding prime_test
  prime_lawful = from_table p _ _ _ (both_right _ _ (listed prime_test primes primes_pass p is))

-- t times a, as the code computes it
abbrev pub shifted : ℕ → ℕ → ℕ
shifted k a = cond (nat_lt (a * 2) (2 ^ k)) (a * 2) (bit_xor (a * 2) (reduction k))

abbrev times : ℕ → ℕ → ℕ → ℕ
times k a b = remainder k k (polynomial_product k a b)

-- the product by its coefficients, as the code computes it
abbrev pub by_coefficients : ℕ → ℕ → ℕ → ℕ → ℕ → ℕ
by_coefficients a at att attt b = bit_xor (bit_xor (bit_xor (bit 0 b * a) (bit 1 b * at)) (bit 2 b * att)) (bit 3 b * attt)

binary_test : ℕ → Bool
binary_test k =
    both (both (nat_lt 2 (2 ^ k)) (nat_le k 4))
    (both (at_all (2 ^ k) (λ a b. bit_xor a b) (λ a. a) (times k))
    (both (all_below (2 ^ k) (λ a. nat_eq (shifted k a) (times k 2 a)))
    (all_below (2 ^ k) (λ a. all_below (2 ^ k) (λ b. nat_eq (by_coefficients a (times k 2 a) (times k 2 (times k 2 a)) (times k 2 (times k 2 (times k 2 a))) b) (times k a b))))))

binary_sizes_pass : T (each binary_test binary_sizes)
unfolding binary_test both all_below at_one at_two at_three at_all
binary_sizes_pass = tt

module _ (k : ℕ) (is : T (among binary_sizes k)) where
  passes : T (binary_test k)
  passes = listed binary_test binary_sizes binary_sizes_pass k is

  more_than_two : 2 < 2 ^ k
  unfolding binary_test
  more_than_two = ltb→lt 2 (2 ^ k) (both_left _ _ (both_left _ _ passes))

  pub binary_high : k ≤ 4
  unfolding binary_test
  binary_high = leb→le k 4 (both_right _ _ (both_left _ _ passes))

  pub binary_lawful : Lawful (binary k)
  unfolding binary_test
  binary_lawful = from_table (2 ^ k) _ _ _ (both_left _ _ (both_right _ _ passes))

  read_product : (a b : ℕ) → a < 2 ^ k → b < 2 ^ k → (binary k).product a b ≡ times k a b
  read_product a b h l i = times k (read_code (2 ^ k) a h i) (read_code (2 ^ k) b l i)

  pub product_below : (a b : ℕ) → (binary k).product a b < 2 ^ k
  product_below = (derived binary_lawful.commutative_ring).product_below

  pub shift_is_product : (a : ℕ) → a < 2 ^ k → shifted k a ≡ (binary k).product 2 a
  unfolding binary_test
  shift_is_product a h =
      eqb→eq _ _ (at_below (2 ^ k) _ (both_left _ _ (both_right _ _ (both_right _ _ passes))) a h) ∙ sym (read_product 2 a more_than_two h)

  -- a, t·a, t²·a and t³·a added up by the coefficients of b are the product
  pub coefficients_are_product : (a b at att attt : ℕ) → at ≡ (binary k).product 2 (read (2 ^ k) a) → att ≡ (binary k).product 2 at → attt ≡ (binary k).product 2 att → by_coefficients (read (2 ^ k) a) at att attt (read (2 ^ k) b) ≡ (binary k).product a b
  unfolding binary_test
  coefficients_are_product a b at att attt e₁ e₂ e₃ =
      let m = more_than_two in
      let ha = read_below (2 ^ k) a (omega arith) in
      let hb = read_below (2 ^ k) b (omega arith) in
      let f₁ = e₁ ∙ read_product 2 (read (2 ^ k) a) m ha in
      let f₂ = e₂ ∙ read_product 2 at m (subst (λ x. x < 2 ^ k) (sym e₁) (product_below 2 _)) ∙ ap (times k 2) f₁ in
      let f₃ = e₃ ∙ read_product 2 att m (subst (λ x. x < 2 ^ k) (sym e₂) (product_below 2 _)) ∙ ap (times k 2) f₂ in
      (λ i. by_coefficients (read (2 ^ k) a) (f₁ i) (f₂ i) (f₃ i) (read (2 ^ k) b))
      ∙ eqb→eq _ _ (at_below (2 ^ k) _ (at_below (2 ^ k) _ (both_right _ _ (both_right _ _ (both_right _ _ passes))) _ ha) _ hb)
