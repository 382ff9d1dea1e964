-- The laws of a field from one test that antt computes over all its codes, pairs and triples. Assumes nothing.
use Rattle.std.specs.Prelude.{◌≡◌, ℕ, zero, suc, ◌+◌, ◌<◌, ◌≤◌, Bool, true, false, cond, not, T, is_some, Some, None, Option, ◌==◌, nat_eq, nat_le, nat_lt, refl}
use Rattle.std.proofs.Common.{arith, subst, ◌∙◌, ⊎_elim}
use Rattle.std.proofs.Math.Path.{sym, ap}
use Rattle.std.proofs.Math.Dec.{leb→le, ltb→lt, eqb→eq}
use Rattle.std.proofs.lemmas.Bool.{cases_Bool, cases_lt, lt-ltb, cond-true, cond-false, eqb-true}
use Rattle.field.specs.Arithmetic.{Lawful, read}
use Rattle.field.specs.Supplied.{on_codes, partner}
use Rattle.field.specs.Laws.{read_code, read_below, read_read}

-- a conjunction that does not compute at a variable
unfoldable pub both : Bool → Bool → Bool
both true b = b
both false b = false

pub both_left : (a b : Bool) → T (both a b) → T a
unfolding both
both_left true b t = tt
both_left false b t = t

pub both_right : (a b : Bool) → T (both a b) → T b
unfolding both
both_right true b t = t
both_right false b t = absurd t

-- the test passes at each number below n
unfoldable pub all_below : ℕ → (ℕ → Bool) → Bool
all_below zero f = true
all_below (suc n) f = both (f n) (all_below n f)

pub at_below : (n : ℕ) (f : ℕ → Bool) → T (all_below n f) → (k : ℕ) → k < n → T (f k)
unfolding all_below
at_below zero f t k h = absurd (omega arith)
at_below (suc n) f t k h =
    ⊎_elim (λ less. at_below n f (both_right (f n) _ t) k less)
    (λ last. let e : n ≡ k = omega arith in subst (λ j. T (f j)) e (both_left (f n) _ t))
    (cases_lt k n)

-- what partner finds has product 1 with a, and is one of the codes looked at
partner_found : (product : ℕ → ℕ → ℕ) (a n b c : ℕ) → partner product a n b ≡ Some c → (product a c ≡ 1) × (c < b + n)
partner_found product a zero b c e = let z : ◌≡◌ {A = ℕ} 0 1 = cc in absurd (omega arith)
partner_found product a (suc n) b c e = ⊎_elim here (later (partner_found product a n (suc b) c)) (cases_Bool (product a b == 1))
  where
    here : nat_eq (product a b) 1 ≡ true → (product a c ≡ 1) × (c < b + suc n)
    here t =
        let s : Some b ≡ Some c = sym (cond-true _ (Some b) _ t) ∙ e in
        let same : b ≡ c = cc in
        (ap (product a) (sym same) ∙ eqb-true _ 1 t, omega arith)

    later : (partner product a n (suc b) ≡ Some c → (product a c ≡ 1) × (c < suc b + n)) → (product a b == 1) ≡ false → (product a c ≡ 1) × (c < b + suc n)
    later below f = let r = below (sym (cond-false _ (Some b) _ f) ∙ e) in (r.0, omega (arith, r.1))

module _ (q : ℕ) (sum : ℕ → ℕ → ℕ) (negative : ℕ → ℕ) (product : ℕ → ℕ → ℕ) where
  -- one code
  unfoldable pub at_one : ℕ → Bool
  at_one a =
      both (nat_lt (negative a) q)
      (both (sum a 0 == a)
      (both (sum a (negative a) == 0)
      (both (product 1 a == a) (cond (nat_lt 0 a) (is_some (partner product a q 0)) (not (is_some (partner product a q 0)))))))

  unfoldable pub at_two : ℕ → ℕ → Bool
  at_two a b =
      both (nat_lt (sum a b) q) (both (nat_lt (product a b) q) (both (sum a b == sum b a) (product a b == product b a)))

  unfoldable pub at_three : ℕ → ℕ → ℕ → Bool
  at_three a b c =
      both (sum (sum a b) c == sum a (sum b c))
      (both (product (product a b) c == product a (product b c)) (product a (sum b c) == sum (product a b) (product a c)))

  unfoldable pub at_all : Bool
  at_all =
      both (nat_le 2 q)
      (both (nat_le q 256)
      (both (all_below q at_one) (both (all_below q (λ a. all_below q (at_two a))) (all_below q (λ a. all_below q (λ b. all_below q (at_three a b)))))))

-- what the tests say, each law at codes below q
module _ (q : ℕ) (sum : ℕ → ℕ → ℕ) (negative : ℕ → ℕ) (product : ℕ → ℕ → ℕ) (passed : T (at_all q sum negative product)) where
  low : 2 ≤ q
  unfolding at_all
  low = leb→le 2 q (both_left (nat_le 2 q) _ passed)

  code : (a : ℕ) → read q a < q
  code a = let l = low in read_below q a (omega arith)

  one : (a : ℕ) → a < q → T (at_one q sum negative product a)
  unfolding at_all
  one = at_below q _ (both_left (all_below q (at_one q sum negative product)) _ (both_right (nat_le q 256) _ (both_right (nat_le 2 q) _ passed)))

  two : (a b : ℕ) → a < q → b < q → T (at_two q sum negative product a b)
  unfolding at_all
  two a b h k =
      at_below q _
      (at_below q _ (both_left _ _ (both_right (all_below q (at_one q sum negative product)) _ (both_right (nat_le q 256) _ (both_right (nat_le 2 q) _ passed)))) a h) b k

  three : (a b c : ℕ) → a < q → b < q → c < q → T (at_three q sum negative product a b c)
  unfolding at_all
  three a b c h k l =
      at_below q _
      (at_below q _
      (at_below q _
      (both_right (all_below q (λ x. all_below q (at_two q sum negative product x))) _
      (both_right (all_below q (at_one q sum negative product)) _ (both_right (nat_le q 256) _ (both_right (nat_le 2 q) _ passed)))) a h) b k) c l

  sum_below : (a b : ℕ) → a < q → b < q → sum a b < q
  unfolding at_two
  sum_below a b h k = ltb→lt _ q (both_left _ _ (two a b h k))

  product_below : (a b : ℕ) → a < q → b < q → product a b < q
  unfolding at_two
  product_below a b h k = ltb→lt _ q (both_left _ _ (both_right _ _ (two a b h k)))

  negative_below : (a : ℕ) → a < q → negative a < q
  unfolding at_one
  negative_below a h = ltb→lt _ q (both_left _ _ (one a h))

  has_inverse : (a : ℕ) → a < q → T (cond (nat_lt 0 a) (is_some (partner product a q 0)) (not (is_some (partner product a q 0))))
  unfolding at_one
  has_inverse a h = both_right _ _ (both_right _ _ (both_right _ _ (both_right _ _ (one a h))))

  some_partner : (a : ℕ) → a < q → 0 < a → (b : ℕ) × (partner product a q 0 ≡ Some b)
  some_partner a h more = go (partner product a q 0) (subst T (cond-true _ _ _ (lt-ltb 0 a more)) (has_inverse a h))
    where
      go : (o : Option ℕ) → T (is_some o) → (b : ℕ) × (o ≡ Some b)
      go None t = absurd t
      go (Some b) t = (b, refl)

  no_partner : partner product 0 q 0 ≡ None
  no_partner = let l = low in go (partner product 0 q 0) (has_inverse 0 (omega arith))
    where
      go : (o : Option ℕ) → T (not (is_some o)) → o ≡ None
      go None t = refl
      go (Some b) t = absurd t

  -- the arithmetic that reads its codes keeps the laws
  pub from_table : Lawful (on_codes q sum negative product)
  unfolding at_all at_one at_three at_two
  from_table =
      let l = low in
      record {
        commutative_ring = record {
          order_low = l;
          order_high = leb→le q 256 (both_left (nat_le q 256) _ (both_right (nat_le 2 q) _ passed));
          sum_reads = λ a b i. sum (again a i) (again b i);
          negative_reads = λ a. ap negative (again a);
          product_reads = λ a b i. product (again a i) (again b i);
          sum_code = λ a b _ _. sum_below _ _ (code a) (code b);
          negative_code = λ a _. negative_below _ (code a);
          product_code = λ a b _ _. product_below _ _ (code a) (code b);
          sum_comm = λ a b _ _. eqb→eq _ _ (both_left _ _ (both_right _ _ (both_right _ _ (two _ _ (code a) (code b)))));
          sum_assoc = λ a b c _ _ _.
              ap (λ x. sum x (read q c)) (read_code q _ (sum_below _ _ (code a) (code b)))
              ∙ eqb→eq _ _ (both_left _ _ (three _ _ _ (code a) (code b) (code c)))
              ∙ ap (sum (read q a)) (sym (read_code q _ (sum_below _ _ (code b) (code c))));
          sum_zero = λ a h. ap (sum (read q a)) zero_read ∙ eqb→eq _ _ (both_left _ _ (both_right _ _ (one _ (code a)))) ∙ read_code q a h;
          sum_negative = λ a _.
              ap (sum (read q a)) (read_code q _ (negative_below _ (code a)))
              ∙ eqb→eq _ _ (both_left _ _ (both_right _ _ (both_right _ _ (one _ (code a)))));
          product_comm = λ a b _ _. eqb→eq _ _ (both_right _ _ (both_right _ _ (both_right _ _ (two _ _ (code a) (code b)))));
          product_assoc = λ a b c _ _ _.
              ap (λ x. product x (read q c)) (read_code q _ (product_below _ _ (code a) (code b)))
              ∙ eqb→eq _ _ (both_left _ _ (both_right _ _ (three _ _ _ (code a) (code b) (code c))))
              ∙ ap (product (read q a)) (sym (read_code q _ (product_below _ _ (code b) (code c))));
          one_product = λ a h.
              ap (λ x. product x (read q a)) (read_code q 1 l)
              ∙ eqb→eq _ _ (both_left _ _ (both_right _ _ (both_right _ _ (both_right _ _ (one _ (code a)))))) ∙ read_code q a h;
          product_sum = λ a b c _ _ _.
              ap (product (read q a)) (read_code q _ (sum_below _ _ (code b) (code c)))
              ∙ eqb→eq _ _ (both_right _ _ (both_right _ _ (three _ _ _ (code a) (code b) (code c))))
              ∙ (λ i. sum (kept a b i) (kept a c i));
        };
        inverse_reads = λ a. ap (λ x. partner product x q 0) (again a);
        inverse_zero = ap (λ x. partner product x q 0) zero_read ∙ no_partner;
        inverse_law = λ a h more. inverse_at a h more;
      }
    where
      again : (a : ℕ) → read q a ≡ read q (read q a)
      again a = let l = low in sym (read_read q a (omega arith))

      zero_read : read q 0 ≡ 0
      zero_read = let l = low in read_code q 0 (omega arith)

      kept : (a b : ℕ) → product (read q a) (read q b) ≡ read q (product (read q a) (read q b))
      kept a b = sym (read_code q _ (product_below _ _ (code a) (code b)))

      inverse_at : (a : ℕ) → a < q → 0 < a → (b : ℕ) × (partner product (read q a) q 0 ≡ Some b) × (b < q) × (product (read q a) (read q b) ≡ 1)
      inverse_at a h more =
          let r = some_partner a h more in
          let f = partner_found product a q 0 r.0 r.1 in
          let k : r.0 < q = omega (arith, f.1) in
          (r.0, ap (λ x. partner product x q 0) (read_code q a h) ∙ r.1, k, (λ i. product (read_code q a h i) (read_code q r.0 k i)) ∙ f.0)
