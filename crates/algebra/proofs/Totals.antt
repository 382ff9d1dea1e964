-- Weights: a function from terms to codes gives every polynomial a total. Equal polynomials are those with equal totals.
-- Assumes nothing.
use Rattle.std.proofs.Common.{◌≡◌, ℕ, zero, suc, ◌<◌, ◌≤◌, Bool, true, false, cond, [], ◌∷◌, ◌++◌, length, sym, refl, ap, ◌∙◌, subst, ⊎_elim, arith}
use Rattle.std.proofs.lemmas.Bool.{cases_Bool, cond-true, cond-false}
use Rattle.field.specs.Arithmetic.{Ring, CommutativeRing}
use Rattle.field.specs.Laws.{derived, positive, read_code, sum_left}
use Rattle.algebra.specs.Term.{Term, same}
use Rattle.algebra.specs.Term as term
use Rattle.algebra.specs.Polynomial.{Polynomial, coefficient, Equal, negative, difference, multiple}
use Rattle.algebra.proofs.Terms.{same_true, same_refl}

-- the weight that is 1 at t and 0 elsewhere
abbrev pub indicator : Term → Term → ℕ
indicator t s = cond (same s t) 1 0

abbrev pub total : Ring → (Term → ℕ) → Polynomial → ℕ
total R f [] = 0
total R f (x ∷ p) = R.sum (R.product x.0 (f x.1)) (total R f p)

-- a polynomial without its pairs at m
abbrev without : Term → Polynomial → Polynomial
without m [] = []
without m (x ∷ p) = cond (same x.1 m) (without m p) (x ∷ without m p)

module _ {R : Ring} (laws : CommutativeRing R) where
  open derived laws use {sum_comm, sum_assoc, sum_left_comm, product_comm, product_assoc, product_sum, sum_product, zero_sum, sum_zero, product_one, product_zero, zero_product, sum_below, sum_negative, negative_zero, negative_of_sum, negative_product, equal_from_difference}

  pub zero_plus : (x : ℕ) → x < R.order → R.sum 0 x ≡ x
  zero_plus x h = zero_sum x ∙ read_code _ x h

  pub total_below : (f : Term → ℕ) (p : Polynomial) → total R f p < R.order
  total_below f [] = positive laws
  total_below f (x ∷ p) = sum_below _ _

  pub total_append : (f : Term → ℕ) (p q : Polynomial) → total R f (p ++ q) ≡ R.sum (total R f p) (total R f q)
  total_append f [] q = sym (zero_plus _ (total_below f q))
  total_append f (x ∷ p) q = ap (R.sum (R.product x.0 (f x.1))) (total_append f p q) ∙ sym (sum_assoc _ _ _)

  pub total_negative : (f : Term → ℕ) (p : Polynomial) → total R f (negative R p) ≡ R.negative (total R f p)
  total_negative f [] = sym negative_zero
  total_negative f (x ∷ p) = (λ i. R.sum (negative_product x.0 (f x.1) i) (total_negative f p i)) ∙ sym (negative_of_sum _ _)

  pub total_difference : (f : Term → ℕ) (p q : Polynomial) → total R f (difference R p q) ≡ R.sum (total R f p) (R.negative (total R f q))
  total_difference f p q = total_append f p (negative R q) ∙ ap (R.sum (total R f p)) (total_negative f q)

  pub total_multiple : (f : Term → ℕ) (c : ℕ) (m : Term) (p : Polynomial) → total R f (multiple R c m p) ≡ R.product c (total R (λ t. f (term.product m t)) p)
  total_multiple f c m [] = sym (product_zero c)
  total_multiple f c m (x ∷ p) =
      (λ i. R.sum (product_assoc c x.0 (f (term.product m x.1)) i) (total_multiple f c m p i)) ∙ sym (product_sum c _ _)

  coefficient_total : (t : Term) (p : Polynomial) → coefficient R p t ≡ total R (indicator t) p
  coefficient_total t [] = refl
  coefficient_total t (x ∷ p) = ⊎_elim (here (coefficient_total t p)) (passed (coefficient_total t p)) (cases_Bool (same x.1 t))
    where
      here : coefficient R p t ≡ total R (indicator t) p → same x.1 t ≡ true → coefficient R (x ∷ p) t ≡ total R (indicator t) (x ∷ p)
      here rest e =
          cond-true _ (R.sum x.0 (coefficient R p t)) (coefficient R p t) e ∙ sym (sum_left laws x.0 (coefficient R p t))
          ∙ (λ i. R.sum (sym (product_one x.0) i) (rest i))
          ∙ ap (λ (k : ℕ). R.sum (R.product x.0 k) (total R (indicator t) p)) (sym (cond-true _ 1 0 e))

      passed : coefficient R p t ≡ total R (indicator t) p → same x.1 t ≡ false → coefficient R (x ∷ p) t ≡ total R (indicator t) (x ∷ p)
      passed rest e =
          cond-false _ (R.sum x.0 (coefficient R p t)) (coefficient R p t) e ∙ rest ∙ sym (zero_plus _ (total_below (indicator t) p))
          ∙ ap (λ (k : ℕ). R.sum k (total R (indicator t) p)) (sym (product_zero x.0))
          ∙ ap (λ (k : ℕ). R.sum (R.product x.0 k) (total R (indicator t) p)) (sym (cond-false _ 1 0 e))

  pub equal_from_totals : (p q : Polynomial) → ((f : Term → ℕ) → total R f p ≡ total R f q) → Equal R p q
  equal_from_totals p q h t = coefficient_total t p ∙ h (indicator t) ∙ sym (coefficient_total t q)

  total_split : (f : Term → ℕ) (m : Term) (p : Polynomial) → total R f p ≡ R.sum (R.product (coefficient R p m) (f m)) (total R f (without m p))
  total_split f m [] = sym (ap (λ (k : ℕ). R.sum k 0) (zero_product (f m)) ∙ laws.sum_zero 0 (positive laws))
  total_split f m (x ∷ p) = ⊎_elim (here (total_split f m p)) (passed (total_split f m p)) (cases_Bool (same x.1 m))
    where
      here : total R f p ≡ R.sum (R.product (coefficient R p m) (f m)) (total R f (without m p)) → same x.1 m ≡ true → total R f (x ∷ p) ≡ R.sum (R.product (coefficient R (x ∷ p) m) (f m)) (total R f (without m (x ∷ p)))
      here rest e =
          (λ i. R.sum (R.product x.0 (f (same_true x.1 m e i))) (rest i)) ∙ sym (sum_assoc _ _ _)
          ∙ ap (λ (k : ℕ). R.sum k (total R f (without m p))) (sym (sum_product x.0 (coefficient R p m) (f m)))
          ∙ (λ i. R.sum (R.product (sym (cond-true _ (R.sum x.0 (coefficient R p m)) (coefficient R p m) e) i) (f m)) (total R f (sym (cond-true _ (without m p) (x ∷ without m p) e) i)))

      passed : total R f p ≡ R.sum (R.product (coefficient R p m) (f m)) (total R f (without m p)) → same x.1 m ≡ false → total R f (x ∷ p) ≡ R.sum (R.product (coefficient R (x ∷ p) m) (f m)) (total R f (without m (x ∷ p)))
      passed rest e =
          ap (R.sum (R.product x.0 (f x.1))) rest ∙ sum_left_comm _ _ _
          ∙ (λ i. R.sum (R.product (sym (cond-false _ (R.sum x.0 (coefficient R p m)) (coefficient R p m) e) i) (f m)) (total R f (sym (cond-false _ (without m p) (x ∷ without m p) e) i)))

  removed_zero : (m : Term) (p : Polynomial) → coefficient R (without m p) m ≡ 0
  removed_zero m [] = refl
  removed_zero m (x ∷ p) = ⊎_elim (here (removed_zero m p)) (passed (removed_zero m p)) (cases_Bool (same x.1 m))
    where
      here : coefficient R (without m p) m ≡ 0 → same x.1 m ≡ true → coefficient R (without m (x ∷ p)) m ≡ 0
      here rest e = ap (λ (r : Polynomial). coefficient R r m) (cond-true _ (without m p) (x ∷ without m p) e) ∙ rest

      passed : coefficient R (without m p) m ≡ 0 → same x.1 m ≡ false → coefficient R (without m (x ∷ p)) m ≡ 0
      passed rest e = ap (λ (r : Polynomial). coefficient R r m) (cond-false _ (without m p) (x ∷ without m p) e) ∙ cond-false _ _ _ e ∙ rest

  kept : (m t : Term) → same m t ≡ false → (p : Polynomial) → coefficient R (without m p) t ≡ coefficient R p t
  kept m t ne [] = refl
  kept m t ne (x ∷ p) = ⊎_elim (here (kept m t ne p)) (passed (kept m t ne p)) (cases_Bool (same x.1 m))
    where
      here : coefficient R (without m p) t ≡ coefficient R p t → same x.1 m ≡ true → coefficient R (without m (x ∷ p)) t ≡ coefficient R (x ∷ p) t
      here rest e =
          ap (λ (r : Polynomial). coefficient R r t) (cond-true _ (without m p) (x ∷ without m p) e) ∙ rest
          ∙ sym (cond-false _ (R.sum x.0 (coefficient R p t)) (coefficient R p t) (ap (λ (u : Term). same u t) (same_true x.1 m e) ∙ ne))

      passed : coefficient R (without m p) t ≡ coefficient R p t → same x.1 m ≡ false → coefficient R (without m (x ∷ p)) t ≡ coefficient R (x ∷ p) t
      passed rest e =
          ap (λ (r : Polynomial). coefficient R r t) (cond-false _ (without m p) (x ∷ without m p) e)
          ∙ (λ i. cond (same x.1 t) (R.sum x.0 (rest i)) (rest i))

  without_length : (m : Term) (p : Polynomial) → length (without m p) ≤ length p
  without_length m [] = omega arith
  without_length m (x ∷ p) = go (same x.1 m) (without_length m p)
    where
      go : (b : Bool) → length (without m p) ≤ length p → length (cond b (without m p) (x ∷ without m p)) ≤ suc (length p)
      go true h = omega arith
      go false h = omega arith

  -- a polynomial whose coefficients are all 0 has total 0 under every weight
  vanishes : (k : ℕ) (r : Polynomial) → length r ≤ k → ((t : Term) → coefficient R r t ≡ 0) → (f : Term → ℕ) → total R f r ≡ 0
  vanishes k [] h zeros f = refl
  vanishes zero (x ∷ r) h zeros f = absurd (omega arith)
  vanishes (suc k) (x ∷ r) h zeros f =
      total_split f m (x ∷ r) ∙ (λ i. R.sum (R.product (zeros m i) (f m)) (vanishes k (without m (x ∷ r)) shorter zero_still f i))
      ∙ ap (λ (j : ℕ). R.sum j 0) (zero_product (f m)) ∙ laws.sum_zero 0 (positive laws)
    where
      m : Term
      m = x.1

      dropped : without m (x ∷ r) ≡ without m r
      dropped = cond-true _ (without m r) (x ∷ without m r) (same_refl m)

      shorter : length (without m (x ∷ r)) ≤ k
      shorter = rw dropped (let l = without_length m r in omega arith)

      zero_still : (t : Term) → coefficient R (without m (x ∷ r)) t ≡ 0
      zero_still t =
          ⊎_elim (λ e. subst (λ (u : Term). coefficient R (without m (x ∷ r)) u ≡ 0) (same_true m t e) (removed_zero m (x ∷ r)))
          (λ e. kept m t e (x ∷ r) ∙ zeros t) (cases_Bool (same m t))

  pub totals_from_equal : (f : Term → ℕ) (p q : Polynomial) → Equal R p q → total R f p ≡ total R f q
  totals_from_equal f p q e =
      sym (read_code _ _ (total_below f p)) ∙ equal_from_difference (total R f p) (total R f q) (sym (total_difference f p q) ∙ all) ∙ read_code _ _ (total_below f q)
    where
      zero_at : (t : Term) → coefficient R (difference R p q) t ≡ 0
      zero_at t =
          coefficient_total t (difference R p q) ∙ total_difference (indicator t) p q
          ∙ ap (λ (k : ℕ). R.sum k (R.negative (total R (indicator t) q))) (sym (coefficient_total t p) ∙ e t ∙ coefficient_total t q)
          ∙ sum_negative _

      all : total R f (difference R p q) ≡ 0
      all = vanishes (length (difference R p q)) (difference R p q) (omega arith) zero_at f
