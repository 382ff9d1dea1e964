-- Rows under weights: the total of a row's combination is linear in the row. Assumes nothing.
use Rattle.std.proofs.Common.{◌≡◌, ℕ, suc, ◌<◌, true, false, List, [], ◌∷◌, map, length, sym, refl, ap, ◌∙◌, ⊎_elim, arith}
use Rattle.std.proofs.lemmas.List.{length-map}
use Rattle.std.proofs.lemmas.Bool.{cases_Bool, cond-true, cond-false, cond_both, both_ways, or_parts, and_parts, eqb-true}
use Rattle.field.specs.Arithmetic.{Ring, CommutativeRing, read}
use Rattle.field.specs.Laws.{derived, positive, read_code, sum_right}
use Rattle.algebra.specs.Term.{Term, same, has}
use Rattle.algebra.specs.Border.{Row, combination, codes_below, IsRow}
use Rattle.algebra.specs.Walk.{zeros, add_rows, scale, unit, at_one, all_zero}
use Rattle.algebra.specs.Clash.{negative_row}
use Rattle.algebra.proofs.Terms.{same_true, same_refl, same_sym, apart, has_head, has_tail, has_cases}
use Rattle.algebra.proofs.Borders.{Distinct}
use Rattle.algebra.proofs.Totals.{indicator, total, zero_plus, total_below}

-- a weight whose values are codes
abbrev pub Codes : Ring → (Term → ℕ) → Type 0
Codes R f = (t : Term) → f t < R.order

module _ {R : Ring} (laws : CommutativeRing R) where
  open derived laws use {sum_comm, sum_assoc, sum_left_comm, product_assoc, product_sum, sum_product, zero_product, product_zero, one_product, product_one, sum_below, negative_below, product_below, sum_negative, negative_zero, negative_of_sum, negative_product, equal_from_difference}

  pub interchange : (a b x y : ℕ) → R.sum (R.sum a b) (R.sum x y) ≡ R.sum (R.sum a x) (R.sum b y)
  interchange a b x y = sum_assoc a b (R.sum x y) ∙ ap (R.sum a) (sum_left_comm b x y) ∙ sym (sum_assoc a x (R.sum b y))

  pub total_add : (f : Term → ℕ) (v w : Row) (ts : List Term) → total R f (combination (add_rows R v w) ts) ≡ R.sum (total R f (combination v ts)) (total R f (combination w ts))
  total_add f [] w ts = sym (zero_plus laws _ (total_below laws f (combination w ts)))
  total_add f (a ∷ v) [] ts = sym (laws.sum_zero _ (total_below laws f (combination (a ∷ v) ts)))
  total_add f (a ∷ v) (b ∷ w) [] = sym (zero_plus laws 0 (positive laws))
  total_add f (a ∷ v) (b ∷ w) (t ∷ ts) = (λ i. R.sum (sum_product a b (f t) i) (total_add f v w ts i)) ∙ interchange _ _ _ _

  pub total_scale : (f : Term → ℕ) (c : ℕ) (v : Row) (ts : List Term) → total R f (combination (scale R c v) ts) ≡ R.product c (total R f (combination v ts))
  total_scale f c [] ts = sym (product_zero c)
  total_scale f c (a ∷ v) [] = sym (product_zero c)
  total_scale f c (a ∷ v) (t ∷ ts) = (λ i. R.sum (product_assoc c a (f t) i) (total_scale f c v ts i)) ∙ sym (product_sum c _ _)

  pub total_negative_row : (f : Term → ℕ) (v : Row) (ts : List Term) → total R f (combination (negative_row R v) ts) ≡ R.negative (total R f (combination v ts))
  total_negative_row f [] ts = sym negative_zero
  total_negative_row f (a ∷ v) [] = sym negative_zero
  total_negative_row f (a ∷ v) (t ∷ ts) = (λ i. R.sum (negative_product a (f t) i) (total_negative_row f v ts i)) ∙ sym (negative_of_sum _ _)

  pub total_zeros : (f : Term → ℕ) (us ts : List Term) → total R f (combination (zeros us) ts) ≡ 0
  total_zeros f [] ts = refl
  total_zeros f (u ∷ us) [] = refl
  total_zeros f (u ∷ us) (t ∷ ts) = (λ i. R.sum (zero_product (f t) i) (total_zeros f us ts i)) ∙ zero_plus laws 0 (positive laws)

  pub total_at_one : (f : Term → ℕ) (c : ℕ) (t : Term) (ts : List Term) → total R f (combination (at_one c (t ∷ ts)) (t ∷ ts)) ≡ R.product c (f t)
  total_at_one f c t ts = ap (R.sum (R.product c (f t))) (total_zeros f ts ts) ∙ laws.sum_zero _ (product_below c (f t))

  -- the row of a term that is not there is 0
  total_unit_absent : (f : Term → ℕ) (t : Term) (ts : List Term) → has t ts ≡ false → total R f (combination (unit ts t) ts) ≡ 0
  total_unit_absent f t [] h = refl
  total_unit_absent f t (u ∷ ts) h =
      let p = or_parts (same t u) (has t ts) h in
      (λ i. R.sum (R.product (cond-false _ 1 0 (same_sym t u p.0) i) (f u)) (total_unit_absent f t ts p.1 i))
      ∙ ap (λ (k : ℕ). R.sum k 0) (zero_product (f u)) ∙ zero_plus laws 0 (positive laws)

  pub total_unit : (f : Term → ℕ) (t : Term) (ts : List Term) → Distinct ts → has t ts ≡ true → total R f (combination (unit ts t) ts) ≡ read R.order (f t)
  total_unit f t [] d h = absurd (both_ways false refl h)
  total_unit f t (u ∷ ts) d h = ⊎_elim here (passed (total_unit f t ts d.1)) (cases_Bool (same u t))
    where
      here : same u t ≡ true → total R f (combination (unit (u ∷ ts) t) (u ∷ ts)) ≡ read R.order (f t)
      here e =
          let p = same_true u t e in
          (λ i. R.sum (R.product (cond-true _ 1 0 e i) (f (p i))) (total_unit_absent f t ts (ap (λ (s : Term). has s ts) (sym p) ∙ d.0) i))
          ∙ laws.sum_zero _ (product_below 1 (f t)) ∙ one_product (f t)

      passed : (has t ts ≡ true → total R f (combination (unit ts t) ts) ≡ read R.order (f t)) → same u t ≡ false → total R f (combination (unit (u ∷ ts) t) (u ∷ ts)) ≡ read R.order (f t)
      passed rest e =
          let k : has t ts ≡ true = ⊎_elim (λ q. absurd (apart u t e (sym q))) (λ q. q) (has_cases t u ts h) in
          (λ i. R.sum (R.product (cond-false _ 1 0 e i) (f u)) (rest k i))
          ∙ ap (λ (j : ℕ). R.sum j (read R.order (f t))) (zero_product (f u)) ∙ sum_right laws 0 (f t) ∙ (derived laws).zero_sum (f t)

  -- two weights that agree on the terms give a row the same total
  pub total_agree : (f g : Term → ℕ) (v : Row) (ts : List Term) → ((t : Term) → has t ts ≡ true → f t ≡ g t) → total R f (combination v ts) ≡ total R g (combination v ts)
  total_agree f g [] ts h = refl
  total_agree f g (c ∷ v) [] h = refl
  total_agree f g (c ∷ v) (t ∷ ts) h =
      λ i. R.sum (R.product c (h t (has_head t ts) i)) (total_agree f g v ts (λ s k. h s (has_tail s t ts k)) i)

  -- rows of codes for distinct terms are equal where all totals are
  total_indicator_absent : (t : Term) (v : Row) (ts : List Term) → has t ts ≡ false → total R (indicator t) (combination v ts) ≡ 0
  total_indicator_absent t [] ts h = refl
  total_indicator_absent t (c ∷ v) [] h = refl
  total_indicator_absent t (c ∷ v) (u ∷ ts) h =
      let p = or_parts (same t u) (has t ts) h in
      (λ i. R.sum (R.product c (cond-false _ 1 0 (same_sym t u p.0) i)) (total_indicator_absent t v ts p.1 i))
      ∙ ap (λ (k : ℕ). R.sum k 0) (product_zero c) ∙ zero_plus laws 0 (positive laws)

  total_indicator_head : (t : Term) (c : ℕ) (v : Row) (ts : List Term) → c < R.order → has t ts ≡ false → total R (indicator t) (combination (c ∷ v) (t ∷ ts)) ≡ c
  total_indicator_head t c v ts h new =
      (λ i. R.sum (R.product c (cond-true _ 1 0 (same_refl t) i)) (total_indicator_absent t v ts new i))
      ∙ laws.sum_zero _ (product_below c 1) ∙ product_one c ∙ read_code _ c h

  indicator_code : (t : Term) → Codes R (indicator t)
  indicator_code t s = cond_both (same s t) 1 0 (λ x. x < R.order) (λ _. laws.order_low) (λ _. positive laws)

  pub rows_equal : (v w : Row) (ts : List Term) → Distinct ts → IsRow R ts v → IsRow R ts w → ((f : Term → ℕ) → Codes R f → total R f (combination v ts) ≡ total R f (combination w ts)) → v ≡ w
  rows_equal [] [] ts d a b h = refl
  rows_equal [] (y ∷ w) ts d a b h = let p = a.0 in let q = b.0 in absurd (omega arith)
  rows_equal (x ∷ v) [] ts d a b h = let p = a.0 in let q = b.0 in absurd (omega arith)
  rows_equal (x ∷ v) (y ∷ w) [] d a b h = let p = a.0 in absurd (omega arith)
  rows_equal (x ∷ v) (y ∷ w) (t ∷ ts) d a b h =
      let head : x ≡ y = sym (total_indicator_head t x v ts a.1.0 d.0) ∙ h (indicator t) (indicator_code t) ∙ total_indicator_head t y w ts b.1.0 d.0 in
      let p = a.0 in
      let q = b.0 in
      let tail : v ≡ w = rows_equal v w ts d.1 (omega arith, a.1.1) (omega arith, b.1.1) (λ f cs. cancel (R.product x (f t)) _ _ (total_below laws f (combination v ts)) (total_below laws f (combination w ts)) (h f cs ∙ ap (λ (k : ℕ). R.sum (R.product k (f t)) (total R f (combination w ts))) (sym head))) in
      λ i. head i ∷ tail i
    where
      cancel : (a b c : ℕ) → b < R.order → c < R.order → R.sum a b ≡ R.sum a c → b ≡ c
      cancel a b c hb hc e =
          sym (zero_plus laws b hb) ∙ ap (λ (k : ℕ). R.sum k b) (sym ((derived laws).negative_sum a)) ∙ sum_assoc (R.negative a) a b
          ∙ ap (R.sum (R.negative a)) e ∙ sym (sum_assoc (R.negative a) a c) ∙ ap (λ (k : ℕ). R.sum k c) ((derived laws).negative_sum a) ∙ zero_plus laws c hc

  -- which operations give rows
  pub zeros_row : (ts : List Term) → IsRow R ts (zeros ts)
  zeros_row [] = (refl, tt)
  zeros_row (t ∷ ts) = let r = zeros_row ts in (ap suc r.0, (positive laws, r.1))

  pub add_row : (ts : List Term) (v w : Row) → length v ≡ length ts → length w ≡ length ts → IsRow R ts (add_rows R v w)
  add_row [] [] [] h k = (refl, tt)
  add_row [] [] (b ∷ w) h k = absurd (omega arith)
  add_row [] (a ∷ v) w h k = absurd (omega arith)
  add_row (t ∷ ts) [] w h k = absurd (omega arith)
  add_row (t ∷ ts) (a ∷ v) [] h k = absurd (omega arith)
  add_row (t ∷ ts) (a ∷ v) (b ∷ w) h k = let r = add_row ts v w (omega arith) (omega arith) in (ap suc r.0, (sum_below a b, r.1))

  -- rows whose difference is zero are equal
  pub difference_zero : (v w : Row) → length v ≡ length w → codes_below R.order v → codes_below R.order w → all_zero (add_rows R v (negative_row R w)) ≡ true → v ≡ w
  difference_zero [] [] h a b z = refl
  difference_zero [] (y ∷ w) h a b z = absurd (omega arith)
  difference_zero (x ∷ v) [] h a b z = absurd (omega arith)
  difference_zero (x ∷ v) (y ∷ w) h a b z =
      let p = and_parts _ _ z in
      let head : x ≡ y = sym (read_code _ x a.0) ∙ equal_from_difference x y (eqb-true _ 0 p.0) ∙ read_code _ y b.0 in
      λ i. head i ∷ difference_zero v w (omega arith) a.1 b.1 p.1 i

  pub all_zero_zeros : (ts : List Term) → all_zero (zeros ts) ≡ true
  all_zero_zeros [] = refl
  all_zero_zeros (t ∷ ts) = all_zero_zeros ts

pub map_length : {A B : Type 0} (f : A → B) (xs : List A) → length (map f xs) ≡ length xs
map_length f [] = refl
map_length f (x ∷ xs) = ap suc (map_length f xs)

pub at_one_length : (c : ℕ) (ts : List Term) → length (at_one c ts) ≡ length ts
at_one_length c [] = refl
at_one_length c (t ∷ ts) = ap suc (length-map ts _)
