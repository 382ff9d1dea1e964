-- Every walk accounts for itself: a row's combination times a word is the last row's combination plus the entries.
-- Nothing is assumed of the rules. Assumes nothing.
use Rattle.std.proofs.Common.{◌≡◌, ℕ, suc, ◌<◌, true, false, cond, eqb, List, [], ◌∷◌, ◌++◌, length, get_or, sym, refl, ap, ◌∙◌, ⊎_elim, arith}
use Rattle.std.proofs.lemmas.Bool.{cases_Bool, cond-true, cond-false, eqb-true}
use Rattle.field.specs.Arithmetic.{Ring, CommutativeRing, read}
use Rattle.field.specs.Laws.{derived, positive, read_code, read_read, product_right}
use Rattle.algebra.specs.Term.{Term, one, times, word, spelled, has, place, InVariables, Letters}
use Rattle.algebra.specs.Term as term
use Rattle.algebra.specs.Polynomial.{Polynomial, Equal, Over, multiple}
use Rattle.algebra.specs.Border.{Row, System, combination, borders, at_place, rule, LawfulSystem}
use Rattle.algebra.specs.declared.Entry.{Entry}
use Rattle.algebra.specs.Walk.{unit, image, mapped, last_row, entry_at, step_entries, entries, sum_of_entries, zeros, at_one, add_rows, form_onto, normal_form, cofactors}
use Rattle.algebra.specs.Clash.{twice, commutator, commutator_entries, negative_row, negative_entries}
use Rattle.algebra.proofs.Terms.{has_head, has_tail, times_product, one_product, product_one, spelled_word, spelled_length, times_comm, word_letters}
use Rattle.algebra.proofs.Borders.{stands, product_leads, not_in_border, not_in_set, place_absent, rule_at, term_in_variables, first_term}
use Rattle.algebra.proofs.Totals.{total, zero_plus, total_below, total_append, total_negative, total_multiple, equal_from_totals}
use Rattle.algebra.proofs.Rows.{interchange, total_add, total_zeros, total_at_one, total_agree, total_negative_row}
use Rattle.algebra.proofs.Maps.{pull, total_mapped, pull_inside}

module _ {R : Ring} (laws : CommutativeRing R) (B : System) (good : LawfulSystem B) where
  open derived laws use {sum_comm, sum_assoc, sum_left_comm, product_sum, zero_product, product_zero, one_product as code_one_product, sum_below, product_below, negative_product, negative_of_sum, negative_zero, sum_negative, negative_sum}

  -- a border product has a rule, whose weight is that of the product less that of its row
  pub record Ruled (F : Term → ℕ) (i : ℕ) (t : Term) : Type 0 where
    pub index : ℕ
    pub within : index < length (borders B)
    pub is_place : place (times i t) (borders B) ≡ suc index
    pub weight : total R F (rule R B (suc index)) ≡ R.sum (read R.order (F (times i t))) (R.negative (pull R B i F t))

  pub ruled : (F : Term → ℕ) (i : ℕ) (t : Term) → has (times i t) (borders B) ≡ true → Ruled F i t
  ruled F i t h =
      let s = stands (times i t) (borders B) h in
      let row : image B i t ≡ get_or B.rows s.index [] =
      cond-false _ (unit B.terms (times i t)) _ (not_in_set B.variables B.terms (times i t) h) ∙ ap (λ (k : ℕ). at_place k B.rows []) s.is_place in
      record {
        index = s.index;
        within = s.within;
        is_place = s.is_place;
        weight =
            ap (total R F) (rule_at R B.terms (borders B) B.rows s.index s.within good.all_rules)
            ∙ (λ j. R.sum (R.product 1 (F (s.is_there j))) (total_negative laws F (combination (get_or B.rows s.index []) B.terms) j))
            ∙ (λ j. R.sum (code_one_product (F (times i t)) j) (R.negative (total R F (combination (sym row j) B.terms))));
      }

  pub entries_append : (f : Term → ℕ) (es fs : List Entry) → total R f (sum_of_entries R B (es ++ fs)) ≡ R.sum (total R f (sum_of_entries R B es)) (total R f (sum_of_entries R B fs))
  entries_append f [] fs = sym (zero_plus laws _ (total_below laws f (sum_of_entries R B fs)))
  entries_append f (e ∷ es) fs =
      total_append laws f (multiple R e.code e.multiplier (rule R B e.place)) (sum_of_entries R B (es ++ fs))
      ∙ ap (R.sum (total R f (multiple R e.code e.multiplier (rule R B e.place)))) (entries_append f es fs) ∙ sym (sum_assoc _ _ _)
      ∙ ap (λ (k : ℕ). R.sum k (total R f (sum_of_entries R B fs))) (sym (total_append laws f (multiple R e.code e.multiplier (rule R B e.place)) (sum_of_entries R B es)))

  one_entry : (f : Term → ℕ) (c : ℕ) (m : Term) (k : ℕ) → total R f (sum_of_entries R B (entry_at c m (suc k))) ≡ R.product c (total R (λ u. f (term.product m u)) (rule R B (suc k)))
  one_entry f c m k =
      total_append laws f (multiple R c m (rule R B (suc k))) [] ∙ laws.sum_zero _ (total_below laws f (multiple R c m (rule R B (suc k))))
      ∙ total_multiple laws f c m (rule R B (suc k))

  -- one code of a step
  module _ (f : Term → ℕ) (i : ℕ) (m : Term) (variable : i < B.variables) (long : length m ≡ 8) where
    abbrev after : Term → ℕ
    after u = f (term.product m u)

    abbrev listed : ℕ → Term → List Entry
    listed c t = cond (eqb c 0) [] (entry_at c m (place (times i t) (borders B)))

    moved : (t : Term) → has t B.terms ≡ true → f (term.product (times i m) t) ≡ after (times i t)
    moved t h =
        let few = good.few_variables in
        let v = term_in_variables B.variables B.terms good.is_connected t h in
        ap f (times_product i m t (omega arith) (omega (arith, v.0)))

    one_code : (c : ℕ) (t : Term) → has t B.terms ≡ true → R.product c (f (term.product (times i m) t)) ≡ R.sum (R.product c (pull R B i after t)) (total R f (sum_of_entries R B (listed c t)))
    one_code c t h = ⊎_elim none some (cases_Bool (eqb c 0))
      where
        none : eqb c 0 ≡ true → R.product c (f (term.product (times i m) t)) ≡ R.sum (R.product c (pull R B i after t)) (total R f (sum_of_entries R B (listed c t)))
        none e =
            let z = eqb-true c 0 e in
            ap (λ (k : ℕ). R.product k (f (term.product (times i m) t))) z ∙ zero_product _ ∙ sym (zero_plus laws 0 (positive laws))
            ∙ (λ j. R.sum (sym (ap (λ (k : ℕ). R.product k (pull R B i after t)) z ∙ zero_product _) j) (total R f (sum_of_entries R B (sym (cond-true _ [] (entry_at c m (place (times i t) (borders B))) e) j))))

        inside : eqb c 0 ≡ false → has (times i t) B.terms ≡ true → R.product c (f (term.product (times i m) t)) ≡ R.sum (R.product c (pull R B i after t)) (total R f (sum_of_entries R B (listed c t)))
        inside e k =
            let nothing : listed c t ≡ [] =
            cond-false _ [] (entry_at c m (place (times i t) (borders B))) e ∙ ap (entry_at c m) (place_absent (times i t) (borders B) (not_in_border B.variables B.terms (times i t) k)) in
            ap (R.product c) (moved t h) ∙ sym (product_right laws c (after (times i t))) ∙ ap (R.product c) (sym (pull_inside laws B good.is_connected after i t k))
            ∙ sym (laws.sum_zero _ (product_below c (pull R B i after t))) ∙ ap (λ (es : List Entry). R.sum (R.product c (pull R B i after t)) (total R f (sum_of_entries R B es))) (sym nothing)

        outside : eqb c 0 ≡ false → has (times i t) (borders B) ≡ true → R.product c (f (term.product (times i m) t)) ≡ R.sum (R.product c (pull R B i after t)) (total R f (sum_of_entries R B (listed c t)))
        outside e k =
            let r = ruled after i t k in
            let P = pull R B i after t in
            let X = read R.order (after (times i t)) in
            let something : listed c t ≡ entry_at c m (suc r.index) = cond-false _ [] (entry_at c m (place (times i t) (borders B))) e ∙ ap (entry_at c m) r.is_place in
            let whole : R.sum P (R.sum X (R.negative P)) ≡ X =
            sum_left_comm P X (R.negative P) ∙ ap (R.sum X) (sum_negative P) ∙ (derived laws).sum_zero X ∙ read_read _ (after (times i t)) (positive laws) in
            ap (R.product c) (moved t h) ∙ sym (product_right laws c (after (times i t))) ∙ ap (R.product c) (sym whole) ∙ product_sum c P _
            ∙ ap (R.sum (R.product c P)) (ap (R.product c) (sym r.weight) ∙ sym (one_entry f c m r.index) ∙ ap (λ (es : List Entry). total R f (sum_of_entries R B es)) (sym something))

        some : eqb c 0 ≡ false → R.product c (f (term.product (times i m) t)) ≡ R.sum (R.product c (pull R B i after t)) (total R f (sum_of_entries R B (listed c t)))
        some e = ⊎_elim (inside e) (outside e) (product_leads B.variables i B.terms t variable h)

    step_account : (v : Row) (ts : List Term) → ((t : Term) → has t ts ≡ true → has t B.terms ≡ true) → total R (λ t. f (term.product (times i m) t)) (combination v ts) ≡ R.sum (total R (pull R B i after) (combination v ts)) (total R f (sum_of_entries R B (step_entries B i m v ts)))
    step_account [] ts within = sym (zero_plus laws 0 (positive laws))
    step_account (c ∷ v) [] within = sym (zero_plus laws 0 (positive laws))
    step_account (c ∷ v) (t ∷ ts) within =
        (λ j. R.sum (one_code c t (within t (has_head t ts)) j) (step_account v ts (λ s k. within s (has_tail s t ts k)) j)) ∙ interchange laws _ _ _ _
        ∙ ap (R.sum (R.sum (R.product c (pull R B i after t)) (total R (pull R B i after) (combination v ts)))) (sym (entries_append f (listed c t) (step_entries B i m v ts)))

  walk_account : (f : Term → ℕ) (v : Row) (w : List ℕ) → Letters B.variables w → total R (λ t. f (term.product (spelled w) t)) (combination v B.terms) ≡ R.sum (total R f (combination (last_row R B v w) B.terms)) (total R f (sum_of_entries R B (entries R B v w)))
  walk_account f v [] l =
      total_agree laws (λ t. f (term.product one t)) f v B.terms (λ t h. ap f (one_product t (term_in_variables B.variables B.terms good.is_connected t h).0))
      ∙ sym (laws.sum_zero _ (total_below laws f (combination v B.terms)))
  walk_account f v (i ∷ w) l =
      step_account f i (spelled w) l.0 (spelled_length w) v B.terms (λ t h. h)
      ∙ ap (λ (k : ℕ). R.sum k (total R f (sum_of_entries R B (step_entries B i (spelled w) v B.terms))))
      (sym (total_mapped laws B (λ u. f (term.product (spelled w) u)) i v) ∙ walk_account f (mapped R B i v) w l.1)
      ∙ sum_assoc _ _ _ ∙ ap (R.sum (total R f (combination (last_row R B v (i ∷ w)) B.terms))) (sum_comm _ _ ∙ sym (entries_append f (step_entries B i (spelled w) v B.terms) (entries R B (mapped R B i v) w)))

  pub walks_account : (v : Row) (w : List ℕ) → Letters B.variables w → Equal R (multiple R 1 (spelled w) (combination v B.terms)) (combination (last_row R B v w) B.terms ++ sum_of_entries R B (entries R B v w))
  walks_account v w l =
      equal_from_totals laws _ _
      (λ f. total_multiple laws f 1 (spelled w) (combination v B.terms) ∙ code_one_product _ ∙ read_code _ _ (total_below laws (λ t. f (term.product (spelled w) t)) (combination v B.terms))
      ∙ walk_account f v w l ∙ sym (total_append laws f (combination (last_row R B v w) B.terms) (sum_of_entries R B (entries R B v w))))

  -- one pair of a polynomial
  pair_account : (f : Term → ℕ) (c : ℕ) (m : Term) → InVariables B.variables m → R.product c (f m) ≡ R.sum (total R f (combination (last_row R B (at_one c B.terms) (word m)) B.terms)) (total R f (sum_of_entries R B (entries R B (at_one c B.terms) (word m))))
  pair_account f c m h =
      let s = first_term B.variables B.terms good.is_connected in
      ap (λ (t : Term). R.product c (f t)) (sym (ap (λ (u : Term). term.product u one) (spelled_word m h.0) ∙ product_one m h.0))
      ∙ sym (ap (λ (ts : List Term). total R (λ t. f (term.product (spelled (word m)) t)) (combination (at_one c ts) ts)) s.1 ∙ total_at_one laws (λ t. f (term.product (spelled (word m)) t)) c one s.0)
      ∙ walk_account f (at_one c B.terms) (word m) (word_letters B.variables m h)

  polynomial_account : (f : Term → ℕ) (acc : Row) (p : Polynomial) → Over B.variables p → R.sum (total R f (combination acc B.terms)) (total R f p) ≡ R.sum (total R f (combination (form_onto R B acc p) B.terms)) (total R f (sum_of_entries R B (cofactors R B p)))
  polynomial_account f acc [] h = refl
  polynomial_account f acc (x ∷ p) h =
      let L = last_row R B (at_one x.0 B.terms) (word x.1) in
      let E = entries R B (at_one x.0 B.terms) (word x.1) in
      let A = total R f (combination acc B.terms) in
      let tL = total R f (combination L B.terms) in
      let tE = total R f (sum_of_entries R B E) in
      let P = total R f p in
      ap (λ (k : ℕ). R.sum A (R.sum k P)) (pair_account f x.0 x.1 h.0)
      ∙ ap (R.sum A) (sum_assoc tL tE P ∙ ap (R.sum tL) (sum_comm tE P) ∙ sym (sum_assoc tL P tE)) ∙ sym (sum_assoc A (R.sum tL P) tE)
      ∙ ap (λ (k : ℕ). R.sum k tE) (sym (sum_assoc A tL P) ∙ ap (λ (k : ℕ). R.sum k P) (sym (total_add laws f acc L B.terms)) ∙ polynomial_account f (add_rows R acc L) p h.1)
      ∙ sum_assoc _ _ _
      ∙ ap (R.sum (total R f (combination (form_onto R B acc (x ∷ p)) B.terms))) (sum_comm _ _ ∙ sym (entries_append f E (cofactors R B p)))

  -- a polynomial under a weight is its normal form and its cofactors
  pub form_account : (f : Term → ℕ) (p : Polynomial) → Over B.variables p → total R f p ≡ R.sum (total R f (combination (normal_form R B p) B.terms)) (total R f (sum_of_entries R B (cofactors R B p)))
  form_account f p h =
      sym (zero_plus laws _ (total_below laws f p)) ∙ ap (λ (k : ℕ). R.sum k (total R f p)) (sym (total_zeros laws f B.terms B.terms))
      ∙ polynomial_account f (zeros B.terms) p h

  pub forms_account : (p : Polynomial) → Over B.variables p → Equal R p (combination (normal_form R B p) B.terms ++ sum_of_entries R B (cofactors R B p))
  forms_account p h = equal_from_totals laws _ _ (λ f. form_account f p h ∙ sym (total_append laws f (combination (normal_form R B p) B.terms) (sum_of_entries R B (cofactors R B p))))

  pub negative_account : (f : Term → ℕ) (es : List Entry) → total R f (sum_of_entries R B (negative_entries R es)) ≡ R.negative (total R f (sum_of_entries R B es))
  negative_account f [] = sym negative_zero
  negative_account f (e ∷ es) =
      let r = rule R B e.place in
      total_append laws f (multiple R (R.negative e.code) e.multiplier r) (sum_of_entries R B (negative_entries R es))
      ∙ (λ i. R.sum ((total_multiple laws f (R.negative e.code) e.multiplier r ∙ negative_product e.code _ ∙ ap R.negative (sym (total_multiple laws f e.code e.multiplier r))) i) (negative_account f es i))
      ∙ sym (negative_of_sum _ _) ∙ ap R.negative (sym (total_append laws f (multiple R e.code e.multiplier r) (sum_of_entries R B es)))

  -- where p and x come to the same as r and y, r less p is x less y
  crossed : (p x r y : ℕ) → x < R.order → r < R.order → R.sum p x ≡ R.sum r y → R.sum r (R.negative p) ≡ R.sum x (R.negative y)
  crossed p x r y hx hr e =
      let lost : R.sum (R.sum r y) (R.negative y) ≡ r = sum_assoc r y (R.negative y) ∙ ap (R.sum r) (sum_negative y) ∙ laws.sum_zero r hr in
      ap (λ (k : ℕ). R.sum k (R.negative p)) (sym lost ∙ ap (λ (k : ℕ). R.sum k (R.negative y)) (sym e ∙ sum_comm p x) ∙ sum_assoc x p (R.negative y) ∙ ap (R.sum x) (sum_comm p (R.negative y)) ∙ sym (sum_assoc x (R.negative y) p))
      ∙ sum_assoc _ p (R.negative p) ∙ ap (R.sum (R.sum x (R.negative y))) (sum_negative p) ∙ laws.sum_zero _ (sum_below x (R.negative y))

  pub commutator_account : (f : Term → ℕ) (a b : ℕ) (t : Term) → a < B.variables → b < B.variables → total R f (combination (commutator R B a b t) B.terms) ≡ total R f (sum_of_entries R B (commutator_entries R B a b t))
  commutator_account f a b t ha hb =
      let u = unit B.terms t in
      let ab = entries R B u (a ∷ b ∷ []) in
      let ba = entries R B u (b ∷ a ∷ []) in
      let tie : R.sum (total R f (combination (twice R B b a t) B.terms)) (total R f (sum_of_entries R B ab)) ≡ R.sum (total R f (combination (twice R B a b t) B.terms)) (total R f (sum_of_entries R B ba)) =
      sym (walk_account f u (a ∷ b ∷ []) (ha, (hb, tt))) ∙ ap (λ (m : Term). total R (λ s. f (term.product m s)) (combination u B.terms)) (times_comm a b one) ∙ walk_account f u (b ∷ a ∷ []) (hb, (ha, tt)) in
      total_add laws f (twice R B a b t) (negative_row R (twice R B b a t)) B.terms
      ∙ ap (R.sum (total R f (combination (twice R B a b t) B.terms))) (total_negative_row laws f (twice R B b a t) B.terms)
      ∙ crossed _ _ _ _ (total_below laws f (sum_of_entries R B ab)) (total_below laws f (combination (twice R B a b t) B.terms)) tie
      ∙ ap (R.sum (total R f (sum_of_entries R B ab))) (sym (negative_account f ba)) ∙ sym (entries_append f ab (negative_entries R ba))
