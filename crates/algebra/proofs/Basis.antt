-- The border basis theorem, and what normal forms mean. Assumes nothing.
use Rattle.std.proofs.Common.{◌≡◌, ℕ, zero, suc, ◌<◌, Bool, true, false, cond, eqb, List, [], ◌∷◌, ◌++◌, length, get_or, sym, refl, ap, ◌∙◌, subst, ⊎_elim, arith}
use Rattle.std.proofs.lemmas.List.{length-map}
use Rattle.std.proofs.lemmas.Bool.{cases_lt, cond-true, cond-false, and_parts, eqb-true}
use Rattle.field.specs.Arithmetic.{Ring, CommutativeRing, read}
use Rattle.field.specs.Laws.{derived, positive, read_code}
use Rattle.algebra.specs.Term.{Term, one, times, word, spelled, has, place, InVariables, Letters}
use Rattle.algebra.specs.Term as term
use Rattle.algebra.specs.Polynomial.{Polynomial, Equal, Over, difference, multiple, product}
use Rattle.algebra.specs.Border.{Row, System, combination, borders, at_place, rule, LawfulSystem, IsRow, AreRows}
use Rattle.algebra.specs.Ideal.{sum_of_multiples, AllOver, InIdeal}
use Rattle.algebra.specs.declared.Entry.{Entry}
use Rattle.algebra.specs.Walk.{zeros, unit, image, map_onto, mapped, last_row, entry_at, step_entries, entries, sum_of_entries, at_one, add_rows, scale, form_onto, normal_form, cofactors, all_zero}
use Rattle.algebra.specs.Clash.{Commute, twice, commutator, commutator_entries, negative_row, negative_entries}
use Rattle.algebra.proofs.Terms.{product_times, product_one, one_product, word_letters, spelled_in_variables, product_in_variables, one_in_variables, has_head, has_tail}
use Rattle.algebra.proofs.Borders.{Distinct, connected_induction, connected_distinct, term_in_variables, get_or_has, place_of, border_distinct, border_multiple, product_leads, not_in_set, rule_past, stands}
use Rattle.algebra.proofs.Totals.{total, zero_plus, total_below, total_append, total_multiple, total_difference, equal_from_totals, totals_from_equal}
use Rattle.algebra.proofs.Rows.{total_agree, rows_equal, zeros_row, add_row, all_zero_zeros, interchange, Codes, total_zeros, at_one_length}
use Rattle.algebra.proofs.Maps.{pull, pull_word, extended, pull_passes, pull_inside, extended_times, total_normal_form}
use Rattle.algebra.proofs.Accounts.{ruled, form_account, commutator_account, negative_account, entries_append}

-- every multiplier of the entries is in the first n variables
abbrev Multipliers : ℕ → List Entry → Type 0
Multipliers n [] = Unit {0}
Multipliers n (e ∷ es) = InVariables n e.multiplier × Multipliers n es

multipliers_append : (n : ℕ) (es fs : List Entry) → Multipliers n es → Multipliers n fs → Multipliers n (es ++ fs)
multipliers_append n [] fs h k = k
multipliers_append n (e ∷ es) fs h k = (h.0, multipliers_append n es fs h.1 k)

entry_multiplier : (n c : ℕ) (m : Term) (k : ℕ) → InVariables n m → Multipliers n (entry_at c m k)
entry_multiplier n c m zero h = tt
entry_multiplier n c m (suc k) h = (h, tt)

cond_multipliers : (n : ℕ) (b : Bool) (es fs : List Entry) → Multipliers n es → Multipliers n fs → Multipliers n (cond b es fs)
cond_multipliers n true es fs h k = h
cond_multipliers n false es fs h k = k

step_multipliers : (n : ℕ) (B : System) (i : ℕ) (m : Term) → InVariables n m → (v : Row) (ts : List Term) → Multipliers n (step_entries B i m v ts)
step_multipliers n B i m h [] ts = tt
step_multipliers n B i m h (c ∷ v) [] = tt
step_multipliers n B i m h (c ∷ v) (t ∷ ts) =
    multipliers_append n _ _ (cond_multipliers n (eqb c 0) [] (entry_at c m (place (times i t) (borders B))) tt (entry_multiplier n c m (place (times i t) (borders B)) h)) (step_multipliers n B i m h v ts)

walk_multipliers : (R : Ring) (B : System) (v : Row) (w : List ℕ) → Letters B.variables w → Multipliers B.variables (entries R B v w)
walk_multipliers R B v [] l = tt
walk_multipliers R B v (i ∷ w) l =
    multipliers_append _ _ _ (step_multipliers B.variables B i (spelled w) (spelled_in_variables B.variables w l.1) v B.terms) (walk_multipliers R B (mapped R B i v) w l.1)

cofactor_multipliers : (R : Ring) (B : System) (p : Polynomial) → Over B.variables p → Multipliers B.variables (cofactors R B p)
cofactor_multipliers R B [] h = tt
cofactor_multipliers R B (x ∷ p) h =
    multipliers_append _ _ _ (walk_multipliers R B _ (word x.1) (word_letters B.variables x.1 h.0)) (cofactor_multipliers R B p h.1)

negative_multipliers : (R : Ring) (n : ℕ) (es : List Entry) → Multipliers n es → Multipliers n (negative_entries R es)
negative_multipliers R n [] h = tt
negative_multipliers R n (e ∷ es) h = (h.0, negative_multipliers R n es h.1)

-- an entry as a polynomial times a rule
abbrev as_multiples : List Entry → List (Polynomial × ℕ)
as_multiples [] = []
as_multiples (e ∷ es) = ((e.code, e.multiplier) ∷ [], e.place) ∷ as_multiples es

as_multiples_over : (n : ℕ) (es : List Entry) → Multipliers n es → AllOver n (as_multiples es)
as_multiples_over n [] h = tt
as_multiples_over n (e ∷ es) h = ((h.0, tt), as_multiples_over n es h.1)

module _ {R : Ring} (laws : CommutativeRing R) (B : System) (good : LawfulSystem B) where
  open derived laws use {sum_comm, sum_assoc, zero_product, product_zero, sum_below, negative_of_sum, sum_negative, negative_zero, equal_from_difference}

  as_multiples_total : (f : Term → ℕ) (es : List Entry) → total R f (sum_of_multiples R B (as_multiples es)) ≡ total R f (sum_of_entries R B es)
  as_multiples_total f [] = refl
  as_multiples_total f (e ∷ es) =
      let x = multiple R e.code e.multiplier (rule R B e.place) in
      total_append laws f (x ++ []) (sum_of_multiples R B (as_multiples es))
      ∙ (λ i. R.sum ((total_append laws f x [] ∙ laws.sum_zero _ (total_below laws f x)) i) (as_multiples_total f es i)) ∙ sym (total_append laws f x (sum_of_entries R B es))

  -- what equals the sum of entries lies in the ideal
  entries_in_ideal : (p : Polynomial) (es : List Entry) → Multipliers B.variables es → ((f : Term → ℕ) → total R f p ≡ total R f (sum_of_entries R B es)) → InIdeal R B p
  entries_in_ideal p es h e = (as_multiples es, as_multiples_over _ es h, equal_from_totals laws _ _ (λ f. e f ∙ sym (as_multiples_total f es)))

  -- rows of the right length
  row_at : (S : List Term) (rs : List Row) (k : ℕ) → AreRows S rs → k < length rs → length (get_or rs k []) ≡ length S
  row_at S [] k h l = absurd (omega arith)
  row_at S (r ∷ rs) zero h l = h.0
  row_at S (r ∷ rs) (suc k) h l = row_at S rs k h.1 (omega arith)

  pub image_length : (i : ℕ) (t : Term) → i < B.variables → has t B.terms ≡ true → length (image B i t) ≡ length B.terms
  image_length i t h k = ⊎_elim inside outside (product_leads B.variables i B.terms t h k)
    where
      inside : has (times i t) B.terms ≡ true → length (image B i t) ≡ length B.terms
      inside e = ap (λ (v : Row). length v) (cond-true _ (unit B.terms (times i t)) _ e) ∙ length-map B.terms _

      outside : has (times i t) (borders B) ≡ true → length (image B i t) ≡ length B.terms
      outside e =
          let s = stands (times i t) (borders B) e in
          ap (λ (v : Row). length v) (cond-false _ (unit B.terms (times i t)) _ (not_in_set B.variables B.terms (times i t) e) ∙ ap (λ (j : ℕ). at_place j B.rows []) s.is_place)
          ∙ row_at B.terms B.rows s.index good.are_rows (omega (arith, s.within, good.all_rules))

  map_onto_row : (i : ℕ) → i < B.variables → (acc v : Row) (ts : List Term) → ((t : Term) → has t ts ≡ true → has t B.terms ≡ true) → IsRow R B.terms acc → IsRow R B.terms (map_onto R B i acc v ts)
  map_onto_row i h acc [] ts within a = a
  map_onto_row i h acc (c ∷ v) [] within a = a
  map_onto_row i h acc (c ∷ v) (t ∷ ts) within a =
      map_onto_row i h (add_rows R acc (scale R c (image B i t))) v ts (λ s k. within s (has_tail s t ts k))
      (add_row laws B.terms acc (scale R c (image B i t)) a.0 (length-map (image B i t) _ ∙ image_length i t h (within t (has_head t ts))))

  pub mapped_row : (i : ℕ) → i < B.variables → (v : Row) → IsRow R B.terms (mapped R B i v)
  mapped_row i h v = map_onto_row i h (zeros B.terms) v B.terms (λ t k. k) (zeros_row laws B.terms)

  pub last_row_length : (v : Row) (w : List ℕ) → Letters B.variables w → length v ≡ length B.terms → length (last_row R B v w) ≡ length B.terms
  last_row_length v [] l h = h
  last_row_length v (i ∷ w) l h = last_row_length (mapped R B i v) w l.1 (mapped_row i l.0 v).0

  form_onto_row : (acc : Row) (p : Polynomial) → Over B.variables p → IsRow R B.terms acc → IsRow R B.terms (form_onto R B acc p)
  form_onto_row acc [] h a = a
  form_onto_row acc (x ∷ p) h a =
      form_onto_row (add_rows R acc (last_row R B (at_one x.0 B.terms) (word x.1))) p h.1
      (add_row laws B.terms acc (last_row R B (at_one x.0 B.terms) (word x.1)) a.0 (last_row_length (at_one x.0 B.terms) (word x.1) (word_letters B.variables x.1 h.0) (at_one_length x.0 B.terms)))

  pub normal_form_row : (p : Polynomial) → Over B.variables p → IsRow R B.terms (normal_form R B p)
  normal_form_row p h = form_onto_row (zeros B.terms) p h (zeros_row laws B.terms)

  pub commutator_row : (a b : ℕ) (t : Term) → a < B.variables → b < B.variables → IsRow R B.terms (commutator R B a b t)
  commutator_row a b t ha hb =
      add_row laws B.terms (twice R B a b t) (negative_row R (twice R B b a t)) (mapped_row a ha _).0 (length-map (twice R B b a t) _ ∙ (mapped_row b hb _).0)

  pub commutator_in_ideal : (a b : ℕ) (t : Term) → a < B.variables → b < B.variables → InIdeal R B (combination (commutator R B a b t) B.terms)
  commutator_in_ideal a b t ha hb =
      let u = unit B.terms t in
      entries_in_ideal (combination (commutator R B a b t) B.terms) (commutator_entries R B a b t)
      (multipliers_append B.variables (entries R B u (a ∷ b ∷ [])) (negative_entries R (entries R B u (b ∷ a ∷ []))) (walk_multipliers R B u (a ∷ b ∷ []) (ha, (hb, tt))) (negative_multipliers R B.variables (entries R B u (b ∷ a ∷ [])) (walk_multipliers R B u (b ∷ a ∷ []) (hb, (ha, tt)))))
      (λ f. commutator_account laws B good f a b t ha hb)

  zero_row : (v : Row) (ts : List Term) → length v ≡ length ts → all_zero v ≡ true → v ≡ zeros ts
  zero_row [] [] h z = refl
  zero_row [] (t ∷ ts) h z = absurd (omega arith)
  zero_row (c ∷ v) [] h z = absurd (omega arith)
  zero_row (c ∷ v) (t ∷ ts) h z = let p = and_parts _ _ z in λ i. eqb-true c 0 p.0 i ∷ zero_row v ts (omega arith) p.1 i

  pub all_zero_total : (f : Term → ℕ) (v : Row) → length v ≡ length B.terms → all_zero v ≡ true → total R f (combination v B.terms) ≡ 0
  all_zero_total f v h z = ap (λ (r : Row). total R f (combination r B.terms)) (zero_row v B.terms h z) ∙ total_zeros laws f B.terms B.terms

  distinct : Distinct B.terms
  distinct = connected_distinct B.variables B.terms good.is_connected

  -- a row all of whose totals are 0 is zero
  row_vanishes : (v : Row) → IsRow R B.terms v → ((f : Term → ℕ) → Codes R f → total R f (combination v B.terms) ≡ 0) → all_zero v ≡ true
  row_vanishes v h z =
      ap all_zero (rows_equal laws v (zeros B.terms) B.terms distinct h (zeros_row laws B.terms) (λ f c. z f c ∙ sym (total_zeros laws f B.terms B.terms)))
      ∙ all_zero_zeros laws B.terms

  pull_word_codes : (f : Term → ℕ) (w : List ℕ) → Codes R f → Codes R (pull_word R B f w)
  pull_word_codes f [] c t = c t
  pull_word_codes f (i ∷ w) c t = total_below laws (pull_word R B f w) (combination (image B i t) B.terms)

  pub zero_form_in_ideal : (p : Polynomial) → Over B.variables p → all_zero (normal_form R B p) ≡ true → InIdeal R B p
  zero_form_in_ideal p h z =
      entries_in_ideal p (cofactors R B p) (cofactor_multipliers R B p h)
      (λ f. form_account laws B good f p h ∙ ap (λ (k : ℕ). R.sum k (total R f (sum_of_entries R B (cofactors R B p)))) (all_zero_total f (normal_form R B p) (normal_form_row p h).0 z)
      ∙ zero_plus laws _ (total_below laws f (sum_of_entries R B (cofactors R B p))))

  pub equal_forms : (p q : Polynomial) → Over B.variables p → Over B.variables q → normal_form R B p ≡ normal_form R B q → InIdeal R B (difference R p q)
  equal_forms p q hp hq e =
      entries_in_ideal (difference R p q) (cofactors R B p ++ negative_entries R (cofactors R B q))
      (multipliers_append _ _ _ (cofactor_multipliers R B p hp) (negative_multipliers R _ _ (cofactor_multipliers R B q hq)))
      (λ f.
      let N = total R f (combination (normal_form R B p) B.terms) in
      let cp = total R f (sum_of_entries R B (cofactors R B p)) in
      let cq = total R f (sum_of_entries R B (cofactors R B q)) in
      let tq : total R f q ≡ R.sum N cq = form_account laws B good f q hq ∙ ap (λ (v : Row). R.sum (total R f (combination v B.terms)) cq) (sym e) in
      total_difference laws f p q ∙ (λ i. R.sum (form_account laws B good f p hp i) ((ap R.negative tq ∙ negative_of_sum N cq) i)) ∙ interchange laws N cp (R.negative N) (R.negative cq)
      ∙ ap (λ (k : ℕ). R.sum k (R.sum cp (R.negative cq))) (sum_negative N) ∙ zero_plus laws _ (sum_below cp (R.negative cq))
      ∙ ap (R.sum cp) (sym (negative_account laws B good f (cofactors R B q))) ∙ sym (entries_append laws B good f (cofactors R B p) (negative_entries R (cofactors R B q))))

  module _ (commute : Commute R B) where
    -- the weight of a product with a term of S, by the walk from 1
    module _ (m : Term) (over : InVariables B.variables m) where
      past : (f : Term → ℕ) (i : ℕ) (s : Term) → i < B.variables → has s B.terms ≡ true → (extended R B (pull R B i f) (term.product m s) ≡ pull_word R B (pull R B i f) (word m) s) → extended R B f (term.product m (times i s)) ≡ pull R B i (pull_word R B f (word m)) s
      past f i s h k known =
          let few = good.few_variables in
          let v = term_in_variables B.variables B.terms good.is_connected s k in
          let pv = product_in_variables B.variables m s over v in
          ap (extended R B f) (product_times i m s (omega (arith, over.0)) (omega (arith, v.0)))
          ∙ extended_times laws B good.is_connected commute f i (term.product m s) (omega (arith, pv.0)) h (word_letters B.variables (term.product m s) pv)
          ∙ known ∙ sym (pull_passes laws B good.is_connected commute f i (word m) h (word_letters B.variables m over) s k)

      extended_product : (t : Term) → has t B.terms ≡ true → (f : Term → ℕ) → Codes R f → extended R B f (term.product m t) ≡ pull_word R B f (word m) t
      extended_product =
          connected_induction B.variables B.terms good.is_connected (λ t. (f : Term → ℕ) → Codes R f → extended R B f (term.product m t) ≡ pull_word R B f (word m) t)
          (λ f c. ap (extended R B f) (product_one m over.0))
          (λ i s h k known l f c.
          past f i s h k (known (pull R B i f) (λ t. total_below laws f (combination (image B i t) B.terms)))
          ∙ pull_inside laws B good.is_connected (pull_word R B f (word m)) i s l ∙ read_code _ _ (pull_word_codes f (word m) c (times i s)))

      -- a product of a variable and a term of S has the weight of its image
      through_image : (f : Term → ℕ) → Codes R f → (i : ℕ) (s : Term) → i < B.variables → has s B.terms ≡ true → extended R B f (term.product m (times i s)) ≡ pull R B i (λ u. extended R B f (term.product m u)) s
      through_image f c i s h k =
          past f i s h k (extended_product s k (pull R B i f) (λ t. total_below laws f (combination (image B i t) B.terms)))
          ∙ total_agree laws _ _ (image B i s) B.terms (λ t l. sym (extended_product t l f c))

      rule_vanishes : (f : Term → ℕ) → Codes R f → (k : ℕ) → total R (λ u. extended R B f (term.product m u)) (rule R B k) ≡ 0
      rule_vanishes f c zero = refl
      rule_vanishes f c (suc k) = ⊎_elim inside (λ h. ap (total R (λ u. extended R B f (term.product m u))) (rule_past R B.terms (borders B) B.rows k h)) (cases_lt k (length (borders B)))
        where
          inside : k < length (borders B) → total R (λ u. extended R B f (term.product m u)) (rule R B (suc k)) ≡ 0
          inside h =
              let e = get_or (borders B) k [] in
              let on = get_or_has (borders B) k h in
              let mu = border_multiple B.variables B.terms e on in
              let i = mu.variable in
              let s = mu.factor in
              let r = ruled laws B good (λ u. extended R B f (term.product m u)) i s (subst (λ (x : Term). has x (borders B) ≡ true) mu.is_product on) in
              let same_index : suc r.index ≡ suc k = sym r.is_place ∙ ap (λ (x : Term). place x (borders B)) (sym mu.is_product) ∙ place_of (borders B) k (border_distinct B.variables B.terms) h in
              ap (λ (j : ℕ). total R (λ u. extended R B f (term.product m u)) (rule R B j)) (sym same_index) ∙ r.weight
              ∙ ap (λ (x : ℕ). R.sum x (R.negative (pull R B i (λ u. extended R B f (term.product m u)) s)))
              (ap (read R.order) (through_image f c i s mu.is_variable mu.is_factor) ∙ read_code _ _ (total_below laws (λ u. extended R B f (term.product m u)) (combination (image B i s) B.terms)))
              ∙ sum_negative _

    product_vanishes : (f : Term → ℕ) → Codes R f → (k : ℕ) (g : Polynomial) → Over B.variables g → total R (extended R B f) (product R g (rule R B k)) ≡ 0
    product_vanishes f c k [] h = refl
    product_vanishes f c k (x ∷ g) h =
        total_append laws (extended R B f) (multiple R x.0 x.1 (rule R B k)) (product R g (rule R B k))
        ∙ (λ i. R.sum ((total_multiple laws (extended R B f) x.0 x.1 (rule R B k) ∙ ap (R.product x.0) (rule_vanishes x.1 h.0 f c k) ∙ product_zero x.0) i) (product_vanishes f c k g h.1 i))
        ∙ zero_plus laws 0 (positive laws)

    multiples_vanish : (f : Term → ℕ) → Codes R f → (gs : List (Polynomial × ℕ)) → AllOver B.variables gs → total R (extended R B f) (sum_of_multiples R B gs) ≡ 0
    multiples_vanish f c [] h = refl
    multiples_vanish f c (g ∷ gs) h =
        total_append laws (extended R B f) (product R g.0 (rule R B g.1)) (sum_of_multiples R B gs)
        ∙ (λ i. R.sum (product_vanishes f c g.1 g.0 h.0 i) (multiples_vanish f c gs h.1 i)) ∙ zero_plus laws 0 (positive laws)

    -- every extended weight vanishes on the ideal
    ideal_vanishes : (f : Term → ℕ) → Codes R f → (p : Polynomial) → InIdeal R B p → total R (extended R B f) p ≡ 0
    ideal_vanishes f c p u = totals_from_equal laws (extended R B f) p (sum_of_multiples R B u.0) u.2 ∙ multiples_vanish f c u.0 u.1

    pub independent : (r : Row) → IsRow R B.terms r → InIdeal R B (combination r B.terms) → all_zero r ≡ true
    independent r h u =
        row_vanishes r h
        (λ f c.
        total_agree laws f (extended R B f) r B.terms
        (λ t k. sym (ap (extended R B f) (sym (one_product t (term_in_variables B.variables B.terms good.is_connected t k).0)) ∙ extended_product one (one_in_variables B.variables) t k f c))
        ∙ ideal_vanishes f c (combination r B.terms) u)

    pub member_form : (p : Polynomial) → Over B.variables p → InIdeal R B p → all_zero (normal_form R B p) ≡ true
    member_form p h u = row_vanishes (normal_form R B p) (normal_form_row p h) (λ f c. total_normal_form laws B good.is_connected f p ∙ ideal_vanishes f c p u)

    forms_equal : (p q : Polynomial) → Over B.variables p → Over B.variables q → ((f : Term → ℕ) → Codes R f → total R (extended R B f) p ≡ total R (extended R B f) q) → normal_form R B p ≡ normal_form R B q
    forms_equal p q hp hq e =
        rows_equal laws (normal_form R B p) (normal_form R B q) B.terms distinct (normal_form_row p hp) (normal_form_row q hq)
        (λ f c. total_normal_form laws B good.is_connected f p ∙ e f c ∙ sym (total_normal_form laws B good.is_connected f q))

    pub equal_classes : (p q : Polynomial) → Over B.variables p → Over B.variables q → InIdeal R B (difference R p q) → normal_form R B p ≡ normal_form R B q
    equal_classes p q hp hq u =
        forms_equal p q hp hq
        (λ f c.
        let w = extended R B f in
        sym (read_code _ _ (total_below laws w p))
        ∙ equal_from_difference (total R w p) (total R w q) (sym (total_difference laws w p q) ∙ ideal_vanishes f c (difference R p q) u)
        ∙ read_code _ _ (total_below laws w q))

    pub written_alike : (p q : Polynomial) → Over B.variables p → Over B.variables q → Equal R p q → normal_form R B p ≡ normal_form R B q
    written_alike p q hp hq e = forms_equal p q hp hq (λ f c. totals_from_equal laws (extended R B f) p q e)
