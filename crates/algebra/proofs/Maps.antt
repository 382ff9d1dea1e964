-- The linear maps seen from weights: mapping a row by a variable is pulling the weight back. Assumes nothing.
use Rattle.std.proofs.Common.{◌≡◌, ℕ, zero, suc, ◌+◌, ◌<◌, true, List, [], ◌∷◌, ◌++◌, length, replicate, sym, refl, ap, ◌∙◌, subst, zero-add, arith}
use mathlib.Core.Path.{fun_ext}
use Rattle.std.proofs.lemmas.Bool.{cond-true}
use Rattle.field.specs.Arithmetic.{Ring, CommutativeRing, read}
use Rattle.field.specs.Laws.{derived, read_code}
use Rattle.algebra.specs.Term.{Term, one, times, word_from, word, has, Letters}
use Rattle.algebra.specs.Polynomial.{Polynomial}
use Rattle.algebra.specs.Border.{Row, System, combination, connected}
use Rattle.algebra.specs.Walk.{zeros, add_rows, scale, unit, image, map_onto, mapped, last_row, at_one, form_onto, normal_form}
use Rattle.algebra.specs.Clash.{twice, Commute}
use Rattle.algebra.proofs.Borders.{first_term, connected_distinct, has_one}
use Rattle.algebra.proofs.Totals.{total, zero_plus, total_below}
use Rattle.algebra.proofs.Rows.{total_add, total_scale, total_zeros, total_unit, total_at_one, total_agree}

-- the weight of the image of a term
abbrev pub pull : Ring → System → ℕ → (Term → ℕ) → Term → ℕ
pull R B i f t = total R f (combination (image B i t) B.terms)

abbrev pub pull_word : Ring → System → (Term → ℕ) → List ℕ → Term → ℕ
pull_word R B f [] = f
pull_word R B f (i ∷ w) = pull R B i (pull_word R B f w)

-- the weight of a term by the walk from 1
abbrev pub extended : Ring → System → (Term → ℕ) → Term → ℕ
extended R B f m = pull_word R B f (word m) one

-- equal on the terms of the system
abbrev pub Agree : System → (Term → ℕ) → (Term → ℕ) → Type 0
Agree B f g = (t : Term) → has t B.terms ≡ true → f t ≡ g t

module _ {R : Ring} (laws : CommutativeRing R) (B : System) where
  open derived laws use {sum_assoc}

  total_map_onto : (f : Term → ℕ) (i : ℕ) (acc v : Row) (ts : List Term) → total R f (combination (map_onto R B i acc v ts) B.terms) ≡ R.sum (total R f (combination acc B.terms)) (total R (pull R B i f) (combination v ts))
  total_map_onto f i acc [] ts = sym (laws.sum_zero _ (total_below laws f (combination acc B.terms)))
  total_map_onto f i acc (c ∷ v) [] = sym (laws.sum_zero _ (total_below laws f (combination acc B.terms)))
  total_map_onto f i acc (c ∷ v) (t ∷ ts) =
      total_map_onto f i (add_rows R acc (scale R c (image B i t))) v ts
      ∙ ap (λ (k : ℕ). R.sum k (total R (pull R B i f) (combination v ts)))
      (total_add laws f acc (scale R c (image B i t)) B.terms ∙ ap (R.sum (total R f (combination acc B.terms))) (total_scale laws f c (image B i t) B.terms))
      ∙ sum_assoc _ _ _

  pub total_mapped : (f : Term → ℕ) (i : ℕ) (v : Row) → total R f (combination (mapped R B i v) B.terms) ≡ total R (pull R B i f) (combination v B.terms)
  total_mapped f i v =
      total_map_onto f i (zeros B.terms) v B.terms ∙ ap (λ (k : ℕ). R.sum k (total R (pull R B i f) (combination v B.terms))) (total_zeros laws f B.terms B.terms)
      ∙ zero_plus laws _ (total_below laws (pull R B i f) (combination v B.terms))

  pub total_last_row : (f : Term → ℕ) (v : Row) (w : List ℕ) → total R f (combination (last_row R B v w) B.terms) ≡ total R (pull_word R B f w) (combination v B.terms)
  total_last_row f v [] = refl
  total_last_row f v (i ∷ w) = total_last_row f (mapped R B i v) w ∙ total_mapped (pull_word R B f w) i v

  -- pulled back, weights that agree are equal
  pub pull_agree : (i : ℕ) (f g : Term → ℕ) → Agree B f g → pull R B i f ≡ pull R B i g
  pull_agree i f g h = fun_ext (λ t. total_agree laws f g (image B i t) B.terms h)

  pub pull_word_agree : (w : List ℕ) (f g : Term → ℕ) → Agree B f g → Agree B (pull_word R B f w) (pull_word R B g w)
  pull_word_agree [] f g h t k = h t k
  pull_word_agree (i ∷ w) f g h t k = λ j. pull_agree i _ _ (pull_word_agree w f g h) j t

  pull_word_append : (f : Term → ℕ) (u w : List ℕ) → pull_word R B f (u ++ w) ≡ pull_word R B (pull_word R B f w) u
  pull_word_append f [] w = refl
  pull_word_append f (i ∷ u) w = ap (pull R B i) (pull_word_append f u w)

  -- the normal form under a weight
  total_form_onto : (f : Term → ℕ) (first : Term) (rest : List Term) → B.terms ≡ first ∷ rest → first ≡ one → (acc : Row) (p : Polynomial) → total R f (combination (form_onto R B acc p) B.terms) ≡ R.sum (total R f (combination acc B.terms)) (total R (extended R B f) p)
  total_form_onto f first rest is at acc [] = sym (laws.sum_zero _ (total_below laws f (combination acc B.terms)))
  total_form_onto f first rest is at acc (x ∷ p) =
      total_form_onto f first rest is at (add_rows R acc (last_row R B (at_one x.0 B.terms) (word x.1))) p
      ∙ ap (λ (k : ℕ). R.sum k (total R (extended R B f) p))
      (total_add laws f acc (last_row R B (at_one x.0 B.terms) (word x.1)) B.terms
      ∙ ap (R.sum (total R f (combination acc B.terms))) (total_last_row f (at_one x.0 B.terms) (word x.1) ∙ from_one))
      ∙ sum_assoc _ _ _
    where
      from_one : total R (pull_word R B f (word x.1)) (combination (at_one x.0 B.terms) B.terms) ≡ R.product x.0 (extended R B f x.1)
      from_one =
          ap (λ (ts : List Term). total R (pull_word R B f (word x.1)) (combination (at_one x.0 ts) ts)) is
          ∙ total_at_one laws (pull_word R B f (word x.1)) x.0 first rest ∙ ap (λ (t : Term). R.product x.0 (pull_word R B f (word x.1) t)) at

  module _ (joined : connected B.variables B.terms ≡ true) where
    pub total_normal_form : (f : Term → ℕ) (p : Polynomial) → total R f (combination (normal_form R B p) B.terms) ≡ total R (extended R B f) p
    total_normal_form f p =
        let s = first_term B.variables B.terms joined in
        total_form_onto f one s.0 s.1 refl (zeros B.terms) p
        ∙ ap (λ (k : ℕ). R.sum k (total R (extended R B f) p)) (total_zeros laws f B.terms B.terms)
        ∙ zero_plus laws _ (total_below laws (extended R B f) p)

    -- a product that is in S has the weight of its image
    pub pull_inside : (f : Term → ℕ) (i : ℕ) (t : Term) → has (times i t) B.terms ≡ true → pull R B i f t ≡ read R.order (f (times i t))
    pull_inside f i t h =
        ap (λ (v : Row). total R f (combination v B.terms)) (cond-true _ (unit B.terms (times i t)) _ h)
        ∙ total_unit laws f (times i t) B.terms (connected_distinct B.variables B.terms joined) h

    -- the row of t mapped twice
    total_twice : (f : Term → ℕ) (a b : ℕ) (t : Term) → has t B.terms ≡ true → total R f (combination (twice R B a b t) B.terms) ≡ pull R B b (pull R B a f) t
    total_twice f a b t h =
        total_mapped f a (mapped R B b (unit B.terms t)) ∙ total_mapped (pull R B a f) b (unit B.terms t)
        ∙ total_unit laws (pull R B b (pull R B a f)) t B.terms (connected_distinct B.variables B.terms joined) h
        ∙ read_code _ _ (total_below laws (pull R B a f) (combination (image B b t) B.terms))

    module _ (commute : Commute R B) where
      pulls_commute : (f : Term → ℕ) (a b : ℕ) → a < B.variables → b < B.variables → Agree B (pull R B a (pull R B b f)) (pull R B b (pull R B a f))
      pulls_commute f a b ha hb t h =
          sym (total_twice f b a t h) ∙ ap (λ (v : Row). total R f (combination v B.terms)) (commute t h b a hb ha) ∙ total_twice f a b t h

      -- a variable passes a word
      pub pull_passes : (f : Term → ℕ) (i : ℕ) (w : List ℕ) → i < B.variables → Letters B.variables w → Agree B (pull R B i (pull_word R B f w)) (pull_word R B (pull R B i f) w)
      pull_passes f i [] h l t k = refl
      pull_passes f i (j ∷ w) h l t k =
          pulls_commute (pull_word R B f w) i j h l.0 t k ∙ (λ e. pull_agree j _ _ (pull_passes f i w h l.1) e t)

      letters_right : (n : ℕ) (u w : List ℕ) → Letters n (u ++ w) → Letters n w
      letters_right n [] w l = l
      letters_right n (i ∷ u) w l = letters_right n u w l.1

      extend_from : (f : Term → ℕ) (j k : ℕ) (m : Term) → k < length m → j + k < B.variables → Letters B.variables (word_from j m) → Agree B (pull_word R B f (word_from j (times k m))) (pull_word R B (pull R B (j + k) f) (word_from j m))
      extend_from f j k [] h l w t s = absurd (omega arith)
      extend_from f j zero (e ∷ m) h l w t s =
          let at : j ≡ j + 0 = omega arith in
          ap (λ (i : ℕ). pull R B i (pull_word R B f (word_from j (e ∷ m))) t) at ∙ pull_passes f (j + 0) (word_from j (e ∷ m)) l w t s
      extend_from f j (suc k) (e ∷ m) h l w t s =
          let at : suc j + k ≡ j + suc k = omega arith in
          (λ i. pull_word_append f (replicate e j) (word_from (suc j) (times k m)) i t)
          ∙ pull_word_agree (replicate e j) _ _
          (subst (λ (x : ℕ). Agree B (pull_word R B f (word_from (suc j) (times k m))) (pull_word R B (pull R B x f) (word_from (suc j) m))) at
          (extend_from f (suc j) k m (omega arith) (omega arith) (letters_right _ (replicate e j) _ w))) t s
          ∙ (λ i. sym (pull_word_append (pull R B (j + suc k) f) (replicate e j) (word_from (suc j) m)) i t)

      -- a variable times a term, extended
      pub extended_times : (f : Term → ℕ) (i : ℕ) (m : Term) → i < length m → i < B.variables → Letters B.variables (word m) → extended R B f (times i m) ≡ extended R B (pull R B i f) m
      extended_times f i m h l w =
          extend_from f 0 i m h (omega arith) w one (has_one B.variables B.terms joined) ∙ ap (λ (x : ℕ). pull_word R B (pull R B x f) (word m) one) (zero-add i)
