-- Laws of terms. Assumes nothing.
use Rattle.std.proofs.Common.{◌≡◌, ℕ, zero, suc, ◌+◌, ◌<◌, ◌≤◌, true, false, eqb, ◌⊎◌, List, [], ◌∷◌, ◌++◌, length, replicate, sym, refl, ap, ◌∙◌, subst, inl, inr, ⊎_elim, append_assoc, add-zero, zero-add, arith, length-append}
use Rattle.std.proofs.lemmas.Slice.Eq.{bytes_eq-Decides}
use Rattle.std.proofs.lemmas.Bool.{cases_Bool, and_parts, or_cases, or_left, or_right, eqb-true, both_ways, and_from, eq-eqb}
use Rattle.algebra.specs.Term.{Term, one, times, product, word_from, word, spelled, zero_past, InVariables, same, has, Letters}

pub same_true : (t u : Term) → same t u ≡ true → t ≡ u
same_true t u e = (bytes_eq-Decides t u).0 e

pub same_refl : (t : Term) → same t t ≡ true
same_refl t = (bytes_eq-Decides t t).1 refl

pub same_false : (t u : Term) → (t ≡ u → ⊥) → same t u ≡ false
same_false t u ne = ⊎_elim (λ e. absurd (ne (same_true t u e))) (λ e. e) (cases_Bool (same t u))

pub apart : (t u : Term) → same t u ≡ false → t ≡ u → ⊥
apart t u e p = both_ways (same t u) e (subst (λ x. same t x ≡ true) p (same_refl t))

pub same_sym : (t u : Term) → same t u ≡ false → same u t ≡ false
same_sym t u e = same_false u t (λ p. apart t u e (sym p))

pub has_head : (t : Term) (ts : List Term) → has t (t ∷ ts) ≡ true
has_head t ts = or_left (same t t) (has t ts) (same_refl t)

pub has_tail : (t u : Term) (ts : List Term) → has t ts ≡ true → has t (u ∷ ts) ≡ true
has_tail t u ts h = or_right (same t u) (has t ts) h

pub has_cases : (t u : Term) (ts : List Term) → has t (u ∷ ts) ≡ true → (t ≡ u) ⊎ (has t ts ≡ true)
has_cases t u ts h = ⊎_elim (λ e. inl (same_true t u e)) inr (or_cases (same t u) (has t ts) h)

pub has_append_left : (t : Term) (ts us : List Term) → has t ts ≡ true → has t (ts ++ us) ≡ true
has_append_left t [] us h = absurd (both_ways false refl h)
has_append_left t (u ∷ ts) us h =
    ⊎_elim (or_left (same t u) (has t (ts ++ us))) (λ k. or_right (same t u) (has t (ts ++ us)) (has_append_left t ts us k)) (or_cases (same t u) (has t ts) h)

pub has_append_right : (t : Term) (ts us : List Term) → has t us ≡ true → has t (ts ++ us) ≡ true
has_append_right t [] us h = h
has_append_right t (u ∷ ts) us h = or_right (same t u) (has t (ts ++ us)) (has_append_right t ts us h)

pub has_append_cases : (t : Term) (ts us : List Term) → has t (ts ++ us) ≡ true → (has t ts ≡ true) ⊎ (has t us ≡ true)
has_append_cases t [] us h = inr h
has_append_cases t (u ∷ ts) us h =
    ⊎_elim (λ e. inl (or_left (same t u) (has t ts) e))
    (λ k. ⊎_elim (λ l. inl (or_right (same t u) (has t ts) l)) inr (has_append_cases t ts us k))
    (or_cases (same t u) (has t (ts ++ us)) h)

pub times_length : (i : ℕ) (t : Term) → length (times i t) ≡ length t
times_length i [] = refl
times_length zero (e ∷ t) = refl
times_length (suc i) (e ∷ t) = ap suc (times_length i t)

-- a variable moves from one factor to the other
pub times_product : (i : ℕ) (m t : Term) → i < length m → i < length t → product (times i m) t ≡ product m (times i t)
times_product i [] t h k = absurd (omega arith)
times_product i (a ∷ m) [] h k = absurd (omega arith)
times_product zero (a ∷ m) (b ∷ t) h k = ap (λ (e : ℕ). e ∷ product m t) (omega arith)
times_product (suc i) (a ∷ m) (b ∷ t) h k = ap (λ (u : Term). (a + b) ∷ u) (times_product i m t (omega arith) (omega arith))

unit_left : (k : ℕ) (t : Term) → k ≤ length t → product (replicate k 0) t ≡ t
unit_left zero t h = refl
unit_left (suc k) [] h = absurd (omega arith)
unit_left (suc k) (e ∷ t) h = λ i. zero-add e i ∷ unit_left k t (omega arith) i

unit_right : (k : ℕ) (t : Term) → k ≤ length t → product t (replicate k 0) ≡ t
unit_right zero [] h = refl
unit_right (suc k) [] h = absurd (omega arith)
unit_right zero (e ∷ t) h = refl
unit_right (suc k) (e ∷ t) h = λ i. add-zero e i ∷ unit_right k t (omega arith) i

pub one_product : (t : Term) → length t ≡ 8 → product one t ≡ t
one_product t h = unit_left 8 t (omega arith)

pub product_one : (t : Term) → length t ≡ 8 → product t one ≡ t
product_one t h = unit_right 8 t (omega arith)

-- the variables of a word, times a term
onto : List ℕ → Term → Term
onto [] u = u
onto (i ∷ w) u = times i (onto w u)

onto_append : (w v : List ℕ) (u : Term) → onto (w ++ v) u ≡ onto w (onto v u)
unfolding onto
onto_append [] v u = refl
onto_append (i ∷ w) v u = ap (times i) (onto_append w v u)

times_at : (pre t : Term) (e : ℕ) → times (length pre) (pre ++ e ∷ t) ≡ pre ++ suc e ∷ t
times_at [] t e = refl
times_at (a ∷ pre) t e = ap (λ (u : Term). a ∷ u) (times_at pre t e)

onto_replicate : (k : ℕ) (pre t : Term) → onto (replicate k (length pre)) (pre ++ 0 ∷ t) ≡ pre ++ k ∷ t
unfolding onto
onto_replicate zero pre t = refl
onto_replicate (suc k) pre t = ap (times (length pre)) (onto_replicate k pre t) ∙ times_at pre t k

onto_word : (t pre : Term) → onto (word_from (length pre) t) (pre ++ replicate (length t) 0) ≡ pre ++ t
unfolding onto
onto_word [] pre = refl
onto_word (e ∷ t) pre =
    let next : suc (length pre) ≡ length (pre ++ 0 ∷ []) = sym (length-append pre (0 ∷ []) ∙ omega arith) in
    onto_append (replicate e (length pre)) (word_from (suc (length pre)) t) (pre ++ 0 ∷ replicate (length t) 0)
    ∙ ap (onto (replicate e (length pre)))
    ((λ i. onto (word_from (next i) t) (sym (append_assoc pre (0 ∷ []) (replicate (length t) 0)) i))
    ∙ onto_word t (pre ++ 0 ∷ []) ∙ append_assoc pre (0 ∷ []) t)
    ∙ onto_replicate e pre t

spelled_onto : (w : List ℕ) → spelled w ≡ onto w one
unfolding onto
spelled_onto [] = refl
spelled_onto (i ∷ w) = ap (times i) (spelled_onto w)

-- the word of a term spells it
pub spelled_word : (t : Term) → length t ≡ 8 → spelled (word t) ≡ t
spelled_word t h = spelled_onto (word t) ∙ ap (λ (k : ℕ). onto (word t) (replicate k 0)) (sym h) ∙ onto_word t []

pub spelled_length : (w : List ℕ) → length (spelled w) ≡ 8
spelled_length [] = refl
spelled_length (i ∷ w) = times_length i (spelled w) ∙ spelled_length w

letters_append : (n : ℕ) (w v : List ℕ) → Letters n w → Letters n v → Letters n (w ++ v)
letters_append n [] v h k = k
letters_append n (i ∷ w) v h k = (h.0, letters_append n w v h.1 k)

letters_replicate : (n k i : ℕ) → i < n → Letters n (replicate k i)
letters_replicate n zero i h = tt
letters_replicate n (suc k) i h = (h, letters_replicate n k i h)

no_letters : (j : ℕ) (t : Term) → zero_past 0 t ≡ true → word_from j t ≡ []
no_letters j [] h = refl
no_letters j (e ∷ t) h =
    let p = and_parts (eqb e 0) (zero_past 0 t) h in
    (λ i. replicate (eqb-true e 0 p.0 i) j ++ no_letters (suc j) t p.1 i)

letters_from : (j n : ℕ) (t : Term) → zero_past n t ≡ true → Letters (j + n) (word_from j t)
letters_from j n [] h = tt
letters_from j zero (e ∷ t) h = subst (Letters (j + 0)) (sym (no_letters j (e ∷ t) h)) tt
letters_from j (suc n) (e ∷ t) h =
    letters_append (j + suc n) (replicate e j) (word_from (suc j) t) (letters_replicate (j + suc n) e j (omega arith))
    (let same-bound : suc j + n ≡ j + suc n = omega arith in subst (λ (b : ℕ). Letters b (word_from (suc j) t)) same-bound (letters_from (suc j) n t h))

pub word_letters : (n : ℕ) (t : Term) → InVariables n t → Letters n (word t)
word_letters n t h = subst (λ (b : ℕ). Letters b (word t)) (zero-add n) (letters_from 0 n t h.1)

zero_past_replicate : (n k : ℕ) → zero_past n (replicate k 0) ≡ true
zero_past_replicate n zero = refl
zero_past_replicate zero (suc k) = zero_past_replicate zero k
zero_past_replicate (suc n) (suc k) = zero_past_replicate n k

pub one_in_variables : (n : ℕ) → InVariables n one
one_in_variables n = (refl, zero_past_replicate n 8)

zero_past_times : (n i : ℕ) (t : Term) → i < n → zero_past n t ≡ true → zero_past n (times i t) ≡ true
zero_past_times n i [] h z = refl
zero_past_times zero i (e ∷ t) h z = absurd (omega arith)
zero_past_times (suc n) zero (e ∷ t) h z = z
zero_past_times (suc n) (suc i) (e ∷ t) h z = zero_past_times n i t (omega arith) z

pub times_in_variables : (n i : ℕ) (t : Term) → i < n → InVariables n t → InVariables n (times i t)
times_in_variables n i t h v = (times_length i t ∙ v.0, zero_past_times n i t h v.1)

pub spelled_in_variables : (n : ℕ) (w : List ℕ) → Letters n w → InVariables n (spelled w)
spelled_in_variables n [] h = one_in_variables n
spelled_in_variables n (i ∷ w) h = times_in_variables n i (spelled w) h.0 (spelled_in_variables n w h.1)

pub times_comm : (a b : ℕ) (t : Term) → times a (times b t) ≡ times b (times a t)
times_comm a b [] = refl
times_comm zero zero (e ∷ t) = refl
times_comm zero (suc b) (e ∷ t) = refl
times_comm (suc a) zero (e ∷ t) = refl
times_comm (suc a) (suc b) (e ∷ t) = ap (λ (u : Term). e ∷ u) (times_comm a b t)

-- a variable of a factor is a variable of the product
pub product_times : (i : ℕ) (m t : Term) → i < length m → i < length t → product m (times i t) ≡ times i (product m t)
product_times i [] t h k = absurd (omega arith)
product_times i (a ∷ m) [] h k = absurd (omega arith)
product_times zero (a ∷ m) (b ∷ t) h k = ap (λ (e : ℕ). e ∷ product m t) (omega arith)
product_times (suc i) (a ∷ m) (b ∷ t) h k = ap (λ (u : Term). (a + b) ∷ u) (product_times i m t (omega arith) (omega arith))

product_length : (m t : Term) → length m ≡ length t → length (product m t) ≡ length t
product_length [] t h = refl
product_length (a ∷ m) [] h = h
product_length (a ∷ m) (b ∷ t) h = ap suc (product_length m t (omega arith))

zero_past_product : (n : ℕ) (m t : Term) → zero_past n m ≡ true → zero_past n t ≡ true → zero_past n (product m t) ≡ true
zero_past_product n [] t h k = k
zero_past_product n (a ∷ m) [] h k = h
zero_past_product zero (a ∷ m) (b ∷ t) h k =
    let p = and_parts (eqb a 0) (zero_past 0 m) h in
    let q = and_parts (eqb b 0) (zero_past 0 t) k in
    let z : a + b ≡ 0 = omega (arith, eqb-true a 0 p.0, eqb-true b 0 q.0) in
    and_from (eqb (a + b) 0) _ (eq-eqb (a + b) 0 z) (zero_past_product zero m t p.1 q.1)
zero_past_product (suc n) (a ∷ m) (b ∷ t) h k = zero_past_product n m t h k

pub product_in_variables : (n : ℕ) (m t : Term) → InVariables n m → InVariables n t → InVariables n (product m t)
product_in_variables n m t h k = (product_length m t (h.0 ∙ sym k.0) ∙ k.0, zero_past_product n m t h.1 k.1)
