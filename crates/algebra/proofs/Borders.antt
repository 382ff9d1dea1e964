-- Connected sets and their borders. Assumes nothing.
use Rattle.std.proofs.Common.{◌≡◌, ℕ, zero, suc, ◌+◌, ◌<◌, ◌≤◌, Bool, true, false, cond, not, ◌&&◌, ◌⊎◌, List, [], ◌∷◌, ◌++◌, length, get_or, sym, refl, ap, ◌∙◌, subst, inl, inr, ⊎_elim, zero-add, arith}
use Rattle.std.proofs.lemmas.Bool.{cases_Bool, and_parts, or_cases, or_left, or_right, or_parts, both_ways, cond-true, cond-false, not-true}
use Rattle.field.specs.Arithmetic.{Ring}
use Rattle.algebra.specs.Term.{Term, one, times, same, has, place, next_place, InVariables}
use Rattle.algebra.specs.Border.{multiples_from, multiples, grows, connected, fresh, border, Row, rule_polynomial, rule_polynomials}
use Rattle.algebra.proofs.Terms.{same_true, same_refl, has_head, has_tail, has_cases, has_append_left, has_append_right, has_append_cases, one_in_variables, times_in_variables}

-- no term stands twice
abbrev pub Distinct : List Term → Type 0
Distinct [] = Unit {0}
Distinct (t ∷ ts) = (has t ts ≡ false) × Distinct ts

-- not in a list, and so not in a part of it
not_left : (t : Term) (ts us : List Term) → has t (ts ++ us) ≡ false → has t ts ≡ false
not_left t ts us h = ⊎_elim (λ k. absurd (both_ways _ h (has_append_left t ts us k))) (λ k. k) (cases_Bool (has t ts))

not_right : (t : Term) (ts us : List Term) → has t (ts ++ us) ≡ false → has t us ≡ false
not_right t ts us h = ⊎_elim (λ k. absurd (both_ways _ h (has_append_right t ts us k))) (λ k. k) (cases_Bool (has t us))

-- a product of one of n variables and a term of a list
pub record Multiple (n : ℕ) (ts : List Term) (e : Term) : Type 0 where
  pub variable : ℕ
  pub factor : Term
  pub is_variable : variable < n
  pub is_factor : has factor ts ≡ true
  pub is_product : e ≡ times variable factor

from_multiples_of : (n i : ℕ) (t e : Term) → has e (multiples_from i n t) ≡ true → (k : ℕ) × (k < n) × (e ≡ times (i + k) t)
from_multiples_of zero i t e h = absurd (both_ways false refl h)
from_multiples_of (suc n) i t e h =
    ⊎_elim (λ s. (0, omega arith, s ∙ ap (λ (j : ℕ). times j t) (omega arith)))
    (λ l. let r = from_multiples_of n (suc i) t e l in (suc r.0, omega (arith, r.1), r.2 ∙ ap (λ (j : ℕ). times j t) (omega arith)))
    (has_cases e (times i t) (multiples_from (suc i) n t) h)

pub from_multiples : (n : ℕ) (ts : List Term) (e : Term) → has e (multiples n ts) ≡ true → Multiple n ts e
from_multiples n [] e h = absurd (both_ways false refl h)
from_multiples n (t ∷ ts) e h = ⊎_elim here (λ l. later (from_multiples n ts e l)) (has_append_cases e (multiples_from 0 n t) (multiples n ts) h)
  where
    here : has e (multiples_from 0 n t) ≡ true → Multiple n (t ∷ ts) e
    here k =
        let r = from_multiples_of n 0 t e k in
        record { variable = r.0; factor = t; is_variable = r.1; is_factor = has_head t ts; is_product = r.2 ∙ ap (λ (j : ℕ). times j t) (zero-add r.0) }

    later : Multiple n ts e → Multiple n (t ∷ ts) e
    later m = record { variable = m.variable; factor = m.factor; is_variable = m.is_variable; is_factor = has_tail m.factor t ts m.is_factor; is_product = m.is_product }

in_multiples_of : (n i k : ℕ) (t : Term) → k < n → has (times (i + k) t) (multiples_from i n t) ≡ true
in_multiples_of zero i k t h = absurd (omega arith)
in_multiples_of (suc n) i zero t h = or_left _ _ (ap (λ (j : ℕ). same (times j t) (times i t)) (omega arith) ∙ same_refl (times i t))
in_multiples_of (suc n) i (suc k) t h =
    or_right _ _ (ap (λ (j : ℕ). has (times j t) (multiples_from (suc i) n t)) (omega arith) ∙ in_multiples_of n (suc i) k t (omega arith))

pub in_multiples : (n i : ℕ) (ts : List Term) (t : Term) → i < n → has t ts ≡ true → has (times i t) (multiples n ts) ≡ true
in_multiples n i [] t h k = absurd (both_ways false refl k)
in_multiples n i (u ∷ ts) t h k = ⊎_elim here (λ l. has_append_right _ (multiples_from 0 n u) _ (in_multiples n i ts t h l)) (has_cases t u ts k)
  where
    here : t ≡ u → has (times i t) (multiples n (u ∷ ts)) ≡ true
    here e =
        has_append_left _ (multiples_from 0 n u) _
        (ap (λ (v : Term). has (times i v) (multiples_from 0 n u)) e ∙ ap (λ (j : ℕ). has (times j u) (multiples_from 0 n u)) (sym (zero-add i)) ∙ in_multiples_of n 0 i u h)

-- what holds of the terms before holds of a term that joins them
module _ (n : ℕ) (S : List Term) (P : Term → Type 0) (step : (i : ℕ) (s : Term) → i < n → has s S ≡ true → P s → has (times i s) S ≡ true → P (times i s)) where
  grown : (before ts : List Term) → grows n before ts ≡ true → ((t : Term) → has t (before ++ ts) ≡ true → has t S ≡ true) → ((t : Term) → has t before ≡ true → P t) → (t : Term) → has t ts ≡ true → P t
  grown before [] g inside known t h = absurd (both_ways false refl h)
  grown before (u ∷ ts) g inside known t h = ⊎_elim (λ e. subst P (sym e) joins) (λ l. grown (before ++ u ∷ []) ts later inside_still known_still t l) (has_cases t u ts h)
    where
      first : (has u (multiples n before) && not (has u before) ≡ true) × (grows n (before ++ u ∷ []) ts ≡ true)
      first = and_parts _ _ g

      later : grows n (before ++ u ∷ []) ts ≡ true
      later = first.1

      m : Multiple n before u
      m = from_multiples n before u (and_parts _ _ first.0).0

      joins : P u
      joins =
          subst P (sym m.is_product)
          (step m.variable m.factor m.is_variable (inside _ (has_append_left _ before _ m.is_factor)) (known _ m.is_factor)
          (subst (λ (v : Term). has v S ≡ true) m.is_product (inside u (has_append_right u before _ (has_head u ts)))))

      known_still : (s : Term) → has s (before ++ u ∷ []) ≡ true → P s
      known_still s k = ⊎_elim (known s) (λ l. ⊎_elim (λ e. subst P (sym e) joins) (λ f. absurd (both_ways false refl f)) (has_cases s u [] l)) (has_append_cases s before (u ∷ []) k)

      inside_still : (s : Term) → has s ((before ++ u ∷ []) ++ ts) ≡ true → has s S ≡ true
      inside_still s k =
          inside s
          (⊎_elim
          (λ l. ⊎_elim (has_append_left s before (u ∷ ts)) (λ r. has_append_right s before (u ∷ ts) (⊎_elim (λ e. or_left _ _ (ap (λ (v : Term). same v u) e ∙ same_refl u)) (λ f. absurd (both_ways false refl f)) (has_cases s u [] r))) (has_append_cases s before (u ∷ []) l))
          (λ r. has_append_right s before (u ∷ ts) (has_tail s u ts r))
          (has_append_cases s (before ++ u ∷ []) ts k))

-- a set that is connected to 1 begins with it
pub first_term : (n : ℕ) (S : List Term) → connected n S ≡ true → (rest : List Term) × (S ≡ one ∷ rest) × (grows n (one ∷ []) rest ≡ true)
first_term n [] c = absurd (both_ways false refl c)
first_term n (t ∷ ts) c =
    let p = and_parts _ _ c in
    let e = same_true t one p.0 in
    (ts, ap (λ (u : Term). u ∷ ts) e, subst (λ (u : Term). grows n (u ∷ []) ts ≡ true) e p.1)

pub connected_induction : (n : ℕ) (S : List Term) → connected n S ≡ true → (P : Term → Type 0) → P one → ((i : ℕ) (s : Term) → i < n → has s S ≡ true → P s → has (times i s) S ≡ true → P (times i s)) → (t : Term) → has t S ≡ true → P t
connected_induction n S c P base step t h =
    let f = first_term n S c in
    let at_first : (s : Term) → has s (one ∷ []) ≡ true → P s =
    λ s k. ⊎_elim (λ e. subst P (sym e) base) (λ l. absurd (both_ways false refl l)) (has_cases s one [] k) in
    ⊎_elim (λ e. subst P (sym e) base)
    (grown n S P step (one ∷ []) f.0 f.2 (λ s k. subst (λ (ts : List Term). has s ts ≡ true) (sym f.1) k) at_first t)
    (has_cases t one f.0 (subst (λ (ts : List Term). has t ts ≡ true) f.1 h))

pub has_one : (n : ℕ) (S : List Term) → connected n S ≡ true → has one S ≡ true
has_one n S c = let f = first_term n S c in subst (λ (ts : List Term). has one ts ≡ true) (sym f.1) (has_head one f.0)

pub term_in_variables : (n : ℕ) (S : List Term) → connected n S ≡ true → (t : Term) → has t S ≡ true → InVariables n t
term_in_variables n S c = connected_induction n S c (InVariables n) (one_in_variables n) (λ i s h k v l. times_in_variables n i s h v)

-- no term of ts stands twice or among those before
ApartFrom : List Term → List Term → Type 0
ApartFrom before ts = Distinct ts × ((t : Term) → has t ts ≡ true → has t before ≡ false)

one_more_apart : (before ts : List Term) (u : Term) → has u before ≡ false → ApartFrom (before ++ u ∷ []) ts → ApartFrom before (u ∷ ts)
unfolding ApartFrom
one_more_apart before ts u new rest = (
  (⊎_elim (λ k. absurd (both_ways _ (rest.1 u k) (has_append_right u before _ (has_head u [])))) (λ k. k) (cases_Bool (has u ts)), rest.0),
  λ t h. ⊎_elim (λ e. ap (λ (s : Term). has s before) e ∙ new) (λ k. not_left t before (u ∷ []) (rest.1 t k)) (has_cases t u ts h),
)

grows_apart : (n : ℕ) (before ts : List Term) → grows n before ts ≡ true → ApartFrom before ts
unfolding ApartFrom
grows_apart n before [] g = (tt, λ t h. absurd (both_ways false refl h))
grows_apart n before (u ∷ ts) g =
    let parts = and_parts (has u (multiples n before) && not (has u before)) (grows n (before ++ u ∷ []) ts) g in
    one_more_apart before ts u (not-true (has u before) (and_parts (has u (multiples n before)) (not (has u before)) parts.0).1) (grows_apart n (before ++ u ∷ []) ts parts.1)

pub connected_distinct : (n : ℕ) (S : List Term) → connected n S ≡ true → Distinct S
unfolding ApartFrom
connected_distinct n S c =
    let f = first_term n S c in
    let g = grows_apart n (one ∷ []) f.0 f.2 in
    subst Distinct (sym f.1)
    (⊎_elim (λ k. absurd (both_ways _ (g.1 one k) (has_head one []))) (λ k. k) (cases_Bool (has one f.0)), g.0)

fresh_apart : (known es : List Term) → ApartFrom known (fresh known es)
unfolding ApartFrom
fresh_apart known [] = (tt, λ t h. absurd (both_ways false refl h))
fresh_apart known (e ∷ es) = go (has e known) refl (fresh_apart known es) (fresh_apart (known ++ e ∷ []) es)
  where
    go : (b : Bool) → has e known ≡ b → ApartFrom known (fresh known es) → ApartFrom (known ++ e ∷ []) (fresh (known ++ e ∷ []) es) → ApartFrom known (cond b (fresh known es) (e ∷ fresh (known ++ e ∷ []) es))
    go true k old new = old
    go false k old new = one_more_apart known (fresh (known ++ e ∷ []) es) e k new

-- a term of the list is known or fresh
fresh_covers : (known es : List Term) (t : Term) → has t es ≡ true → (has t known ≡ true) ⊎ (has t (fresh known es) ≡ true)
fresh_covers known [] t h = absurd (both_ways false refl h)
fresh_covers known (e ∷ es) t h = go (has e known) refl (has_cases t e es h) (fresh_covers known es t) (fresh_covers (known ++ e ∷ []) es t)
  where
    go : (b : Bool) → has e known ≡ b → (t ≡ e) ⊎ (has t es ≡ true) → (has t es ≡ true → (has t known ≡ true) ⊎ (has t (fresh known es) ≡ true)) → (has t es ≡ true → (has t (known ++ e ∷ []) ≡ true) ⊎ (has t (fresh (known ++ e ∷ []) es) ≡ true)) → (has t known ≡ true) ⊎ (has t (cond b (fresh known es) (e ∷ fresh (known ++ e ∷ []) es)) ≡ true)
    go true k w old new = ⊎_elim (λ p. inl (ap (λ (s : Term). has s known) p ∙ k)) old w
    go false k w old new =
        ⊎_elim (λ p. inr (or_left _ _ (ap (λ (s : Term). same s e) p ∙ same_refl e)))
        (λ l. ⊎_elim (λ m. ⊎_elim inl (λ r. inr (⊎_elim (λ p. or_left _ _ (ap (λ (s : Term). same s e) p ∙ same_refl e)) (λ f. absurd (both_ways false refl f)) (has_cases t e [] r))) (has_append_cases t known (e ∷ []) m)) (λ r. inr (or_right _ _ r)) (new l)) w

fresh_among : (known es : List Term) (t : Term) → has t (fresh known es) ≡ true → has t es ≡ true
fresh_among known [] t h = h
fresh_among known (e ∷ es) t h = go (has e known) h (fresh_among known es t) (fresh_among (known ++ e ∷ []) es t)
  where
    go : (b : Bool) → has t (cond b (fresh known es) (e ∷ fresh (known ++ e ∷ []) es)) ≡ true → (has t (fresh known es) ≡ true → has t es ≡ true) → (has t (fresh (known ++ e ∷ []) es) ≡ true → has t es ≡ true) → has t (e ∷ es) ≡ true
    go true k old new = has_tail t e es (old k)
    go false k old new = ⊎_elim (λ p. or_left _ _ (ap (λ (s : Term). same s e) p ∙ same_refl e)) (λ l. has_tail t e es (new l)) (has_cases t e _ k)

pub border_distinct : (n : ℕ) (S : List Term) → Distinct (border n S)
unfolding ApartFrom
border_distinct n S = (fresh_apart S (multiples n S)).0

pub not_in_border : (n : ℕ) (S : List Term) (t : Term) → has t S ≡ true → has t (border n S) ≡ false
unfolding ApartFrom
not_in_border n S t h = ⊎_elim (λ k. absurd (both_ways _ ((fresh_apart S (multiples n S)).1 t k) h)) (λ k. k) (cases_Bool (has t (border n S)))

pub not_in_set : (n : ℕ) (S : List Term) (t : Term) → has t (border n S) ≡ true → has t S ≡ false
unfolding ApartFrom
not_in_set n S t h = (fresh_apart S (multiples n S)).1 t h

-- every product of a variable and a term of S is in S or on the border
pub product_leads : (n i : ℕ) (S : List Term) (t : Term) → i < n → has t S ≡ true → (has (times i t) S ≡ true) ⊎ (has (times i t) (border n S) ≡ true)
product_leads n i S t h k = fresh_covers S (multiples n S) (times i t) (in_multiples n i S t h k)

pub border_multiple : (n : ℕ) (S : List Term) (e : Term) → has e (border n S) ≡ true → Multiple n S e
border_multiple n S e h = from_multiples n S e (fresh_among S (multiples n S) e h)

pub place_absent : (t : Term) (ts : List Term) → has t ts ≡ false → place t ts ≡ 0
place_absent t [] h = refl
place_absent t (u ∷ ts) h =
    let p = or_parts (same t u) (has t ts) h in
    cond-false _ 1 _ p.0 ∙ ap next_place (place_absent t ts p.1)

-- where a term stands
pub record Stands (t : Term) (ts : List Term) : Type 0 where
  pub index : ℕ
  pub within : index < length ts
  pub is_place : place t ts ≡ suc index
  pub is_there : get_or ts index [] ≡ t

pub stands : (t : Term) (ts : List Term) → has t ts ≡ true → Stands t ts
stands t [] h = absurd (both_ways false refl h)
stands t (u ∷ ts) h = go (same t u) refl (stands t ts)
  where
    go : (b : Bool) → same t u ≡ b → (has t ts ≡ true → Stands t ts) → Stands t (u ∷ ts)
    go true e rest = record { index = 0; within = omega arith; is_place = cond-true _ 1 _ e; is_there = sym (same_true t u e) }
    go false e rest =
        let s = rest (⊎_elim (λ k. absurd (both_ways _ e k)) (λ k. k) (or_cases (same t u) (has t ts) h)) in
        record { index = suc s.index; within = omega (arith, s.within); is_place = cond-false _ 1 _ e ∙ ap next_place s.is_place; is_there = s.is_there }

pub get_or_has : (ts : List Term) (k : ℕ) → k < length ts → has (get_or ts k []) ts ≡ true
get_or_has [] k h = absurd (omega arith)
get_or_has (t ∷ ts) zero h = has_head t ts
get_or_has (t ∷ ts) (suc k) h = has_tail (get_or ts k []) t ts (get_or_has ts k (omega arith))

-- in a list without repeats a term has the place where it stands
pub place_of : (ts : List Term) (k : ℕ) → Distinct ts → k < length ts → place (get_or ts k []) ts ≡ suc k
place_of [] k d h = absurd (omega arith)
place_of (t ∷ ts) zero d h = cond-true _ 1 _ (same_refl t)
place_of (t ∷ ts) (suc k) d h =
    let other : same (get_or ts k []) t ≡ false =
    ⊎_elim (λ e. absurd (both_ways _ d.0 (subst (λ (s : Term). has s ts ≡ true) (same_true (get_or ts k []) t e) (get_or_has ts k (omega arith))))) (λ e. e) (cases_Bool (same (get_or ts k []) t)) in
    cond-false _ 1 _ other ∙ ap next_place (place_of ts k d.1 (omega arith))

pub rule_at : (R : Ring) (S es : List Term) (rs : List Row) (k : ℕ) → k < length es → length rs ≡ length es → get_or (rule_polynomials R S es rs) k [] ≡ rule_polynomial R S (get_or es k []) (get_or rs k [])
rule_at R S [] rs k h l = absurd (omega arith)
rule_at R S (e ∷ es) [] k h l = absurd (omega arith)
rule_at R S (e ∷ es) (r ∷ rs) zero h l = refl
rule_at R S (e ∷ es) (r ∷ rs) (suc k) h l = rule_at R S es rs k (omega arith) (omega arith)

pub rule_past : (R : Ring) (S es : List Term) (rs : List Row) (k : ℕ) → length es ≤ k → get_or (rule_polynomials R S es rs) k [] ≡ []
rule_past R S [] rs k h = refl
rule_past R S (e ∷ es) [] k h = refl
rule_past R S (e ∷ es) (r ∷ rs) zero h = absurd (omega arith)
rule_past R S (e ∷ es) (r ∷ rs) (suc k) h = rule_past R S es rs k (omega arith)
