-- A border that is laid product by product, and its leads. Assumes nothing.
use Rattle.std.proofs.Common.{◌≡◌, ℕ, zero, suc, ◌+◌, ◌-◌, ◌<◌, ◌≤◌, Bool, true, false, cond, List, [], ◌∷◌, ◌++◌, length, get_or, take, drop, set, Some, None, Option, unwrap_or, sym, refl, ap, ◌∙◌, ⊎_elim, append_assoc, append-nil, add-one, arith}
use Rattle.std.proofs.lemmas.Bool.{cases_Bool, cond-true, cond-false, and_from, cases_eq, eq-eqb, ne_eqb, not_from_true, not_from_false, both_ways}
use Rattle.std.proofs.lemmas.List.{at_drop_more, at_drop_all, take_more_set, take_all, take-append-drop, map_more, get_or-set_same, get_or-set_other}
use Rattle.algebra.specs.Term.{Term, times, has, place}
use Rattle.algebra.specs.Border.{multiples_from, multiples, fresh, border}
use Rattle.algebra.proofs.Terms.{has_append_cases}
use Rattle.row.specs.declared.lead.Lead.{Lead}
use Rattle.row.specs.declared.lead.Lead.TheVariants.{Inside, OnBorder}
use Rattle.book.specs.Laying.{extended}
use Rattle.book.specs.Leading.{lead, leads_of}
use Rattle.book.specs.Kept.{begins, led}
use Rattle.book.proofs.Keeping.{begins_append}
use Rattle.term.specs.Search.{found}
use Rattle.book.proofs.Searching.{placed_has, found_some, found_none}

-- where its place is 0 a term is not there, and elsewhere it is
pub absent : (t : Term) (ts : List Term) (k : ℕ) → k ≡ place t ts → k ≡ 0 → has t ts ≡ false
absent t ts k e z = sym (placed_has t ts) ∙ not_from_true _ (eq-eqb (place t ts) 0 (sym e ∙ z))

pub present : (t : Term) (ts : List Term) (k : ℕ) → k ≡ place t ts → (k ≡ 0 → ⊥) → has t ts ≡ true
present t ts k e z = sym (placed_has t ts) ∙ not_from_false _ (ne_eqb (place t ts) 0 (λ p. z (e ∙ p)))

pub lead_inside : (S E : List Term) (e : Term) (k : ℕ) → found (place e S) ≡ Some k → Inside k ≡ lead S E e
lead_inside S E e k f = let p = found_some (place e S) k f in ap Inside p.0 ∙ sym (cond-true _ _ _ (present e S k p.0 p.1))

pub lead_outside : (S E : List Term) (e : Term) (o : Option ℕ) → found (place e S) ≡ None → o ≡ found (place e E) → OnBorder (unwrap_or o 0) ≡ lead S E e
lead_outside S E e o f is =
    ap OnBorder (ap (λ (x : Option ℕ). unwrap_or x 0) is ∙ found_or (place e E)) ∙ sym (cond-false _ _ _ (absent e S (place e S) refl (found_none (place e S) f)))
  where
    found_or : (k : ℕ) → unwrap_or (found k) 0 ≡ k
    found_or zero = refl
    found_or (suc k) = refl

-- one product
pub one_known : (S E : List Term) (e : Term) → has e (S ++ E) ≡ true → E ≡ extended S E (e ∷ [])
one_known S E e h = sym (append-nil E) ∙ ap (λ (es : List Term). E ++ es) (sym (cond-true (has e (S ++ E)) _ _ h))

pub one_new : (S E : List Term) (e : Term) → has e S ≡ false → has e E ≡ false → E ++ e ∷ [] ≡ extended S E (e ∷ [])
one_new S E e s h = ap (λ (es : List Term). E ++ es) (sym (cond-false (has e (S ++ E)) _ _ none))
  where
    none : has e (S ++ E) ≡ false
    none =
        ⊎_elim (λ k. ⊎_elim (λ p. absurd (both_ways _ s p)) (λ p. absurd (both_ways _ h p)) (has_append_cases e S E k)) (λ k. k)
        (cases_Bool (has e (S ++ E)))

-- products one after the other
fresh_append : (known xs ys : List Term) → fresh known (xs ++ ys) ≡ fresh known xs ++ fresh (known ++ fresh known xs) ys
fresh_append known [] ys = ap (λ (k : List Term). fresh k ys) (sym (append-nil known))
fresh_append known (x ∷ xs) ys = go (has x known) (fresh_append known xs ys) (fresh_append (known ++ x ∷ []) xs ys)
  where
    go : (b : Bool) → fresh known (xs ++ ys) ≡ fresh known xs ++ fresh (known ++ fresh known xs) ys → fresh (known ++ x ∷ []) (xs ++ ys) ≡ fresh (known ++ x ∷ []) xs ++ fresh ((known ++ x ∷ []) ++ fresh (known ++ x ∷ []) xs) ys → cond b (fresh known (xs ++ ys)) (x ∷ fresh (known ++ x ∷ []) (xs ++ ys)) ≡ cond b (fresh known xs) (x ∷ fresh (known ++ x ∷ []) xs) ++ fresh (known ++ cond b (fresh known xs) (x ∷ fresh (known ++ x ∷ []) xs)) ys
    go true old new = old
    go false old new =
        ap (λ (es : List Term). x ∷ es) (new ∙ ap (λ (k : List Term). fresh (known ++ x ∷ []) xs ++ fresh k ys) (append_assoc known (x ∷ []) (fresh (known ++ x ∷ []) xs)))

pub extended_more : (S E E' xs ys : List Term) → E' ≡ extended S E xs → extended S E (xs ++ ys) ≡ extended S E' ys
extended_more S E E' xs ys h =
    ap (λ (es : List Term). E ++ es) (fresh_append (S ++ E) xs ys)
    ∙ sym (append_assoc E (fresh (S ++ E) xs) (fresh ((S ++ E) ++ fresh (S ++ E) xs) ys))
    ∙ ap (λ (k : List Term). (E ++ fresh (S ++ E) xs) ++ fresh k ys) (append_assoc S E (fresh (S ++ E) xs))
    ∙ ap (λ (F : List Term). F ++ fresh (S ++ F) ys) (sym h)

-- the products of one term, from variable i on
pub products_more : (S E E' : List Term) (all : List Term) (n i : ℕ) (t : Term) → i < n → all ≡ extended S E (multiples_from i (n - i) t) → E' ≡ extended S E (times i t ∷ []) → all ≡ extended S E' (multiples_from (i + 1) (n - (i + 1)) t)
products_more S E E' all n i t l h e =
    let left : n - i ≡ suc (n - (i + 1)) = omega arith in
    h ∙ ap (λ (m : ℕ). extended S E (multiples_from i m t)) left
    ∙ extended_more S E E' (times i t ∷ []) (multiples_from (suc i) (n - (i + 1)) t) e
    ∙ ap (λ (k : ℕ). extended S E' (multiples_from k (n - (i + 1)) t)) (sym (add-one i))

pub products_all : (S E : List Term) (all : List Term) (n i : ℕ) (t : Term) → n ≤ i → all ≡ extended S E (multiples_from i (n - i) t) → E ≡ all
products_all S E all n i t l h =
    let none : n - i ≡ 0 = omega arith in
    sym (h ∙ ap (λ (m : ℕ). extended S E (multiples_from i m t)) none ∙ append-nil E)

-- the products of one term after the other
pub border_none : (n : ℕ) (S : List Term) → border n S ≡ extended S [] (multiples n S)
border_none n S = ap (λ (k : List Term). fresh k (multiples n S)) (sym (append-nil S))

pub border_more : (n j : ℕ) (S E E' : List Term) → j < length S → border n S ≡ extended S E (multiples n (drop j S)) → E' ≡ extended S E (multiples_from 0 n (get_or S j [])) → border n S ≡ extended S E' (multiples n (drop (j + 1) S))
border_more n j S E E' l h e =
    h ∙ at_drop_more (λ (ts : List Term). extended S E (multiples n ts)) S j [] l
    ∙ extended_more S E E' (multiples_from 0 n (get_or S j [])) (multiples n (drop (j + 1) S)) e

pub border_all : (n j : ℕ) (S E : List Term) → length S ≤ j → border n S ≡ extended S E (multiples n (drop j S)) → E ≡ border n S
border_all n j S E l h = sym (h ∙ at_drop_all (λ (ts : List Term). extended S E (multiples n ts)) S j l ∙ append-nil E)

-- the leads of one variable, one term after the other
pub leads_more : (S E S' : List Term) (i j : ℕ) (column : List Lead) (x : Lead) → j < length S' → j < length column → take j column ≡ leads_of S E i (take j S') → x ≡ lead S E (times i (get_or S' j [])) → take (j + 1) (set column j x) ≡ leads_of S E i (take (j + 1) S')
leads_more S E S' i j column x l room h e =
    take_more_set column j x room ∙ (λ k. h k ++ e k ∷ []) ∙ sym (map_more (λ (t : Term). lead S E (times i t)) S' j [] l)

pub leads_all : (S E S' : List Term) (i j : ℕ) (column : List Lead) → length S' ≤ j → take j column ≡ leads_of S E i (take j S') → begins (leads_of S E i S') column ≡ true
leads_all S E S' i j column l h =
    let front : take j column ≡ leads_of S E i S' = h ∙ ap (leads_of S E i) (take_all j S' l) in
    ap (begins (leads_of S E i S')) (sym (take-append-drop j column) ∙ ap (λ (ls : List Lead). ls ++ drop j column) front)
    ∙ begins_append (leads_of S E i S') (drop j column)

-- one column more
pub columns_more : (S E : List Term) (i : ℕ) (columns : List (List Lead)) (column : List Lead) → i < length columns → ((k : ℕ) → k < i → begins (leads_of S E k S) (get_or columns k []) ≡ true) → begins (leads_of S E i S) column ≡ true → (k : ℕ) → k < i + 1 → begins (leads_of S E k S) (get_or (set columns i column) k []) ≡ true
columns_more S E i columns column l h e k u = ⊎_elim here before (cases_eq k i)
  where
    here : k ≡ i → begins (leads_of S E k S) (get_or (set columns i column) k []) ≡ true
    here p =
        ap (λ (m : ℕ). begins (leads_of S E m S) (get_or (set columns i column) m [])) p
        ∙ ap (begins (leads_of S E i S)) (get_or-set_same columns i column [] l) ∙ e

    before : (k ≡ i → ⊥) → begins (leads_of S E k S) (get_or (set columns i column) k []) ≡ true
    before ne = ap (begins (leads_of S E k S)) (get_or-set_other columns i k column [] ne) ∙ h k (omega arith)

led_rest : (S E : List Term) (i n : ℕ) (columns : List (List Lead)) → ((k : ℕ) → i ≤ k → k < i + n → begins (leads_of S E k S) (get_or columns k []) ≡ true) → led S E i n columns ≡ true
led_rest S E i zero columns h = refl
led_rest S E i (suc n) columns h = and_from _ _ (h i (omega arith) (omega arith)) (led_rest S E (suc i) n columns (λ k l u. h k (omega arith) (omega arith)))

-- the columns of all variables
pub led_all : (S E : List Term) (n : ℕ) (columns : List (List Lead)) → ((k : ℕ) → k < n → begins (leads_of S E k S) (get_or columns k []) ≡ true) → led S E 0 n columns ≡ true
led_all S E n columns h = led_rest S E 0 n columns (λ k l u. h k (omega arith))
