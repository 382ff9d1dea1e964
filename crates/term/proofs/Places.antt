-- The searches of this crate in the library's words. Assumes nothing.
use Rattle.std.proofs.Common.{◌≡◌, ℕ, zero, suc, ◌+◌, ◌-◌, Bool, true, false, cond, not, ◌||◌, ◌&&◌, eqb, ltb, ◌<◌, ◌≤◌, ⊎_elim, List, [], ◌∷◌, length, get_or, set, drop, Some, None, Option, sym, refl, ap, ◌∙◌, add-one, arith}
use Rattle.std.specs.List.{list_any, list_all, position, position_from, range_with_len, sum_by}
use Rattle.std.specs.Option.{option_map}
use Rattle.std.proofs.lemmas.Iterator.Adapters.{position_from-zero}
use Rattle.std.proofs.lemmas.List.Quantifiers.{position-Some}
use Rattle.std.proofs.lemmas.List.Sums.{sum_by_from}
use Rattle.std.proofs.lemmas.Bool.{lt-ltb, le-ltb, cases_lt, both_ways, cond-true, eqb-true, ne_eqb, not-false, not_from_false}
use Rattle.algebra.specs.Term.{Term, next_place, same, has, place, times, degree, zero_past}
use Rattle.algebra.specs.Border.{multiples_from, multiples}
use Rattle.term.specs.Search.{first_place, found}
use Rattle.term.specs.Letters.{shifted, first_variable}
use Rattle.term.proofs.Letters.{variable_found}
use Rattle.term.proofs.Exponents.{has_append}

pub has_any : (t : Term) (ts : List Term) → list_any (same t) ts ≡ has t ts
has_any t [] = refl
has_any t (u ∷ us) = ap (λ (b : Bool). same t u || b) (has_any t us)

pub joins_any : (t s : Term) (i n : ℕ) → list_any (λ (j : ℕ). same t (times j s)) (range_with_len i n) ≡ has t (multiples_from i n s)
joins_any t s i zero = refl
joins_any t s i (suc n) =
    ap (λ (b : Bool). same t (times i s) || b)
    (ap (λ (k : ℕ). list_any (λ (j : ℕ). same t (times j s)) (range_with_len k n)) (add-one i) ∙ joins_any t s (suc i) n)

pub joined_any : (t : Term) (n : ℕ) (ts : List Term) → list_any (λ (s : Term). has t (multiples_from 0 n s)) ts ≡ has t (multiples n ts)
joined_any t n [] = refl
joined_any t n (s ∷ ts) =
    ap (λ (b : Bool). has t (multiples_from 0 n s) || b) (joined_any t n ts) ∙ sym (has_append t (multiples_from 0 n s) (multiples n ts))

pub zero_past_all : (n : ℕ) (t : Term) → list_all (λ (e : ℕ). eqb e 0) (drop n t) ≡ zero_past n t
zero_past_all zero [] = refl
zero_past_all (suc n) [] = refl
zero_past_all zero (e ∷ t) = ap (λ (b : Bool). eqb e 0 && b) (zero_past_all zero t)
zero_past_all (suc n) (e ∷ t) = zero_past_all n t

-- the exponents from place i on, asked one by one
zero_past_range : (n i : ℕ) (t u : Term) → ((j : ℕ) → get_or t (i + j) 0 ≡ get_or u j 0) → list_all (λ (k : ℕ). ltb k n || eqb (get_or t k 0) 0) (range_with_len i (length u)) ≡ zero_past (n - i) u
zero_past_range n i t [] h = refl
zero_past_range n i t (e ∷ u) h =
    let first : i ≡ i + 0 = omega arith in
    let here : get_or t i 0 ≡ e = ap (λ (k : ℕ). get_or t k 0) first ∙ h 0 in
    let rest = zero_past_range n (i + 1) t u (λ j. let z : i + 1 + j ≡ i + suc j = omega arith in ap (λ (k : ℕ). get_or t k 0) z ∙ h (suc j)) in
    ⊎_elim (before rest) (from here rest) (cases_lt i n)
  where
    before : list_all (λ (k : ℕ). ltb k n || eqb (get_or t k 0) 0) (range_with_len (i + 1) (length u)) ≡ zero_past (n - (i + 1)) u → i < n → (ltb i n || eqb (get_or t i 0) 0) && list_all (λ (k : ℕ). ltb k n || eqb (get_or t k 0) 0) (range_with_len (i + 1) (length u)) ≡ zero_past (n - i) (e ∷ u)
    before rest l =
        let z : n - i ≡ suc (n - (i + 1)) = omega (arith, l) in
        ap (λ (b : Bool). (b || eqb (get_or t i 0) 0) && list_all (λ (k : ℕ). ltb k n || eqb (get_or t k 0) 0) (range_with_len (i + 1) (length u))) (lt-ltb i n l)
        ∙ rest ∙ sym (ap (λ (k : ℕ). zero_past k (e ∷ u)) z)

    from : get_or t i 0 ≡ e → list_all (λ (k : ℕ). ltb k n || eqb (get_or t k 0) 0) (range_with_len (i + 1) (length u)) ≡ zero_past (n - (i + 1)) u → n ≤ i → (ltb i n || eqb (get_or t i 0) 0) && list_all (λ (k : ℕ). ltb k n || eqb (get_or t k 0) 0) (range_with_len (i + 1) (length u)) ≡ zero_past (n - i) (e ∷ u)
    from here rest l =
        let z : n - i ≡ 0 = omega (arith, l) in
        let y : n - (i + 1) ≡ 0 = omega (arith, l) in
        (λ p. (le-ltb i n l p || eqb (here p) 0) && (rest ∙ ap (λ (k : ℕ). zero_past k u) y) p) ∙ sym (ap (λ (k : ℕ). zero_past k (e ∷ u)) z)

pub zero_past_asked : (n m : ℕ) (t : Term) → length t ≡ m → list_all (λ (k : ℕ). ltb k n || eqb (get_or t k 0) 0) (range_with_len 0 m) ≡ zero_past n t
zero_past_asked n m t l =
    let none : n - 0 ≡ n = omega arith in
    ap (λ (k : ℕ). list_all (λ (k : ℕ). ltb k n || eqb (get_or t k 0) 0) (range_with_len 0 k)) (sym l)
    ∙ zero_past_range n 0 t t (λ j. let z : 0 + j ≡ j = omega arith in ap (λ (k : ℕ). get_or t k 0) z)
    ∙ ap (λ (k : ℕ). zero_past k t) none

-- where a search with a first element at place i ends, from its place counted from 1
abbrev placed : ℕ → ℕ → Option ℕ
placed i zero = None
placed i (suc k) = Some (i + k)

placed_next : (i k : ℕ) → placed (i + 1) k ≡ placed i (next_place k)
placed_next i zero = refl
placed_next i (suc k) = ap Some (omega arith)

position_placed : {X : Type 0} (f : X → Bool) (i : ℕ) (xs : List X) → position_from f i xs ≡ placed i (first_place f xs)
position_placed f i [] = refl
position_placed f i (x ∷ xs) = chosen (f x) (position_placed f (i + 1) xs ∙ placed_next i (first_place f xs))
  where
    chosen : (b : Bool) → position_from f (i + 1) xs ≡ placed i (next_place (first_place f xs)) → cond b (Some i) (position_from f (i + 1) xs) ≡ placed i (cond b 1 (next_place (first_place f xs)))
    chosen true e = ap Some (omega arith)
    chosen false e = e

placed_found : (k : ℕ) → option_map (λ j. j + 1) (placed 0 k) ≡ found k
placed_found zero = refl
placed_found (suc k) = ap Some (omega arith)

-- the library's position, counted from 1
pub first_position : {X : Type 0} (f : X → Bool) (xs : List X) → option_map (λ j. j + 1) (position f xs) ≡ found (first_place f xs)
first_position f xs = ap (option_map (λ j. j + 1)) (position_from-zero f xs ∙ position_placed f 0 xs) ∙ placed_found (first_place f xs)

-- the place of a term is the first that is the same
pub place_first : (t : Term) (ts : List Term) → place t ts ≡ first_place (same t) ts
place_first t [] = refl
place_first t (u ∷ us) = ap (λ (k : ℕ). cond (same t u) 1 (next_place k)) (place_first t us)

pub place_position : (t : Term) (ts : List Term) → option_map (λ j. j + 1) (position (same t) ts) ≡ found (place t ts)
place_position t ts = first_position (same t) ts ∙ ap found (sym (place_first t ts))

abbrev pub nonzero : ℕ → Bool
nonzero e = not (eqb e 0)

pub variable_at : (t : Term) (k : ℕ) → position nonzero t ≡ Some k → Some (k, set t k (get_or t k 0 - 1)) ≡ first_variable t
variable_at t k e =
    let p = position-Some nonzero t k 0 e in
    variable_found t k p.0 (λ j l. eqb-true (get_or t j 0) 0 (not-false _ (p.2 j l))) (λ z. both_ways (nonzero (get_or t k 0)) (ap nonzero z) p.1)

none_from : (i : ℕ) (t : Term) → position_from nonzero i t ≡ None → None ≡ first_variable t
none_from i [] e = refl
none_from i (zero ∷ t) e = ap (shifted 0) (none_from (i + 1) t e)
none_from i (suc k ∷ t) e =
    let there : Some i ≡ None = sym (cond-true (nonzero (suc k)) (Some i) _ (not_from_false _ (ne_eqb (suc k) 0 (λ p. absurd (omega arith))))) ∙ e in
    let z : ◌≡◌ {A = ℕ} 0 1 = cc in absurd (omega arith)

pub no_variable : (t : Term) → position nonzero t ≡ None → None ≡ first_variable t
no_variable t e = none_from 0 t (sym (position_from-zero nonzero t) ∙ e)

pub degree_sum : (t : Term) → sum_by (λ e. e) t ≡ degree t
degree_sum [] = refl
degree_sum (e ∷ t) = sum_by_from (λ k. k) (0 + e) t ∙ (let d = degree_sum t in omega arith)
