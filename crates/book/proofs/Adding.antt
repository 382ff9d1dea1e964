-- A set that is connected to 1 stays so with a term that joins it. Assumes nothing.
use Rattle.std.proofs.Common.{◌≡◌, ℕ, true, false, not, ◌&&◌, List, [], ◌∷◌, ◌++◌, sym, refl, subst, append_assoc, append-nil}
use Rattle.std.proofs.lemmas.Bool.{and_parts, and_from, not_from_false}
use Rattle.algebra.specs.Term.{Term, one, same, has}
use Rattle.algebra.specs.Border.{multiples, grows}
use Rattle.book.specs.Judge.{joins}
use Rattle.book.specs.Kept.{terms_fit}

grows_more : (n : ℕ) (before ts : List Term) (t : Term) → grows n before ts ≡ true → has t (multiples n (before ++ ts)) ≡ true → has t (before ++ ts) ≡ false → grows n before (ts ++ t ∷ []) ≡ true
grows_more n before [] t g j new =
    and_from _ _ (and_from _ _ (subst (λ (xs : List Term). has t (multiples n xs) ≡ true) (append-nil before) j) (not_from_false _ (subst (λ (xs : List Term). has t xs ≡ false) (append-nil before) new))) refl
grows_more n before (u ∷ ts) t g j new =
    let p = and_parts (has u (multiples n before) && not (has u before)) (grows n (before ++ u ∷ []) ts) g in
    let e = sym (append_assoc before (u ∷ []) ts) in
    and_from _ _ p.0
    (grows_more n (before ++ u ∷ []) ts t p.1 (subst (λ (xs : List Term). has t (multiples n xs) ≡ true) e j) (subst (λ (xs : List Term). has t xs ≡ false) e new))

pub fit_more : (n : ℕ) (S : List Term) (t : Term) → terms_fit n S ≡ true → has t S ≡ false → joins n S t ≡ true → terms_fit n (S ++ t ∷ []) ≡ true
fit_more n [] t f new j = and_from (same t one) _ j refl
fit_more n (s ∷ S) t f new j =
    let p = and_parts (same s one) (grows n (s ∷ []) S) f in
    and_from (same s one) _ p.0 (grows_more n (s ∷ []) S t p.1 j new)
