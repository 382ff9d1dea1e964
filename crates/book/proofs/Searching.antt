-- What a search over places finds. Assumes nothing.
use Rattle.std.proofs.Common.{◌≡◌, ℕ, zero, suc, ◌+◌, ◌<◌, ◌≤◌, Bool, true, false, cond, not, ◌||◌, eqb, List, [], ◌∷◌, length, is_some, Some, None, Option, IfSome, sym, refl, ap, ◌∙◌, subst, add-one, arith}
use lib.Dec.{eqb-suc-zero}
use Rattle.algebra.specs.Term.{Term, same, has, place, next_place}
use Rattle.term.specs.Search.{first_place, found}
use Rattle.term.proofs.Places.{place_first}

not_zero_next : (k : ℕ) → not (eqb (next_place k) 0) ≡ not (eqb k 0)
not_zero_next zero = refl
not_zero_next (suc k) = ap not (eqb-suc-zero (suc k)) ∙ sym (ap not (eqb-suc-zero k))

-- a term is there where its place is not 0
pub placed_has : (t : Term) (ts : List Term) → not (eqb (place t ts) 0) ≡ has t ts
placed_has t [] = refl
placed_has t (u ∷ ts) = go (same t u) (placed_has t ts)
  where
    go : (b : Bool) → not (eqb (place t ts) 0) ≡ has t ts → not (eqb (cond b 1 (next_place (place t ts))) 0) ≡ (b || has t ts)
    go true h = refl
    go false h = not_zero_next (place t ts) ∙ h

pub first_place_within : {X : Type 0} (f : X → Bool) (xs : List X) → first_place f xs ≤ length xs
first_place_within f [] = omega arith
first_place_within f (x ∷ xs) = go (f x) (first_place f xs) (first_place_within f xs)
  where
    go : (b : Bool) (k : ℕ) → k ≤ length xs → cond b 1 (next_place k) ≤ suc (length xs)
    go true k h = omega arith
    go false zero h = omega arith
    go false (suc k) h = omega arith

-- a place that is none stays none
pub next_zero : (k : ℕ) → next_place k ≡ 0 → k ≡ 0
next_zero zero e = refl
next_zero (suc k) e = absurd (omega arith)

-- a place counted from 1 is an answer
pub found_next : (k : ℕ) → Some (k + 1) ≡ found (k + 1)
found_next k = ap Some (add-one k) ∙ sym (ap found (add-one k))

pub found_has : (t : Term) (ts : List Term) → is_some (found (place t ts)) ≡ has t ts
found_has t ts = go (place t ts) ∙ placed_has t ts
  where
    go : (k : ℕ) → is_some (found k) ≡ not (eqb k 0)
    go zero = refl
    go (suc k) = sym (ap not (eqb-suc-zero k))

pub found_within : (k n : ℕ) (o : Option ℕ) → o ≡ found k → k ≤ n → IfSome o (λ j. j ≤ n)
found_within zero n o e l = subst (λ (x : Option ℕ). IfSome x (λ j. j ≤ n)) (sym e) tt
found_within (suc k) n o e l = subst (λ (x : Option ℕ). IfSome x (λ j. j ≤ n)) (sym e) l

pub place_within : (t : Term) (ts : List Term) → place t ts ≤ length ts
place_within t ts = subst (λ (k : ℕ). k ≤ length ts) (sym (place_first t ts)) (first_place_within (same t) ts)

-- a place that was found, and none
pub found_some : (k j : ℕ) → found k ≡ Some j → (j ≡ k) × (j ≡ 0 → ⊥)
found_some zero j e = let z : ◌≡◌ {A = ℕ} 0 1 = cc in absurd (omega arith)
found_some (suc k) j e = let p : suc k ≡ j = cc in (sym p, λ z. absurd (omega arith))

pub found_none : (k : ℕ) → found k ≡ None → k ≡ 0
found_none zero e = refl
found_none (suc k) e = let z : ◌≡◌ {A = ℕ} 0 1 = cc in absurd (omega arith)
