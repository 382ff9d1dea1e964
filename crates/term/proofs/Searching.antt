-- The first place that passes a test, found by going over a list. Assumes nothing.
use Rattle.std.proofs.Common.{◌≡◌, ℕ, zero, suc, ◌+◌, ◌<◌, ◌≤◌, Bool, true, false, List, [], ◌∷◌, length, get_or, sym, refl, ap, ◌∙◌, add-one, arith}
use Rattle.std.specs.List.{AllWithin}
use Rattle.std.proofs.lemmas.List.Elements.{AllWithin-none, AllWithin-more, at_read}
use Rattle.std.proofs.lemmas.Bool.{cond-true, cond-false}
use Rattle.algebra.specs.Term.{next_place}
use Rattle.term.specs.Search.{first_place}

-- no element before place k passes
abbrev pub PassedOver : {X : Type 0} → (X → Bool) → List X → ℕ → Type 0
PassedOver f xs k = AllWithin (λ x. f x ≡ false) xs 0 k

later : {X : Type 0} (f : X → Bool) (x : X) (xs : List X) (k : ℕ) → PassedOver f (x ∷ xs) (suc k) → PassedOver f xs k
later f x xs k h j d l u = h (suc j) d (omega arith) (omega arith)

pub none_before : {X : Type 0} (f : X → Bool) (xs : List X) → PassedOver f xs 0
none_before f xs = AllWithin-none (λ x. f x ≡ false) xs 0

pub one_more : {X : Type 0} (f : X → Bool) (xs : List X) (k : ℕ) (x : X) → k < length xs → x ≡ get_or xs k x → PassedOver f xs k → false ≡ f x → PassedOver f xs (k + 1)
one_more f xs k x l r h e = AllWithin-more (λ y. f y ≡ false) xs 0 k h (at_read xs (λ y. f y ≡ false) k x l r (sym e))

found_at : {X : Type 0} (f : X → Bool) (xs : List X) (k : ℕ) (d : X) → k < length xs → PassedOver f xs k → f (get_or xs k d) ≡ true → suc k ≡ first_place f xs
found_at f [] k d l h t = absurd (omega arith)
found_at f (x ∷ xs) zero d l h t = sym (cond-true (f x) 1 _ t)
found_at f (x ∷ xs) (suc k) d l h t =
    ap next_place (found_at f xs k d (omega arith) (later f x xs k h) t) ∙ sym (cond-false (f x) 1 _ (h 0 d (omega arith) (omega arith)))

pub first_found : {X : Type 0} (f : X → Bool) (xs : List X) (k : ℕ) (x : X) → k < length xs → x ≡ get_or xs k x → PassedOver f xs k → true ≡ f x → k + 1 ≡ first_place f xs
first_found f xs k x l r h e = add-one k ∙ found_at f xs k x l h (ap f (sym r) ∙ sym e)

pub first_absent : {X : Type 0} (f : X → Bool) (xs : List X) (k : ℕ) → length xs ≤ k → PassedOver f xs k → 0 ≡ first_place f xs
first_absent f [] k l h = refl
first_absent f (x ∷ xs) zero l h = absurd (omega arith)
first_absent f (x ∷ xs) (suc k) l h =
    ap next_place (first_absent f xs k (omega arith) (later f x xs k h)) ∙ sym (cond-false (f x) 1 _ (h 0 x (omega arith) (omega arith)))
