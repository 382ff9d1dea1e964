-- Numbers that come out one by one into an array or an output. Assumes nothing.
use Rattle.std.proofs.Common.{◌≡◌, ℕ, ◌+◌, ◌-◌, ◌<◌, ◌≤◌, min, List, [], ◌∷◌, ◌++◌, length, get_or, take, drop, set, Some, None, Option, MatchOption, unwrap_or, sym, refl, ap, ◌∙◌, ⊎_elim, append_assoc, add-zero, arith, length-append, length-drop}
use Rattle.std.proofs.lemmas.Bool.{cases_lt, cond-true, cond-false, lt-ltb, le-ltb}
use Rattle.std.proofs.lemmas.List.{take_more, drop_more, drop-drop, set_at, length-take-le, get_or-drop, get_or-replicate, get_or_append_left, get_or-append_right}
use Rattle.std.proofs.lemmas.List.FromFn.{fill_by_all}
use Rattle.std.specs.Prelude.{replicate}
use Rattle.sheet.specs.Numbers.{first, exponent_at, exponents_of}

-- the number that comes out is the first of those that were left, and the others are left
pub next_first : (ys zs : List ℕ) (o : Option ℕ) → MatchOption o ((ys ≡ []) × (zs ≡ [])) (λ x. ys ≡ x ∷ zs) → (o ≡ first ys) × (zs ≡ drop 1 ys)
next_first ys zs None h = (ap first (sym h.0), h.1 ∙ ap (drop 1) (sym h.0))
next_first ys zs (Some x) h = (ap first (sym h), ap (drop 1) (sym h))

pub first_or : (xs : List ℕ) → unwrap_or (first xs) 0 ≡ get_or xs 0 0
first_or [] = refl
first_or (x ∷ xs) = refl

-- it is the element at the place
pub next_at : (xs ys zs : List ℕ) (k : ℕ) (o : Option ℕ) → ys ≡ drop k xs → MatchOption o ((ys ≡ []) × (zs ≡ [])) (λ x. ys ≡ x ∷ zs) → (unwrap_or o 0 ≡ get_or xs k 0) × (zs ≡ drop (k + 1) xs)
next_at xs ys zs k o e step =
    let came = next_first ys zs o step in (
      ap (λ p. unwrap_or p 0) (came.0 ∙ ap first e) ∙ first_or (drop k xs) ∙ get_or-drop k xs 0 0 ∙ ap (λ i. get_or xs i 0) (add-zero k),
      came.1 ∙ ap (drop 1) e ∙ drop-drop 1 k xs,
    )

-- the exponents that came out, and 0 for the others
pub exponents_out : (xs out : List ℕ) (n : ℕ) → n ≤ 8 → length out ≡ n → ((k : ℕ) → k < n → get_or out k 0 ≡ min (get_or xs k 0) 255) → out ++ drop n (replicate 8 0) ≡ exponents_of n xs
exponents_out xs out n h e here =
    let none : List ℕ = replicate 8 0 in
    fill_by_all (exponent_at n xs) (out ++ drop n none) 8 0 (omega (arith, length-append out (drop n none), length-drop n none))
    (λ k low. ⊎_elim
    (λ inside. get_or_append_left out (drop n none) 0 k (omega arith) ∙ here k inside ∙ sym (cond-true _ _ _ (lt-ltb k n inside)))
    (λ past. let at : n + (k - n) ≡ k = omega arith in
    get_or-append_right out (drop n none) n k 0 e past ∙ get_or-drop n none (k - n) 0 ∙ ap (λ i. get_or none i 0) at ∙ get_or-replicate 8 k 0 0 low
    ∙ sym (cond-false _ _ _ (le-ltb k n past)))
    (cases_lt k n))

-- one more number comes out
pub copy_step : (xs ys out was : List ℕ) (k x : ℕ) → out ≡ take k xs ++ drop k was → drop k xs ≡ x ∷ ys → k < length was → (k + 1 ≤ length xs) × (set out k x ≡ take (k + 1) xs ++ drop (k + 1) was) × (ys ≡ drop (k + 1) xs)
copy_step xs ys out was k x e f low =
    let inside : k < length xs = omega (arith, ap length f, length-drop k xs) in
    let g : get_or xs k 0 ∷ drop (k + 1) xs ≡ x ∷ ys = sym (drop_more xs k 0 inside) ∙ f in
    let is : x ≡ get_or xs k 0 = cc in (
      omega arith,
      ap (λ bs. set bs k x) (e ∙ ap (λ bs. take k xs ++ bs) (drop_more was k 0 low))
          ∙ set_at (take k xs) (get_or was k 0) (drop (k + 1) was) x k (length-take-le k xs (omega arith))
          ∙ ap (λ v. take k xs ++ (v ∷ drop (k + 1) was)) is
          ∙ sym (append_assoc (take k xs) (get_or xs k 0 ∷ []) (drop (k + 1) was))
          ∙ ap (λ bs. bs ++ drop (k + 1) was) (sym (take_more xs k 0 inside)),
      cc,
    )
