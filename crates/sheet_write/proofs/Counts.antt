-- How many numbers a body holds, seen from its first number on and as a whole. Assumes nothing.
use Rattle.std.proofs.Common.{◌≡◌, ℕ, suc, ◌+◌, ◌<◌, ◌≤◌, true, false, eqb, leb, List, [], ◌∷◌, length, get_or, sym, ◌∙◌, subst, ⊎_elim, arith}
use Rattle.std.proofs.lemmas.Bool.{le-leb, lt-leb, leb-true, leb-false, eq-eqb, eqb-true, ne_eqb, cond-true, cond-false, cases_Bool}
use Rattle.sheet.specs.declared.kind.Kind.{Kind}
use Rattle.sheet.specs.declared.kind.Kind.TheVariants.{Term, Close, Rule, Check, Question, Strike}
use Rattle.sheet.specs.Body.{total, goes_on, is_full, whole_after}
use Rattle.sheet_write.specs.Writing.{right_count}

module _ (kind : Kind) (n : ℕ) where
  -- numbers that a body takes from its j-th on, each with room for it, and none missing at the end
  abbrev pub Counted : ℕ → ℕ → List ℕ → Type 0
  Counted j whole [] = whole ≤ j
  Counted j whole (x ∷ xs) = (is_full kind j whole ≡ false) × Counted (j + 1) (whole_after kind n j x whole) xs

  same_whole : (j x whole : ℕ) → 1 ≤ j → whole_after kind n j x whole ≡ whole
  same_whole j x whole h = cond-false _ _ _ (ne_eqb j 0 (λ z. omega arith))

  -- past the first number the count is fixed
  open_counted : (xs : List ℕ) (j whole : ℕ) → goes_on kind ≡ true → 1 ≤ j → whole ≤ j + length xs → Counted j whole xs
  open_counted [] j whole on some h = omega arith
  open_counted (x ∷ xs) j whole on some h =
      (cond-true _ _ _ on, subst (λ w. Counted (j + 1) w xs) (sym (same_whole j x whole some)) (open_counted xs (j + 1) whole on (omega arith) (omega arith)))

  counted_open : (xs : List ℕ) (j whole : ℕ) → 1 ≤ j → Counted j whole xs → whole ≤ j + length xs
  counted_open [] j whole some h = omega arith
  counted_open (x ∷ xs) j whole some h =
      let rest = counted_open xs (j + 1) whole (omega arith) (subst (λ w. Counted (j + 1) w xs) (same_whole j x whole some) h.1) in omega arith

  shut_counted : (xs : List ℕ) (j whole : ℕ) → goes_on kind ≡ false → 1 ≤ j → j + length xs ≡ whole → Counted j whole xs
  shut_counted [] j whole shut some h = omega arith
  shut_counted (x ∷ xs) j whole shut some h = (
    cond-false _ _ _ shut ∙ lt-leb whole j (omega arith),
    subst (λ w. Counted (j + 1) w xs) (sym (same_whole j x whole some)) (shut_counted xs (j + 1) whole shut (omega arith) (omega arith)),
  )

  counted_shut : (xs : List ℕ) (j whole : ℕ) → goes_on kind ≡ false → 1 ≤ j → j ≤ whole → Counted j whole xs → j + length xs ≡ whole
  counted_shut [] j whole shut some low h = omega arith
  counted_shut (x ∷ xs) j whole shut some low h =
      let room : j < whole = leb-false whole j (sym (cond-false (goes_on kind) _ _ shut) ∙ h.0) in
      let rest = counted_shut xs (j + 1) whole shut (omega arith) (omega arith) (subst (λ w. Counted (j + 1) w xs) (same_whole j x whole some) h.1) in omega arith

-- a first number says how many there are, but not whether there is one
first_some : (kind : Kind) (n x : ℕ) → 0 < total kind n x → 0 < total kind n 0
first_some Term n x h = h
first_some Close n x h = h
first_some Rule n x h = h
first_some Check n x h = h
first_some Question n x h = omega arith
first_some Strike n x h = h

some_first : (kind : Kind) (n x : ℕ) → 0 < total kind n 0 → 0 < total kind n x
some_first Term n x h = h
some_first Close n x h = h
some_first Rule n x h = h
some_first Check n x h = h
some_first Question n x h = omega (arith)
some_first Strike n x h = h

module _ (kind : Kind) (n : ℕ) where
  right_open : (xs : List ℕ) → goes_on kind ≡ true → right_count kind n xs ≡ leb (total kind n (get_or xs 0 0)) (length xs)
  right_open xs on = cond-true _ _ _ on

  right_shut : (xs : List ℕ) → goes_on kind ≡ false → right_count kind n xs ≡ eqb (length xs) (total kind n (get_or xs 0 0))
  right_shut xs shut = cond-false _ _ _ shut

  pub counted_from_right : (xs : List ℕ) → right_count kind n xs ≡ true → Counted kind n 0 (total kind n 0) xs
  counted_from_right [] h =
      ⊎_elim
      (λ on. leb-true (total kind n 0) 0 (sym (right_open [] on) ∙ h))
      (λ shut. let e = eqb-true 0 (total kind n 0) (sym (right_shut [] shut) ∙ h) in omega arith)
      (cases_Bool (goes_on kind))
  counted_from_right (x ∷ xs) h =
      ⊎_elim
      (λ on. let low = leb-true (total kind n x) (suc (length xs)) (sym (right_open (x ∷ xs) on) ∙ h) in
      (cond-true _ _ _ on, open_counted kind n xs 1 (total kind n x) on (omega arith) (omega arith)))
      (λ shut. let same = eqb-true (suc (length xs)) (total kind n x) (sym (right_shut (x ∷ xs) shut) ∙ h) in
      (cond-false _ _ _ shut ∙ lt-leb (total kind n 0) 0 (first_some kind n x (omega arith)), shut_counted kind n xs 1 (total kind n x) shut (omega arith) (omega arith)))
      (cases_Bool (goes_on kind))

  pub right_from_counted : (xs : List ℕ) → Counted kind n 0 (total kind n 0) xs → right_count kind n xs ≡ true
  right_from_counted [] h =
      ⊎_elim
      (λ on. right_open [] on ∙ le-leb (total kind n 0) 0 h)
      (λ shut. right_shut [] shut ∙ eq-eqb 0 (total kind n 0) (omega arith))
      (cases_Bool (goes_on kind))
  right_from_counted (x ∷ xs) h =
      ⊎_elim
      (λ on. right_open (x ∷ xs) on ∙ le-leb (total kind n x) (suc (length xs)) (let low = counted_open kind n xs 1 (total kind n x) (omega arith) h.1 in omega arith))
      (λ shut.
      let room : 0 < total kind n 0 = leb-false (total kind n 0) 0 (sym (cond-false (goes_on kind) _ _ shut) ∙ h.0) in
      let some = some_first kind n x room in
      let same = counted_shut kind n xs 1 (total kind n x) shut (omega arith) (omega arith) h.1 in
      right_shut (x ∷ xs) shut ∙ eq-eqb (suc (length xs)) (total kind n x) (omega arith))
      (cases_Bool (goes_on kind))
