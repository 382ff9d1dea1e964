-- The bytes of numbers one after another, and the limits of numbers one after another. Assumes nothing.
use Rattle.std.proofs.Common.{◌≡◌, ℕ, ◌+◌, ◌<◌, ◌≤◌, ◌&&◌, leb, List, [], ◌∷◌, ◌++◌, length, get_or, take, drop, None, sym, refl, ap, ◌∙◌, append_assoc, append-nil, arith, length-append, take-append-drop}
use Rattle.std.proofs.lemmas.List.{take_more, at_drop_more}
use Rattle.std.proofs.lemmas.Bool.{le-leb, lt-leb, cond-false, and_right}
use Rattle.sheet.specs.declared.kind.Kind.{Kind}
use Rattle.sheet.specs.Number.{number_bytes}
use Rattle.sheet.specs.Body.{limit_at}
use Rattle.sheet_write.specs.Writing.{flat, allowed, body_size}

pub flat_append : (xs ys : List ℕ) → flat (xs ++ ys) ≡ flat xs ++ flat ys
flat_append [] ys = refl
flat_append (x ∷ xs) ys = ap (λ bs. number_bytes x ++ bs) (flat_append xs ys) ∙ sym (append_assoc (number_bytes x) (flat xs) (flat ys))

-- one more number
pub flat_more : (xs : List ℕ) (j : ℕ) → j < length xs → flat (take (j + 1) xs) ≡ flat (take j xs) ++ number_bytes (get_or xs j 0)
flat_more xs j h =
    ap flat (take_more xs j 0 h) ∙ flat_append (take j xs) (get_or xs j 0 ∷ []) ∙ ap (λ bs. flat (take j xs) ++ bs) (append-nil (number_bytes (get_or xs j 0)))

-- the first numbers take no more bytes than all
pub flat_front : (xs : List ℕ) (j : ℕ) → length (flat (take j xs)) ≤ length (flat xs)
flat_front xs j =
    let e = ap length (ap flat (sym (take-append-drop j xs)) ∙ flat_append (take j xs) (drop j xs)) ∙ length-append (flat (take j xs)) (flat (drop j xs)) in
    omega (arith, e)

pub more_length : (xs : List ℕ) (j : ℕ) → j < length xs → length (flat (take (j + 1) xs)) ≡ length (flat (take j xs)) + length (number_bytes (get_or xs j 0))
more_length xs j h = ap length (flat_more xs j h) ∙ length-append (flat (take j xs)) (number_bytes (get_or xs j 0))

module _ (kind : Kind) (n : ℕ) (xs : List ℕ) where
  pub allowed_more : (j : ℕ) → j < length xs → get_or xs j 0 ≤ limit_at kind n j → allowed kind n j (drop j xs) ≡ allowed kind n (j + 1) (drop (j + 1) xs)
  allowed_more j h low =
      let t : allowed kind n j (drop j xs) ≡ (leb (get_or xs j 0) (limit_at kind n j) && allowed kind n (j + 1) (drop (j + 1) xs)) = at_drop_more (allowed kind n j) xs j 0 h in
      t ∙ ap (λ b. b && allowed kind n (j + 1) (drop (j + 1) xs)) (le-leb (get_or xs j 0) (limit_at kind n j) low)

  pub size_past : 65520 < length (flat xs) → None ≡ body_size kind n xs
  size_past h = sym (cond-false _ _ _ (and_right (allowed kind n 0 xs) (leb (length (flat xs)) 65520) (lt-leb (length (flat xs)) 65520 h)))
