-- Terms by their exponents: comparison, and products with variables. Assumes nothing.
use Rattle.std.proofs.Common.{◌≡◌, ℕ, zero, suc, ◌<◌, ◌+◌, Bool, true, false, cond, ◌||◌, ◌&&◌, eqb, w64, add-one, add-zero, List, [], ◌∷◌, ◌++◌, length, get_or, sym, refl, ap, ◌∙◌, arith}
use Rattle.std.specs.Int.{from_le_bytes, to_le_bytes}
use Rattle.std.proofs.lemmas.Nat.{le_bytes_8}
use Rattle.std.proofs.lemmas.Bool.{eq-eqb, ne_eqb}
use Rattle.std.specs.List.{list_all, range_with_len}
use lib.Dec.{eqb-suc-zero, eqb-zero-suc, eqb-suc-suc}
use Rattle.algebra.specs.Term.{Term, times, same, has}
use Rattle.algebra.proofs.Terms.{same_true, apart, times_length}

-- two terms of bytes are the same where their numbers are
pub same_numbers : (t u : Term) (m n : ℕ) → length t ≡ 8 → length u ≡ 8 → ((i : ℕ) → get_or t i 0 < 256) → ((i : ℕ) → get_or u i 0 < 256)
    → m ≡ from_le_bytes w64 t → n ≡ from_le_bytes w64 u → eqb m n ≡ same t u
same_numbers t u m n lt lu bt bu p q = go (same t u) refl
  where
    go : (b : Bool) → same t u ≡ b → eqb m n ≡ same t u
    go true e = eq-eqb m n (p ∙ ap (from_le_bytes w64) (same_true t u e) ∙ sym q) ∙ sym e
    go false e = ne_eqb m n (λ s. apart t u e (sym (le_bytes_8 t m lt bt p) ∙ ap (to_le_bytes w64) s ∙ le_bytes_8 u n lu bu q)) ∙ sym e

-- the exponents of the product with a variable
exponent_at : (i : ℕ) (t : Term) (j : ℕ) → j < length t → get_or (times i t) j 0 ≡ get_or t j 0 + cond (eqb j i) 1 0
exponent_at i [] j l = absurd (omega arith)
exponent_at zero (e ∷ t) zero l = sym (add-one e)
exponent_at zero (e ∷ t) (suc j) l = sym (ap (λ (b : Bool). get_or t j 0 + cond b 1 0) (eqb-suc-zero j) ∙ add-zero (get_or t j 0))
exponent_at (suc i) (e ∷ t) zero l = sym (ap (λ (b : Bool). e + cond b 1 0) (eqb-zero-suc i) ∙ add-zero e)
exponent_at (suc i) (e ∷ t) (suc j) l = exponent_at i t j (omega arith) ∙ ap (λ (b : Bool). get_or t j 0 + cond b 1 0) (sym (eqb-suc-suc j i))

-- two terms are the same where they are, exponent by exponent
same_each : (f : ℕ → Bool) (o : ℕ) (t u : Term) → length t ≡ length u → ((j : ℕ) → j < length t → f (o + j) ≡ eqb (get_or t j 0) (get_or u j 0)) → list_all f (range_with_len o (length t)) ≡ same t u
same_each f o [] [] l h = refl
same_each f o [] (b ∷ u) l h = absurd (omega arith)
same_each f o (a ∷ t) [] l h = absurd (omega arith)
same_each f o (a ∷ t) (b ∷ u) l h =
    let z : o ≡ o + 0 = omega arith in
    let first : f o ≡ eqb a b = ap f z ∙ h 0 (omega arith) in
    let others = same_each f (o + 1) t u (omega arith) (λ j k. let y : o + 1 + j ≡ o + suc j = omega arith in ap f y ∙ h (suc j) (omega (arith, k))) in
    λ p. first p && others p

pub product_each : (i m : ℕ) (t s : Term) → length t ≡ m → length s ≡ m → list_all (λ (k : ℕ). eqb (get_or t k 0) (get_or s k 0 + cond (eqb k i) 1 0)) (range_with_len 0 m) ≡ same t (times i s)
product_each i m t s p q =
    let f : ℕ → Bool = λ k. eqb (get_or t k 0) (get_or s k 0 + cond (eqb k i) 1 0) in
    ap (λ (k : ℕ). list_all f (range_with_len 0 k)) (sym p)
    ∙ same_each f 0 t (times i s) (p ∙ sym q ∙ sym (times_length i s)) (λ j l. let z : 0 + j ≡ j = omega arith in ap f z ∙ ap (eqb (get_or t j 0)) (sym (exponent_at i s j (omega (arith, l, p, q)))))

pub has_append : (t : Term) (ts us : List Term) → has t (ts ++ us) ≡ (has t ts || has t us)
has_append t [] us = refl
has_append t (u ∷ ts) us = ap (λ (b : Bool). same t u || b) (has_append t ts us) ∙ or_assoc (same t u) (has t ts) (has t us)
  where
    or_assoc : (x y z : Bool) → (x || (y || z)) ≡ ((x || y) || z)
    or_assoc true y z = refl
    or_assoc false y z = refl
