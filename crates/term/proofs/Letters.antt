-- The first variable of a term, and one more of a variable. Assumes nothing.
use Rattle.std.proofs.Common.{◌≡◌, ℕ, zero, suc, ◌+◌, ◌-◌, ◌<◌, ◌≤◌, min, [], ◌∷◌, length, get_or, set, Some, None, Option, ◌⊎◌, ⊎_elim, sym, refl, ap, ◌∙◌, subst, add-zero, zero-add, arith}
use Rattle.std.proofs.lemmas.List.{set_past}
use Rattle.std.proofs.lemmas.Bool.{cases_lt}
use Rattle.algebra.specs.Term.{Term, times, degree, word_from, word}
use Rattle.term.specs.Letters.{shifted, first_variable, raised}

pub variable_found : (t : Term) (k : ℕ) → k < length t → ((j : ℕ) → j < k → get_or t j 0 ≡ 0) → (get_or t k 0 ≡ 0 → ⊥) → Some (k, set t k (get_or t k 0 - 1)) ≡ first_variable t
variable_found [] k l h ne = absurd (omega arith)
variable_found (zero ∷ t) zero l h ne = absurd (ne refl)
variable_found (suc e ∷ t) zero l h ne = let p : suc e - 1 ≡ e = omega arith in ap (λ (x : ℕ). Some (0, x ∷ t)) p
variable_found (zero ∷ t) (suc k) l h ne = ap (shifted 0) (variable_found t k (omega arith) (λ j u. h (suc j) (omega arith)) ne)
variable_found (suc e ∷ t) (suc k) l h ne = absurd (omega (arith, h 0 (omega arith)))

pub variable_absent : (t : Term) → ((j : ℕ) → j < length t → get_or t j 0 ≡ 0) → None ≡ first_variable t
variable_absent [] h = refl
variable_absent (zero ∷ t) h = ap (shifted 0) (variable_absent t (λ j u. h (suc j) (omega arith)))
variable_absent (suc e ∷ t) h = absurd (omega (arith, h 0 (omega arith)))

-- what the first variable of a term and the quotient say of the term, with letters counted from j
pub record Divided (j : ℕ) (t : Term) (x : ℕ × Term) : Type 0 where
  pub letters : word_from j t ≡ (j + x.0) ∷ word_from j x.1
  pub same_length : length x.1 ≡ length t
  pub one_less : degree t ≡ suc (degree x.1)

divided_from : (j : ℕ) (t : Term) (x : ℕ × Term) → first_variable t ≡ Some x → Divided j t x
divided_from j [] x e = let z : ◌≡◌ {A = ℕ} 0 1 = cc in absurd (omega arith)
divided_from j (zero ∷ t) x e = go (first_variable t) e (divided_from (suc j) t)
  where
    go : (o : Option (ℕ × Term)) → shifted 0 o ≡ Some x → ((y : ℕ × Term) → o ≡ Some y → Divided (suc j) t y) → Divided j (zero ∷ t) x
    go None n rest = let z : ◌≡◌ {A = ℕ} 0 1 = cc in absurd (omega arith)
    go (Some y) n rest =
        let d = rest y refl in
        let same : (suc y.0, 0 ∷ y.1) ≡ x = cc in
        let moved : suc j + y.0 ≡ j + suc y.0 = omega arith in
        subst (Divided j (zero ∷ t)) same (record {
          letters = d.letters ∙ ap (λ (k : ℕ). k ∷ word_from (suc j) y.1) moved;
          same_length = ap suc d.same_length;
          one_less = omega (arith, d.one_less);
        })
divided_from j (suc e ∷ t) x p =
    let same : (0, e ∷ t) ≡ x = cc in
    subst (Divided j (suc e ∷ t)) same (record {
      letters = ap (λ (k : ℕ). k ∷ word_from j (e ∷ t)) (sym (add-zero j));
      same_length = refl;
      one_less = omega arith;
    })

pub divided : (t : Term) (i : ℕ) (q : Term) → first_variable t ≡ Some (i, q) → Divided 0 t (i, q)
divided t i q e = divided_from 0 t (i, q) e

-- the word of a term begins with its first variable
pub word_variable : (t : Term) (i : ℕ) (q : Term) → first_variable t ≡ Some (i, q) → word t ≡ i ∷ word q
word_variable t i q e = (divided t i q e).letters ∙ ap (λ (k : ℕ). k ∷ word q) (zero-add i)

no_letters : (j : ℕ) (t : Term) → first_variable t ≡ None → word_from j t ≡ []
no_letters j [] e = refl
no_letters j (zero ∷ t) e = go (first_variable t) e (no_letters (suc j) t)
  where
    go : (o : Option (ℕ × Term)) → shifted 0 o ≡ None → (o ≡ None → word_from (suc j) t ≡ []) → word_from j (zero ∷ t) ≡ []
    go None n rest = rest refl
    go (Some y) n rest = let z : ◌≡◌ {A = ℕ} 0 1 = cc in absurd (omega arith)
no_letters j (suc k ∷ t) e = let z : ◌≡◌ {A = ℕ} 0 1 = cc in absurd (omega arith)

-- the word of a term with no variable is empty
pub word_empty : (t : Term) → first_variable t ≡ None → word t ≡ []
word_empty t e = no_letters 0 t e

-- where the byte has room, one more of a variable is the product with it
pub raised_times : (i : ℕ) (t : Term) → i < length t → get_or t i 0 < 255 → raised i t ≡ times i t
raised_times i [] l h = absurd (omega arith)
raised_times zero (e ∷ t) l h = let room : min (e + 1) 255 ≡ suc e = omega arith in ap (λ (x : ℕ). x ∷ t) room
raised_times (suc i) (e ∷ t) l h = ap (λ (u : Term). e ∷ u) (raised_times i t (omega arith) h)

times_past : (i : ℕ) (t : Term) → length t ≤ i → t ≡ times i t
times_past i [] l = refl
times_past zero (e ∷ t) l = absurd (omega arith)
times_past (suc i) (e ∷ t) l = ap (λ (u : Term). e ∷ u) (times_past i t (omega arith))

-- the same at any place, since past the end both leave the term
pub raised_product : (i : ℕ) (t : Term) → (length t ≤ i) ⊎ (get_or t i 0 < 255) → raised i t ≡ times i t
raised_product i t = ⊎_elim past (λ h. ⊎_elim (λ l. raised_times i t l h) past (cases_lt i (length t)))
  where
    past : length t ≤ i → raised i t ≡ times i t
    past l = set_past t i _ l ∙ times_past i t l
