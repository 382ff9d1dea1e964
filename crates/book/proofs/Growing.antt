-- The exponents of a set that is connected to 1 are below its number of terms. Assumes nothing.
use Rattle.std.proofs.Common.{◌≡◌, ℕ, zero, suc, ◌+◌, ◌<◌, ◌≤◌, true, false, not, ◌&&◌, List, [], ◌∷◌, ◌++◌, length, get_or, replicate, sym, refl, ap, subst, ⊎_elim, append_assoc, append-nil, arith}
use Rattle.std.proofs.lemmas.Bool.{and_parts, both_ways}
use Rattle.algebra.specs.Term.{Term, one, times, has}
use Rattle.algebra.specs.Border.{multiples, grows, connected}
use Rattle.algebra.proofs.Terms.{has_cases, has_append_cases}
use Rattle.algebra.proofs.Borders.{first_term, from_multiples, term_in_variables}
use Rattle.term.specs.Letters.{raised}
use Rattle.term.proofs.Letters.{raised_times}

-- a product with a variable raises an exponent by at most one
one_higher : (i k : ℕ) (t : Term) → get_or (times i t) k 0 ≤ suc (get_or t k 0)
one_higher i k [] = omega arith
one_higher zero zero (e ∷ t) = omega arith
one_higher zero (suc k) (e ∷ t) = omega arith
one_higher (suc i) zero (e ∷ t) = omega arith
one_higher (suc i) (suc k) (e ∷ t) = one_higher i k t

no_exponent : (m k : ℕ) → ◌≡◌ {A = ℕ} (get_or (replicate m 0) k 0) 0
no_exponent zero k = refl
no_exponent (suc m) zero = refl
no_exponent (suc m) (suc k) = no_exponent m k

-- at variable k, each term that joins is at most one higher than those before
grown_bound : (n k m : ℕ) (before ts : List Term) → grows n before ts ≡ true → ((t : Term) → has t before ≡ true → get_or t k 0 ≤ m) → (t : Term) → has t (before ++ ts) ≡ true → get_or t k 0 ≤ m + length ts
grown_bound n k m before [] g known t h =
    let low = known t (subst (λ (xs : List Term). has t xs ≡ true) (append-nil before) h) in
    omega arith
grown_bound n k m before (u ∷ ts) g known t h =
    let p = and_parts (has u (multiples n before) && not (has u before)) (grows n (before ++ u ∷ []) ts) g in
    let j = from_multiples n before u (and_parts (has u (multiples n before)) _ p.0).0 in
    let low = known j.factor j.is_factor in
    let high = one_higher j.variable k j.factor in
    let next : get_or u k 0 ≤ suc m = omega (arith, ap (λ (s : Term). get_or s k 0) j.is_product) in
    let still : (s : Term) → has s (before ++ u ∷ []) ≡ true → get_or s k 0 ≤ suc m =
    λ s q. ⊎_elim (λ a. let b = known s a in omega arith)
    (λ a. ⊎_elim (λ e. omega (arith, ap (λ (x : Term). get_or x k 0) e)) (λ f. absurd (both_ways false refl f)) (has_cases s u [] a))
    (has_append_cases s before (u ∷ []) q) in
    let rest = grown_bound n k (suc m) (before ++ u ∷ []) ts p.1 still t (subst (λ (xs : List Term). has t xs ≡ true) (sym (append_assoc before (u ∷ []) ts)) h) in
    omega arith

pub exponent_bound : (n k : ℕ) (S : List Term) → connected n S ≡ true → (t : Term) → has t S ≡ true → get_or t k 0 < length S
exponent_bound n k S c t h =
    let f = first_term n S c in
    let start : (s : Term) → has s (one ∷ []) ≡ true → get_or s k 0 ≤ 0 =
    λ s q. ⊎_elim (λ e. omega (arith, ap (λ (x : Term). get_or x k 0) e, no_exponent 8 k)) (λ l. absurd (both_ways false refl l)) (has_cases s one [] q) in
    let b = grown_bound n k 0 (one ∷ []) f.0 f.2 start t (subst (λ (ts : List Term). has t ts ≡ true) f.1 h) in
    omega (arith, ap (λ (ts : List Term). length ts) f.1)

-- so a byte has room for one more of a variable
pub raised_is : (n i : ℕ) (S : List Term) (t : Term) → connected n S ≡ true → length S ≤ 32 → i < 8 → has t S ≡ true → raised i t ≡ times i t
raised_is n i S t c few low h =
    let eight = (term_in_variables n S c t h).0 in
    let room = exponent_bound n i S c t h in
    raised_times i t (omega arith) (omega arith)
