-- Row arithmetic one code after the other. Assumes nothing.
use Rattle.std.proofs.Common.{◌≡◌, ℕ, zero, suc, ◌+◌, ◌<◌, ◌≤◌, Bool, ◌&&◌, eqb, ◌⊎◌, [], ◌∷◌, length, get_or, set, replicate, sym, refl, ap, ◌∙◌, inl, inr, add-one, arith}
use Rattle.std.specs.List.{list_all}
use Rattle.std.proofs.lemmas.List.{set_past}
use Rattle.field.specs.Arithmetic.{Ring}
use Rattle.algebra.specs.Border.{Row}
use Rattle.algebra.specs.Walk.{all_zero}
use Rattle.row.specs.Sums.{combined, add_multiple, add_at, subtract, zeros_like}

-- the row after k codes, each combined with the code beside it
abbrev pub partly : (ℕ → ℕ → ℕ) → ℕ → Row → Row → Row
partly h zero v w = v
partly h (suc k) [] w = []
partly h (suc k) (a ∷ v) [] = a ∷ v
partly h (suc k) (a ∷ v) (b ∷ w) = h a b ∷ partly h k v w

abbrev pub more_by : Ring → ℕ → ℕ → ℕ → ℕ
more_by R c a b = R.sum a (R.product c b)

abbrev pub less_by : Ring → ℕ → ℕ → ℕ
less_by R a b = R.sum a (R.negative b)

partly_set : (h : ℕ → ℕ → ℕ) (k : ℕ) (v w : Row) → k < length v → k < length w → set (partly h k v w) k (h (get_or (partly h k v w) k 0) (get_or w k 0)) ≡ partly h (suc k) v w
partly_set h k [] w l m = absurd (omega arith)
partly_set h k (a ∷ v) [] l m = absurd (omega arith)
partly_set h zero (a ∷ v) (b ∷ w) l m = refl
partly_set h (suc k) (a ∷ v) (b ∷ w) l m = ap (λ (x : Row). h a b ∷ x) (partly_set h k v w (omega arith) (omega arith))

-- a turn of the loop combines one code more
pub partly_turn : (h : ℕ → ℕ → ℕ) (k : ℕ) (v w now next : Row) → k < length v → k < length w → now ≡ partly h k v w → next ≡ set now k (h (get_or now k 0) (get_or w k 0)) → next ≡ partly h (k + 1) v w
partly_turn h k v w now next l m e t =
    t ∙ ap (λ (x : Row). set x k (h (get_or x k 0) (get_or w k 0))) e ∙ partly_set h k v w l m ∙ ap (λ (n : ℕ). partly h n v w) (sym (add-one k))

-- past the end of the shorter row all is combined
pub partly_all : (h : ℕ → ℕ → ℕ) (k : ℕ) (v w : Row) → (length v ≤ k) ⊎ (length w ≤ k) → partly h k v w ≡ combined h v w
partly_all h zero [] w l = refl
partly_all h zero (a ∷ v) [] l = refl
partly_all h zero (a ∷ v) (b ∷ w) (inl l) = absurd (omega arith)
partly_all h zero (a ∷ v) (b ∷ w) (inr l) = absurd (omega arith)
partly_all h (suc k) [] w l = refl
partly_all h (suc k) (a ∷ v) [] l = refl
partly_all h (suc k) (a ∷ v) (b ∷ w) (inl l) = ap (λ (x : Row). h a b ∷ x) (partly_all h k v w (inl (omega arith)))
partly_all h (suc k) (a ∷ v) (b ∷ w) (inr l) = ap (λ (x : Row). h a b ∷ x) (partly_all h k v w (inr (omega arith)))

pub combined_sum : (R : Ring) (c : ℕ) (v w : Row) → combined (more_by R c) v w ≡ add_multiple R v c w
combined_sum R c [] w = refl
combined_sum R c (a ∷ v) [] = refl
combined_sum R c (a ∷ v) (b ∷ w) = ap (λ (x : Row). more_by R c a b ∷ x) (combined_sum R c v w)

pub combined_difference : (R : Ring) (v w : Row) → combined (less_by R) v w ≡ subtract R v w
combined_difference R [] w = refl
combined_difference R (a ∷ v) [] = refl
combined_difference R (a ∷ v) (b ∷ w) = ap (λ (x : Row). less_by R a b ∷ x) (combined_difference R v w)

-- a row that is all zeros
pub zeros_filled : (v : Row) → replicate (length v) 0 ≡ zeros_like v
zeros_filled [] = refl
zeros_filled (a ∷ v) = ap (λ (x : Row). 0 ∷ x) (zeros_filled v)

pub all_zero_all : (v : Row) → list_all (λ (c : ℕ). eqb c 0) v ≡ all_zero v
all_zero_all [] = refl
all_zero_all (c ∷ v) = ap (λ (b : Bool). eqb c 0 && b) (all_zero_all v)

-- a place counted from 1 that is not there
pub add_nowhere : (R : Ring) (v : Row) (k c : ℕ) → ((1 ≤ k) × (length v < k)) ⊎ (k < 1) → v ≡ add_at R v k c
add_nowhere R v zero c h = refl
add_nowhere R v (suc k) c (inl h) = sym (set_past v k _ (omega arith))
add_nowhere R v (suc k) c (inr h) = absurd (omega arith)
