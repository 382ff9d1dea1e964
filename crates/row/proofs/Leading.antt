-- A row beside the leads of its terms, at their end and copied back. Assumes nothing.
use Rattle.std.proofs.Common.{◌≡◌, ℕ, zero, suc, ◌-◌, ◌<◌, ◌≤◌, leb, ◌⊎◌, List, [], ◌∷◌, ◌++◌, length, get_or, map, take, replicate, sym, refl, ap, ◌∙◌, inl, inr, arith, length-append, length-take}
use lib.ListN.{length-replicate}
use Rattle.std.proofs.lemmas.List.{take_at}
use Rattle.std.proofs.lemmas.Bool.{cond-true, le-leb}
use Rattle.field.specs.Arithmetic.{Ring}
use Rattle.algebra.specs.Term.{Term}
use Rattle.algebra.specs.Border.{Row, at_place}
use Rattle.row.specs.declared.lead.Lead.{Lead}
use Rattle.row.specs.Sums.{zeros_like}
use Rattle.row.specs.Leads.{map_led, advanced}
use Rattle.row.specs.Listing.{Listed, listed_all, step_led}

-- where the codes or the leads are at their end, nothing is added
pub map_led_end : (R : Ring) (rows : List Row) (acc v : Row) (ls : List Lead) → (length v ≡ 0) ⊎ (length ls ≡ 0) → acc ≡ map_led R rows acc v ls
map_led_end R rows acc [] ls h = refl
map_led_end R rows acc (c ∷ v) [] h = refl
map_led_end R rows acc (c ∷ v) (l ∷ ls) (inl h) = absurd (omega arith)
map_led_end R rows acc (c ∷ v) (l ∷ ls) (inr h) = absurd (omega arith)

-- nor listed
pub step_led_end : (l : Listed) (m : Term) (v : Row) (ls : List Lead) → (length v ≡ 0) ⊎ (length ls ≡ 0) → l ≡ listed_all l (step_led m v ls)
step_led_end s m [] ls h = refl
step_led_end s m (c ∷ v) [] h = refl
step_led_end s m (c ∷ v) (l ∷ ls) (inl h) = absurd (omega arith)
step_led_end s m (c ∷ v) (l ∷ ls) (inr h) = absurd (omega arith)

-- the row that stands at a place, as it is stored
stored_at : {X : Type 0} (f : X → Row) (xs : List X) (k : ℕ) (x : X) → k < length xs → f (get_or xs k x) ≡ get_or (map f xs) k []
stored_at f [] k x l = absurd (omega arith)
stored_at f (y ∷ xs) zero x l = refl
stored_at f (y ∷ xs) (suc k) x l = stored_at f xs k x (omega arith)

pub row_at : {X : Type 0} (f : X → Row) (xs : List X) (place : ℕ) (x : X) → 1 ≤ place → place ≤ length xs → f (get_or xs (place - 1) x) ≡ at_place place (map f xs) []
row_at f xs zero x l u = absurd (omega arith)
row_at f xs (suc k) x l u =
    let before : suc k - 1 ≡ k = omega arith in
    ap (λ (j : ℕ). f (get_or xs j x)) before ∙ stored_at f xs k x (omega arith)

blank_part : (v : Row) (n : ℕ) → length v ≤ n → take (length v) (replicate n 0) ≡ zeros_like v
blank_part [] n l = refl
blank_part (a ∷ v) zero l = absurd (omega arith)
blank_part (a ∷ v) (suc n) l = ap (λ (x : Row). 0 ∷ x) (blank_part v n (omega arith))

-- the first n codes of a row written anew, and the others as they were
pub still_long : (n : ℕ) (old out rest : Row) → n ≤ length old → length out ≡ length (take (n - 0) old) → n ≤ length (out ++ rest)
still_long n old out rest l e = omega (arith, length-append out rest, length-take (n - 0) old)

-- the first n of m zeros, as the code takes them
abbrev pub blank : ℕ → ℕ → Row
blank m n = take (n - 0) (replicate m 0)

blank_length : (m n : ℕ) → n ≤ m → length (blank m n) ≡ n - 0
blank_length m n l = omega (arith, length-take {A = ℕ} (n - 0) (replicate m 0), length-replicate {A = ℕ} m 0)

-- a row that is mapped onto zeros and copied back
pub mapped_back : (m : ℕ) (R : Ring) (rows : List Row) (ls : List Lead) (v out rest last : Row) → length v ≤ m → length v ≤ 32 → length out ≡ length (blank m (length v)) → out ≡ map_led R rows (blank m (length v)) v ls → last ≡ take (length v - 0) (out ++ rest) → last ≡ advanced R rows ls v
mapped_back m R rows ls v out rest last l few n e t =
    let whole : length v - 0 ≡ length v = omega arith in
    t ∙ take_at out rest (length v - 0) (n ∙ blank_length m (length v) l) ∙ e
    ∙ ap (λ (x : Row). map_led R rows x v ls) (ap (λ (k : ℕ). take k (replicate m 0)) whole ∙ blank_part v m l)
    ∙ sym (cond-true (leb (length v) 32) _ v (le-leb (length v) 32 few))
