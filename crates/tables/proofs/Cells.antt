-- A code in its column is ASCII. Assumes nothing.
use Rattle.std.proofs.Common.{◌≡◌, ℕ, zero, suc, ◌+◌, ◌/◌, ◌%◌, ◌<◌, Bool, true, false, cond, nat_lt, List, [], ◌∷◌, Some, w32, refl, subst, sym, ap, ◌∙◌, arith}
use Rattle.std.specs.Int.{from_le_bytes, to_le_bytes}
use Rattle.std.proofs.lemmas.Nat.{le_bytes_4}
use Rattle.std.specs.Str.{IsAscii, IsUtf8}
use Rattle.std.proofs.lemmas.Str.{IsUtf8-from_ascii}
use Rattle.tables.specs.Page.{digit, cell}

digit_small : (n u : ℕ) → digit n u < 128
digit_small n u = go (nat_lt n u)
  where
    go : (b : Bool) → cond b 32 (48 + (n / u) % 10) < 128
    go true = omega arith
    go false = omega arith

four_small : (a b c : ℕ) → a < 128 → b < 128 → c < 128 → IsAscii (32 ∷ a ∷ b ∷ c ∷ [])
four_small a b c x y z zero = omega arith
four_small a b c x y z (suc zero) = x
four_small a b c x y z (suc (suc zero)) = y
four_small a b c x y z (suc (suc (suc zero))) = z
four_small a b c x y z (suc (suc (suc (suc i)))) = omega arith

cell_small : (n : ℕ) → IsAscii (cell (Some n))
cell_small n = four_small (digit n 100) (digit n 10) (48 + n % 10) (digit_small n 100) (digit_small n 10) (omega arith)

-- so it is text
pub cell_text : (n : ℕ) (bs : List ℕ) → bs ≡ cell (Some n) → IsUtf8 bs
cell_text n bs e = subst IsUtf8 (sym e) (IsUtf8-from_ascii (cell (Some n)) (cell_small n))

-- and the bytes of the number that they make are these again
pub cell_again : (n m : ℕ) (a b : ℕ) → a ≡ digit n 100 → b ≡ digit n 10 → m ≡ from_le_bytes w32 (32 ∷ a ∷ b ∷ (48 + n % 10) ∷ []) → to_le_bytes w32 m ≡ cell (Some n)
cell_again n m a b p q e =
    let is : (32 ∷ a ∷ b ∷ (48 + n % 10) ∷ []) ≡ cell (Some n) = λ i. 32 ∷ p i ∷ q i ∷ (48 + n % 10) ∷ [] in
    le_bytes_4 (cell (Some n)) m refl (λ i. omega (arith, cell_small n i)) (e ∙ ap (from_le_bytes w32) is)
