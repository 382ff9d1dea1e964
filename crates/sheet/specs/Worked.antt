-- Worked examples of numbers in bytes. Assumes nothing.
use Rattle.std.specs.Prelude.{◌≡◌, ℕ, [], ◌∷◌, map, Ok, Err}
use Rattle.sheet.specs.Number.{Reading, number_bytes, read_number}
use Rattle.sheet.specs.Fault.{cause_number}

-- the value that is read and 0, or 0 and the number of the fault
abbrev pub outcome : Reading → ℕ × ℕ
outcome (Ok p) = (p.0, 0)
outcome (Err cause) = (0, cause_number cause)

-- 127 is 7F, 128 is 80 01, 300 is AC 02, 65,535 is FF FF 03; these read back, 80 00 is no shortest form, 80 and 80 80 are unfinished, 80 80 80 and a value past 65,535 are too large
pub record Worked : Type 0 where
  pub written : map number_bytes (127 ∷ 128 ∷ 300 ∷ 65535 ∷ []) ≡ (127 ∷ []) ∷ (128 ∷ 1 ∷ []) ∷ (172 ∷ 2 ∷ []) ∷ (255 ∷ 255 ∷ 3 ∷ []) ∷ []
  pub read : map (λ bs. outcome (read_number 65535 bs)) ((127 ∷ []) ∷ (128 ∷ 1 ∷ []) ∷ (172 ∷ 2 ∷ []) ∷ (255 ∷ 255 ∷ 3 ∷ []) ∷ []) ≡ (127, 0) ∷ (128, 0) ∷ (300, 0) ∷ (65535, 0) ∷ []
  pub refused : map (λ bs. outcome (read_number 65535 bs)) ((128 ∷ 0 ∷ []) ∷ (128 ∷ []) ∷ (128 ∷ 128 ∷ []) ∷ (128 ∷ 128 ∷ 128 ∷ []) ∷ (128 ∷ 128 ∷ 4 ∷ []) ∷ []) ≡ (0, 19) ∷ (0, 18) ∷ (0, 18) ∷ (0, 20) ∷ (0, 20) ∷ []
