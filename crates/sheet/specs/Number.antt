-- Numbers in bytes: groups of seven bits, lowest first; the high bit says that another byte follows. Assumes nothing.
use Rattle.std.specs.Prelude.{◌≡◌, ℕ, ◌+◌, ◌-◌, ◌*◌, ◌/◌, ◌%◌, ◌<◌, ◌≤◌, cond, List, [], ◌∷◌, length, take, Ok, Err, Result, ◌==◌, nat_le, nat_lt, slice_index}
use Rattle.sheet.specs.declared.number.NumberCause.{NumberCause}
use Rattle.sheet.specs.declared.number.NumberCause.TheVariants.{Unfinished, NotShortest, TooLarge}

-- each of the bytes is one
abbrev pub Bytes : List ℕ → Type 0
Bytes bs = (i : ℕ) → slice_index bs i < 256

-- the bytes of a number below 2 ^ 21, in its shortest form
abbrev pub number_bytes : ℕ → List ℕ
number_bytes v =
    cond (nat_lt v 128) (v ∷ [])
    (cond (nat_lt v 16384) ((128 + v % 128) ∷ v / 128 ∷ []) ((128 + v % 128) ∷ (128 + v / 128 % 128) ∷ v / 16384 ∷ []))

-- a number with how many bytes it takes, or why it is none
abbrev pub Reading : Type 0
Reading = Result (ℕ × ℕ) NumberCause

-- a value is held against its limit
abbrev pub within : ℕ → ℕ → ℕ → Reading
within limit value size = cond (nat_le value limit) (Ok (value, size)) (Err TooLarge)

-- a last byte 00 after another byte would be left out in the shortest form
abbrev pub ending : ℕ → ℕ → ℕ → ℕ → Reading
ending limit last value size = cond (last == 0) (Err NotShortest) (within limit value size)

abbrev pub third : ℕ → ℕ → List ℕ → Reading
third limit low [] = Err Unfinished
third limit low (b ∷ _) = cond (nat_lt b 128) (ending limit b (low + 16384 * b) 3) (Err TooLarge)

abbrev pub second : ℕ → ℕ → List ℕ → Reading
second limit low [] = Err Unfinished
second limit low (b ∷ bs) = cond (nat_lt b 128) (ending limit b (low + 128 * b) 2) (third limit (low + 128 * (b - 128)) bs)

-- the number at the front of the bytes
abbrev pub read_number : ℕ → List ℕ → Reading
read_number limit [] = Err Unfinished
read_number limit (b ∷ bs) = cond (nat_lt b 128) (within limit b 1) (second limit (b - 128) bs)

-- a number that was read is at most its limit, and its bytes are those of the shortest form
pub record Taken (limit : ℕ) (bytes : List ℕ) (value size : ℕ) : Type 0 where
  pub shortest : take size bytes ≡ number_bytes value
  pub inside : size ≤ length bytes
  pub some : 1 ≤ size
  pub allowed : value ≤ limit

abbrev pub ReadAsWritten : ℕ → List ℕ → Reading → Type 0
ReadAsWritten limit bytes (Ok p) = Taken limit bytes p.0 p.1
ReadAsWritten limit bytes (Err cause) = Unit {0}
