-- How a number's groups of seven bits are taken apart and put together. Assumes nothing.
use Rattle.std.proofs.Common.{◌≡◌, ℕ, suc, ◌+◌, ◌-◌, ◌*◌, ◌/◌, ◌%◌, ◌<◌, ◌≤◌, eqb, ltb, leb, List, [], ◌∷◌, ◌++◌, length, get_or, take, drop, Ok, Err, sym, refl, ap, ◌∙◌, ⊎_elim, arith}
use Rattle.std.proofs.lemmas.Bool.{ltb-true, ltb-false, leb-true, eqb-false, lt-ltb, le-ltb, le-leb, ne_eqb, cases_lt, cond-true, cond-false, cond_both}
use Rattle.std.proofs.lemmas.List.{take_rest}
use Rattle.sheet.specs.declared.number.NumberCause.TheVariants.{NotShortest, TooLarge}
use Rattle.sheet.specs.Number.{number_bytes, Reading, within, ending, third, second, read_number, Taken, ReadAsWritten}

-- a first byte with the high bit set goes on
pub goes_on : (limit : ℕ) (xs : List ℕ) → 128 ≤ get_or xs 0 0 → second limit (get_or xs 0 0 - 128) (take (length xs - 1) (drop 1 xs)) ≡ read_number limit xs
goes_on limit [] high = absurd (omega arith)
goes_on limit (b ∷ bs) high =
    ap (second limit (b - 128)) (take_rest (b ∷ bs) 1) ∙ sym (cond-false (ltb b 128) _ _ (le-ltb b 128 high))

-- the three lengths of a number
module _ (v : ℕ) where
  pub one_byte : v < 128 → number_bytes v ≡ v ∷ []
  one_byte low = cond-true _ _ _ (lt-ltb v 128 low)

  pub two_bytes : 128 ≤ v → v < 16384 → number_bytes v ≡ (128 + v % 128) ∷ v / 128 ∷ []
  two_bytes high low = cond-false _ _ _ (le-ltb v 128 high) ∙ cond-true _ _ _ (lt-ltb v 16384 low)

  pub three_bytes : 16384 ≤ v → number_bytes v ≡ (128 + v % 128) ∷ (128 + v / 128 % 128) ∷ v / 16384 ∷ []
  three_bytes high = cond-false _ _ _ (le-ltb v 128 (omega arith)) ∙ cond-false _ _ _ (le-ltb v 16384 high)

-- what was read of two and of three groups is written as those groups
two_same : (a b v : ℕ) → 128 ≤ a → a < 256 → b < 128 → (b ≡ 0 → ⊥) → v ≡ (a - 128) + 128 * b → (a ∷ b ∷ []) ≡ number_bytes v
two_same a b v a-high a-fits b-low b-some e =
    let low : 128 + v % 128 ≡ a = omega arith in
    let high : v / 128 ≡ b = omega arith in
    sym (two_bytes v (omega arith) (omega arith) ∙ (λ i. low i ∷ high i ∷ []))

-- the lowest group of what is left
lowest_group : (q b d : ℕ) → 128 ≤ b → b < 256 → q ≡ (b - 128) + 128 * d → 128 + q % 128 ≡ b
lowest_group q b d high fits e = omega arith

three_same : (a b d v : ℕ) → 128 ≤ a → a < 256 → 128 ≤ b → b < 256 → (d ≡ 0 → ⊥) → v ≡ (a - 128) + 128 * (b - 128) + 16384 * d → (a ∷ b ∷ d ∷ []) ≡ number_bytes v
three_same a b d v a-high a-fits b-high b-fits d-some e =
    let low : 128 + v % 128 ≡ a = omega arith in
    let upper : v / 128 ≡ (b - 128) + 128 * d = omega arith in
    let mid : 128 + v / 128 % 128 ≡ b = lowest_group (v / 128) b d b-high b-fits upper in
    let high : v / 16384 ≡ d = omega arith in
    sym (three_bytes v (omega arith) ∙ (λ i. low i ∷ mid i ∷ high i ∷ []))

within_back : (limit : ℕ) (bytes : List ℕ) (value size : ℕ) → (value ≤ limit → Taken limit bytes value size) → ReadAsWritten limit bytes (within limit value size)
within_back limit bytes value size h =
    cond_both (leb value limit) (Ok (value, size)) (Err TooLarge) (ReadAsWritten limit bytes) (λ e. h (leb-true value limit e)) (λ _. tt)

ending_back : (limit last : ℕ) (bytes : List ℕ) (value size : ℕ) → ((last ≡ 0 → ⊥) → value ≤ limit → Taken limit bytes value size) → ReadAsWritten limit bytes (ending limit last value size)
ending_back limit last bytes value size h =
    cond_both (eqb last 0) (Err NotShortest) (within limit value size) (ReadAsWritten limit bytes) (λ _. tt)
    (λ e. within_back limit bytes value size (h (eqb-false last 0 e)))

third_back : (limit a b : ℕ) (bs : List ℕ) → 128 ≤ a → a < 256 → 128 ≤ b → b < 256 → ReadAsWritten limit (a ∷ b ∷ bs) (third limit ((a - 128) + 128 * (b - 128)) bs)
third_back limit a b [] a-high a-fits b-high b-fits = tt
third_back limit a b (d ∷ ds) a-high a-fits b-high b-fits =
    cond_both (ltb d 128) _ (Err TooLarge) (ReadAsWritten limit (a ∷ b ∷ d ∷ ds))
    (λ e. ending_back limit d (a ∷ b ∷ d ∷ ds) _ 3
    (λ some allowed. record { shortest = three_same a b d _ a-high a-fits b-high b-fits some refl; inside = omega arith; some = omega arith; allowed = allowed }))
    (λ _. tt)

second_back : (limit a : ℕ) (bs : List ℕ) → 128 ≤ a → a < 256 → ((i : ℕ) → get_or bs i 0 < 256) → ReadAsWritten limit (a ∷ bs) (second limit (a - 128) bs)
second_back limit a [] a-high a-fits fit = tt
second_back limit a (b ∷ bs) a-high a-fits fit =
    cond_both (ltb b 128) _ _ (ReadAsWritten limit (a ∷ b ∷ bs))
    (λ e. let low = ltb-true b 128 e in
    ending_back limit b (a ∷ b ∷ bs) _ 2
    (λ some allowed. record { shortest = two_same a b _ a-high a-fits low some refl; inside = omega arith; some = omega arith; allowed = allowed }))
    (λ e. third_back limit a b bs a-high a-fits (ltb-false b 128 e) (fit 0))

-- a number that was read is written to the same bytes
pub number_back : (limit : ℕ) (bytes : List ℕ) → ((i : ℕ) → get_or bytes i 0 < 256) → ReadAsWritten limit bytes (read_number limit bytes)
number_back limit [] fit = tt
number_back limit (b ∷ bs) fit =
    cond_both (ltb b 128) _ _ (ReadAsWritten limit (b ∷ bs))
    (λ e. within_back limit (b ∷ bs) b 1
    (λ allowed. record { shortest = sym (one_byte b (ltb-true b 128 e)); inside = omega arith; some = omega arith; allowed = allowed }))
    (λ e. second_back limit b bs (ltb-false b 128 e) (fit 0) (λ i. fit (suc i)))

-- a number takes a byte at least
abbrev pub SomeBytes : Reading → Type 0
SomeBytes (Ok p) = 1 ≤ p.1
SomeBytes (Err cause) = Unit {0}

within_some : (limit value size : ℕ) → 1 ≤ size → SomeBytes (within limit value size)
within_some limit value size h = cond_both (leb value limit) (Ok (value, size)) (Err TooLarge) SomeBytes (λ _. h) (λ _. tt)

ending_some : (limit last value size : ℕ) → 1 ≤ size → SomeBytes (ending limit last value size)
ending_some limit last value size h = cond_both (eqb last 0) (Err NotShortest) (within limit value size) SomeBytes (λ _. tt) (λ _. within_some limit value size h)

third_some : (limit low : ℕ) (bs : List ℕ) → SomeBytes (third limit low bs)
third_some limit low [] = tt
third_some limit low (b ∷ bs) = cond_both (ltb b 128) _ (Err TooLarge) SomeBytes (λ _. ending_some limit b (low + 16384 * b) 3 (omega arith)) (λ _. tt)

second_some : (limit low : ℕ) (bs : List ℕ) → SomeBytes (second limit low bs)
second_some limit low [] = tt
second_some limit low (b ∷ bs) = cond_both (ltb b 128) _ _ SomeBytes (λ _. ending_some limit b (low + 128 * b) 2 (omega arith)) (λ _. third_some limit (low + 128 * (b - 128)) bs)

pub number_some : (limit : ℕ) (bs : List ℕ) → SomeBytes (read_number limit bs)
number_some limit [] = tt
number_some limit (b ∷ bs) = cond_both (ltb b 128) _ _ SomeBytes (λ _. within_some limit b 1 (omega arith)) (λ _. second_some limit (b - 128) bs)

-- a number that is written reads back, whatever bytes follow
module _ (limit v : ℕ) (rest : List ℕ) (allowed : v ≤ limit) where
  allowed_within : (size : ℕ) → within limit v size ≡ Ok (v, size)
  allowed_within size = cond-true _ _ _ (le-leb v limit allowed)

  reads_two : 128 ≤ v → v < 16384 → read_number limit ((128 + v % 128) ∷ v / 128 ∷ rest) ≡ Ok (v, 2)
  reads_two high low =
      let a-high : 128 ≤ 128 + v % 128 = omega arith in
      let b-low : v / 128 < 128 = omega arith in
      let b-some : v / 128 ≡ 0 → ⊥ = λ z. omega arith in
      let whole : (128 + v % 128 - 128) + 128 * (v / 128) ≡ v = omega arith in
      cond-false _ _ _ (le-ltb (128 + v % 128) 128 a-high)
      ∙ cond-true _ _ _ (lt-ltb (v / 128) 128 b-low)
      ∙ cond-false _ _ _ (ne_eqb (v / 128) 0 b-some)
      ∙ ap (λ x. within limit x 2) whole
      ∙ allowed_within 2

  reads_three : 16384 ≤ v → v < 2097152 → read_number limit ((128 + v % 128) ∷ (128 + v / 128 % 128) ∷ v / 16384 ∷ rest) ≡ Ok (v, 3)
  reads_three high low =
      let a-high : 128 ≤ 128 + v % 128 = omega arith in
      let b-high : 128 ≤ 128 + v / 128 % 128 = omega arith in
      let d-low : v / 16384 < 128 = omega arith in
      let d-some : v / 16384 ≡ 0 → ⊥ = λ z. omega arith in
      let whole : (128 + v % 128 - 128) + 128 * (128 + v / 128 % 128 - 128) + 16384 * (v / 16384) ≡ v = omega arith in
      cond-false _ _ _ (le-ltb (128 + v % 128) 128 a-high)
      ∙ cond-false _ _ _ (le-ltb (128 + v / 128 % 128) 128 b-high)
      ∙ cond-true _ _ _ (lt-ltb (v / 16384) 128 d-low)
      ∙ cond-false _ _ _ (ne_eqb (v / 16384) 0 d-some)
      ∙ ap (λ x. within limit x 3) whole
      ∙ allowed_within 3

  pub reads_back : v < 2097152 → read_number limit (number_bytes v ++ rest) ≡ Ok (v, length (number_bytes v))
  reads_back fits =
      ⊎_elim
      (λ low. let e = one_byte v low in
      ap (λ bs. read_number limit (bs ++ rest)) e ∙ cond-true _ _ _ (lt-ltb v 128 low) ∙ allowed_within 1 ∙ ap (λ bs. Ok (v, length bs)) (sym e))
      (λ high. ⊎_elim
      (λ low. let e = two_bytes v high low in
      ap (λ bs. read_number limit (bs ++ rest)) e ∙ reads_two high low ∙ ap (λ bs. Ok (v, length bs)) (sym e))
      (λ higher. let e = three_bytes v higher in
      ap (λ bs. read_number limit (bs ++ rest)) e ∙ reads_three higher fits ∙ ap (λ bs. Ok (v, length bs)) (sym e))
      (cases_lt v 16384))
      (cases_lt v 128)
