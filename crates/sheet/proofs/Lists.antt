-- The numbers of a body as a list. Assumes nothing.
use Rattle.std.proofs.Common.{◌≡◌, ℕ, zero, suc, ◌+◌, ◌-◌, ◌<◌, ◌≤◌, List, [], ◌∷◌, ◌++◌, length, take, drop, Some, Ok, Err, sym, refl, ap, ◌∙◌, subst, arith, length-drop, take-append-drop}
use Rattle.std.proofs.lemmas.List.{length-take-le, get_or-drop, take_rest}
use Rattle.std.specs.Result.{result_ok}
use Rattle.sheet.specs.declared.number.NumberCause.{NumberCause}
use Rattle.sheet.specs.Number.{Bytes, number_bytes, Reading, read_number, Taken, ReadAsWritten}
use Rattle.sheet.specs.Numbers.{listed, numbers_in, numbers_of}
use Rattle.sheet.proofs.Digits.{number_back, reads_back, SomeBytes, number_some}

pub bytes_drop : (k : ℕ) (bs : List ℕ) → Bytes bs → Bytes (drop k bs)
bytes_drop k bs fit i = subst (λ b. b < 256) (sym (get_or-drop k bs i 0)) (fit (k + i))

-- a number that was taken reads the same under any higher limit
pub taken_reads : (limit higher : ℕ) (bytes : List ℕ) (v s : ℕ) → Taken limit bytes v s → limit ≤ higher → higher < 2097152 → read_number higher bytes ≡ Ok (v, s)
taken_reads limit higher bytes v s t low high =
    let size : length (number_bytes v) ≡ s = ap length (sym t.shortest) ∙ length-take-le s bytes t.inside in
    let split : bytes ≡ number_bytes v ++ drop s bytes = sym (take-append-drop s bytes) ∙ ap (λ bs. bs ++ drop s bytes) t.shortest in
    ap (read_number higher) split ∙ reads_back higher v (drop s bytes) (omega (arith, t.allowed)) (omega (arith, t.allowed)) ∙ ap (λ k. Ok (v, k)) size

-- what a reading took
pub taken_from : (limit : ℕ) (bytes : List ℕ) (v s : ℕ) → Bytes bytes → read_number limit bytes ≡ Ok (v, s) → Taken limit bytes v s
taken_from limit bytes v s fit e = subst (ReadAsWritten limit bytes) e (number_back limit bytes fit)

-- the turns do not matter where there are enough
turns_from : (t u : ℕ) (bytes : List ℕ) (r : Reading) → length bytes ≤ suc t → length bytes ≤ suc u → SomeBytes r → ((bs : List ℕ) → length bs ≤ t → length bs ≤ u → numbers_in t bs ≡ numbers_in u bs) → listed r (λ p. p.0 ∷ numbers_in t (drop p.1 bytes)) ≡ listed r (λ p. p.0 ∷ numbers_in u (drop p.1 bytes))
turns_from t u bytes (Err cause) low high some same = refl
turns_from t u bytes (Ok p) low high some same =
    ap (λ xs. p.0 ∷ xs) (same (drop p.1 bytes) (omega (arith, length-drop p.1 bytes)) (omega (arith, length-drop p.1 bytes)))

pub turns_free : (t u : ℕ) (bytes : List ℕ) → length bytes ≤ t → length bytes ≤ u → numbers_in t bytes ≡ numbers_in u bytes
turns_free t u [] low high = refl
turns_free zero u (b ∷ bs) low high = absurd (omega arith)
turns_free (suc t) zero (b ∷ bs) low high = absurd (omega arith)
turns_free (suc t) (suc u) (b ∷ bs) low high = turns_from t u (b ∷ bs) (read_number 65535 (b ∷ bs)) low high (number_some 65535 (b ∷ bs)) (turns_free t u)

-- the numbers after the first
pub numbers_more : (bytes : List ℕ) (v s : ℕ) → read_number 65535 bytes ≡ Ok (v, s) → numbers_of bytes ≡ v ∷ numbers_of (drop s bytes)
numbers_more [] v s e = let z : ◌≡◌ {A = ℕ} 0 1 = cc in absurd (omega arith)
numbers_more (b ∷ bs) v s e =
    let some : 1 ≤ s = subst SomeBytes e (number_some 65535 (b ∷ bs)) in
    ap (λ (r : Reading). listed r (λ p. p.0 ∷ numbers_in (length bs) (drop p.1 (b ∷ bs)))) e
    ∙ ap (λ xs. v ∷ xs) (turns_free (length bs) (length (drop s (b ∷ bs))) (drop s (b ∷ bs)) (omega (arith, length-drop s (b ∷ bs))) (omega arith))

-- the number that came out, and those that are left
pub numbers_next : (bytes : List ℕ) (r : Reading) (v s : ℕ) → r ≡ read_number 65535 bytes → Some (v, s) ≡ result_ok r → numbers_of bytes ≡ v ∷ numbers_of (take (length bytes - s) (drop s bytes))
numbers_next bytes (Ok p) v s e f = numbers_more bytes v s (sym e ∙ cc) ∙ ap (λ bs. v ∷ numbers_of bs) (sym (take_rest bytes s))
numbers_next bytes (Err cause) v s e f = cc

pub numbers_none : (bytes : List ℕ) (cause : NumberCause) → read_number 65535 bytes ≡ Err cause → numbers_of bytes ≡ []
numbers_none [] cause e = refl
numbers_none (b ∷ bs) cause e = ap (λ (r : Reading). listed r (λ p. p.0 ∷ numbers_in (length bs) (drop p.1 (b ∷ bs)))) e
