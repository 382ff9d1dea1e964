-- Which records are written, and to which bytes. Assumes nothing.
use Rattle.std.specs.Prelude.{◌≡◌, ℕ, ◌+◌, ◌≤◌, Bool, true, cond, ◌&&◌, List, [], ◌∷◌, ◌++◌, length, drop, Some, None, Ok, Err, Option, Result, ◌==◌, nat_le, slice_index}
use Rattle.std.proofs.Math.Seq.{paste}
use Rattle.sheet.specs.declared.number.NumberCause.TheVariants.{TooLarge}
use Rattle.sheet.specs.declared.fault.RecordFault.{RecordFault}
use Rattle.sheet.specs.declared.fault.RecordFault.TheVariants.{Number, WrongBody, WrongVariables, ShortOutput}
use Rattle.sheet.specs.declared.fault.SheetFault.{SheetFault}
use Rattle.sheet.specs.declared.fault.SheetFault.TheVariants.{Record}
use Rattle.sheet.specs.declared.kind.Kind.{Kind}
use Rattle.sheet.specs.Number.{number_bytes}
use Rattle.sheet.specs.Fault.{next}
use Rattle.sheet.specs.Body.{kind_of, total, goes_on, limit_at}
use Rattle.sheet.specs.Record.{known}
use Rattle.sheet.specs.Reading.{opening}

-- numbers one after another
abbrev pub flat : List ℕ → List ℕ
flat [] = []
flat (x ∷ xs) = number_bytes x ++ flat xs

-- as many numbers as a body of the kind holds, or more where its codes go on
abbrev pub right_count : Kind → ℕ → List ℕ → Bool
right_count kind n xs =
    cond (goes_on kind) (nat_le (total kind n (slice_index xs 0)) (length xs)) (length xs == total kind n (slice_index xs 0))

-- each number, from the j-th on, is at most its limit
abbrev pub allowed : Kind → ℕ → ℕ → List ℕ → Bool
allowed kind n j [] = true
allowed kind n j (x ∷ xs) = nat_le x (limit_at kind n j) && allowed kind n (j + 1) xs

-- the length of a body whose numbers are allowed, at most 65,520
abbrev pub body_size : Kind → ℕ → List ℕ → Option ℕ
body_size kind n xs = cond (allowed kind n 0 xs && nat_le (length (flat xs)) 65520) (Some (length (flat xs))) None

-- what a body's length is
pub record BodySize (size : ℕ) (xs : List ℕ) : Type 0 where
  pub is : size ≡ length (flat xs)
  pub short : size ≤ 65520

abbrev pub fitting : Option ℕ → Result ℕ RecordFault
fitting (Some size) = Ok size
fitting None = Err (Number (record { cause = TooLarge; byte = 0; «record» = 0 }))

abbrev pub counted : Kind → ℕ → List ℕ → Result ℕ RecordFault
counted kind n xs = cond (right_count kind n xs) (fitting (body_size kind n xs)) (Err (WrongBody 0 0))

-- the length of the body of a record that is written: 1 to 8 variables, a kind that there is, numbers that make a body of it
abbrev pub accepted : ℕ → ℕ → List ℕ → Result ℕ RecordFault
accepted n k xs = cond (nat_le 1 n && nat_le n 8) (next (known 0 0 (kind_of k)) (λ kind. counted kind n xs)) (Err WrongVariables)

-- the bytes of a record: kind, length of the body, body
abbrev pub record_bytes : ℕ → ℕ → List ℕ → List ℕ
record_bytes k size xs = number_bytes k ++ (number_bytes size ++ flat xs)

abbrev pub write_record : ℕ → ℕ → List ℕ → Result (List ℕ) RecordFault
write_record n k xs = next (accepted n k xs) (λ size. Ok (record_bytes k size xs))

-- bytes are put in only where they all have room
abbrev pub with_room : List ℕ → List ℕ → Result (List ℕ) RecordFault
with_room out bs = cond (nat_le (length bs) (length out)) (Ok bs) (Err ShortOutput)

-- what is answered, and what the output then holds: the bytes and what stood after them, or at a fault what it held
abbrev pub answer : Result (List ℕ) RecordFault → Result ℕ SheetFault
answer (Ok bs) = Ok (length bs)
answer (Err f) = Err (Record f)

abbrev pub held : Result (List ℕ) RecordFault → List ℕ → List ℕ
held (Ok bs) out = bs ++ drop (length bs) out
held (Err f) out = out

-- bytes from one place on
abbrev pub pasted : ℕ → List ℕ → List ℕ → List ℕ
pasted at bs out = paste out at bs (length bs)

-- the opening and the three numbers of a heading
abbrev pub heading_bytes : ℕ → ℕ → ℕ → List ℕ
heading_bytes field modulus variables = opening ++ (number_bytes field ++ (number_bytes modulus ++ number_bytes variables))

-- a record that was written was read back as it is
abbrev pub read_again : Result ℕ SheetFault → Result Bool SheetFault
read_again (Ok size) = Ok true
read_again (Err f) = Err f
