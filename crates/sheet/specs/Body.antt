-- What a record's body holds: which numbers, how many, and how large each may be. Assumes nothing.
use Rattle.std.specs.Prelude.{ℕ, zero, suc, ◌+◌, ◌-◌, ◌*◌, ◌%◌, Bool, true, false, cond, List, [], ◌∷◌, length, drop, Some, None, Ok, Err, Option, Result, ◌==◌, nat_le, nat_lt}
use Rattle.sheet.specs.declared.number.NumberCause.TheVariants.{Unfinished}
use Rattle.sheet.specs.declared.fault.NumberFault.{NumberFault}
use Rattle.sheet.specs.declared.fault.RecordFault.{RecordFault}
use Rattle.sheet.specs.declared.fault.RecordFault.TheVariants.{Number, WrongBody}
use Rattle.sheet.specs.declared.kind.Kind.{Kind}
use Rattle.sheet.specs.declared.kind.Kind.TheVariants.{Term, Close, Rule, Check, Question, Strike}
use Rattle.sheet.specs.Number.{Reading, read_number}
use Rattle.sheet.specs.Fault.{in_record, next}

abbrev pub kind_of : ℕ → Option Kind
kind_of k =
    cond (k == 1) (Some Term)
    (cond (k == 2) (Some Close)
    (cond (k == 3) (Some Rule) (cond (k == 4) (Some Check) (cond (k == 5) (Some Question) (cond (k == 6) (Some Strike) None)))))

abbrev pub kind_number : Kind → ℕ
kind_number Term = 1
kind_number Close = 2
kind_number Rule = 3
kind_number Check = 4
kind_number Question = 5
kind_number Strike = 6

-- how many numbers a body holds with n variables: n exponents; none; n exponents and a code at least; a count and, for each pair, a code and n exponents
abbrev pub total : Kind → ℕ → ℕ → ℕ
total Term n first = n
total Close n first = 0
total Rule n first = n + 1
total Check n first = 0
total Question n first = first * (n + 1) + 1
total Strike n first = n

-- a rule's codes go to the end of its body
abbrev pub goes_on : Kind → Bool
goes_on Term = false
goes_on Close = false
goes_on Rule = true
goes_on Check = false
goes_on Question = false
goes_on Strike = false

-- the j-th number, from 0, is an exponent, at most 255, or a count or code, at most 65,535
abbrev pub limit_at : Kind → ℕ → ℕ → ℕ
limit_at Term n j = 255
limit_at Close n j = 255
limit_at Rule n j = cond (nat_lt j n) 255 65535
limit_at Check n j = 255
limit_at Question n j = cond (j == 0) 65535 (cond ((j - 1) % (n + 1) == 0) 65535 255)
limit_at Strike n j = 255

-- j numbers of a body that holds `whole` leave no room for another
abbrev pub is_full : Kind → ℕ → ℕ → Bool
is_full kind j whole = cond (goes_on kind) false (nat_le whole j)

-- the first number may say how many there are
abbrev pub whole_after : Kind → ℕ → ℕ → ℕ → ℕ → ℕ
whole_after kind n j value whole = cond (j == 0) (total kind n value) whole

-- a number at a byte of the sheet, in a record or the heading
abbrev pub at_place : ℕ → ℕ → Reading → Result (ℕ × ℕ) NumberFault
at_place byte count (Ok p) = Ok p
at_place byte count (Err cause) = Err (record { cause = cause; byte = byte; «record» = count })

abbrev pub number_at : ℕ → List ℕ → ℕ → ℕ → Result (ℕ × ℕ) NumberFault
number_at limit bytes byte count = at_place byte count (read_number limit bytes)

-- the rest of a body, from its j-th number on, at a byte of the sheet; each number takes a byte at least, so there are at most as many turns as bytes
module _ (kind : Kind) (n start count : ℕ) where
  abbrev pub check_numbers : ℕ → ℕ → ℕ → ℕ → List ℕ → Result (Unit {0}) RecordFault
  check_numbers turns j whole byte [] = cond (nat_le whole j) (Ok tt) (Err (Number (record { cause = Unfinished; byte = byte; «record» = count })))
  check_numbers zero j whole byte (b ∷ bs) = Err (WrongBody start count)
  check_numbers (suc turns) j whole byte (b ∷ bs) =
      cond (is_full kind j whole) (Err (WrongBody start count))
      (next (in_record (number_at (limit_at kind n j) (b ∷ bs) byte count))
      (λ p. check_numbers turns (j + 1) (whole_after kind n j p.0 whole) (byte + p.1) (drop p.1 (b ∷ bs))))

  -- a body that stands at a byte of the sheet
  abbrev pub check_body : ℕ → List ℕ → Result (Unit {0}) RecordFault
  check_body byte body = check_numbers (length body) 0 (total kind n 0) byte body
