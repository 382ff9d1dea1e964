-- A whole sheet: the opening, three numbers and a list of records. Assumes nothing.
use Rattle.std.specs.Prelude.{◌≡◌, ℕ, zero, suc, ◌≤◌, List, [], ◌∷◌, ◌++◌, length, Some, None, Ok, Option, Result}
use Rattle.sheet.specs.declared.fault.RecordFault.{RecordFault}
use Rattle.sheet.specs.declared.fault.SheetFault.{SheetFault}
use Rattle.sheet.specs.Fault.{next}
use Rattle.sheet.specs.Number.{Bytes, number_bytes}
use Rattle.sheet.specs.Numbers.{numbers_of}
use Rattle.sheet.specs.Body.{kind_number}
use Rattle.sheet.specs.Reading.{State, Seen, opening, open_sheet, heading, heading_number, after_number, begun, next_record, after_record}
use Rattle.sheet_write.specs.Writing.{write_record, heading_bytes}

-- a record: the number of its kind, and the numbers of its body
abbrev pub Entry : Type 0
Entry = ℕ × List ℕ

-- the heading's numbers are the kind of the field, its p or k, and the number of variables
pub record Sheet : Type 0 where
  pub field : ℕ
  pub modulus : ℕ
  pub variables : ℕ
  pub records : List Entry

abbrev pub write_records : ℕ → List Entry → Result (List ℕ) RecordFault
write_records n [] = Ok []
write_records n (r ∷ rs) = next (write_record n r.0 r.1) (λ bs. next (write_records n rs) (λ more. Ok (bs ++ more)))

abbrev pub sheet_bytes : Sheet → List ℕ → List ℕ
sheet_bytes s records = opening ++ (number_bytes s.field ++ (number_bytes s.modulus ++ (number_bytes s.variables ++ records)))

abbrev pub write_sheet : Sheet → Result (List ℕ) RecordFault
write_sheet s = next (write_records s.variables s.records) (λ records. Ok (sheet_bytes s records))

abbrev pub entry : Seen → Entry
entry s = (kind_number s.kind, numbers_of s.body)

abbrev pub more : Option Seen → Result (List Entry) SheetFault → Result (List Entry) SheetFault
more None later = Ok []
more (Some seen) later = next later (λ rs. Ok (entry seen ∷ rs))

-- the records from where a reader stands to the end, call by call; each takes a byte at least
abbrev pub read_all : ℕ → State → Result (List Entry) SheetFault
read_all zero s = Ok []
read_all (suc turns) s = next (next_record s) (λ o. more o (read_all turns (after_record s)))

abbrev pub after_heading : State → State
after_heading s = after_number s (heading s)

-- a sheet by the reader's calls: open, three numbers of the heading, and the records
abbrev pub read_sheet : List ℕ → Result Sheet SheetFault
read_sheet bytes =
    next (open_sheet bytes) (λ s.
    next (heading_number s) (λ a.
    next (heading_number (after_heading s)) (λ b.
    next (heading_number (after_heading (after_heading s))) (λ n.
    next (read_all (length bytes) (begun n.0 (after_heading (after_heading (after_heading s))))) (λ rs.
    Ok (record { field = a.0; modulus = b.0; variables = n.0; records = rs }))))))

-- numbers that fit the heading
pub record HeadingFits (s : Sheet) : Type 0 where
  pub field : s.field ≤ 65535
  pub modulus : s.modulus ≤ 65535
  pub variables : s.variables ≤ 65535

-- a sheet's bytes are those of its heading and then those of its records; a written sheet of at most 65,535 bytes reads back; other records give other bytes, and other sheets too; a sheet of 1 to 8 variables that was read whole is written to the same bytes
pub record SheetsRound : Type 0 where
  pub headed : (s : Sheet) (records : List ℕ) → sheet_bytes s records ≡ heading_bytes s.field s.modulus s.variables ++ records
  pub reads_back : (s : Sheet) (bytes : List ℕ) → HeadingFits s → write_sheet s ≡ Ok bytes → length bytes ≤ 65535 → read_sheet bytes ≡ Ok s
  pub one_list : (n : ℕ) (rs qs : List Entry) (bytes : List ℕ) → write_records n rs ≡ Ok bytes → write_records n qs ≡ Ok bytes → rs ≡ qs
  pub one_sheet : (s t : Sheet) (bytes : List ℕ) → HeadingFits s → HeadingFits t → write_sheet s ≡ Ok bytes → write_sheet t ≡ Ok bytes → length bytes ≤ 65535 → s ≡ t
  pub read_writes_back : (s : Sheet) (bytes : List ℕ) → Bytes bytes → read_sheet bytes ≡ Ok s → 1 ≤ s.variables → s.variables ≤ 8 → write_sheet s ≡ Ok bytes
