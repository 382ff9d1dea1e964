-- What the heading of a sheet says: a field and a number of variables, judged number by number from the left. Assumes nothing.
use Rattle.std.specs.Prelude.{ℕ, cond, List, Some, None, Ok, Err, Option, Result, ◌==◌}
use Rattle.field.specs.Arithmetic.{Arithmetic}
use Rattle.field.specs.Supplied.{among, primes, modulo, binary_sizes, binary}
use Rattle.field.specs.declared.refusal.Refusal as refusal
use Rattle.field.specs.declared.refusal.Refusal.TheVariants.{UnknownField}
use Rattle.book.specs.declared.refusal.Refusal.{Refusal}
use Rattle.book.specs.Judge.{judge_lay}
use Rattle.sheet.specs.declared.fault.SheetFault.{SheetFault}
use Rattle.sheet.specs.Fault.{next}
use Rattle.sheet.specs.Reading.{State, open_sheet, heading, heading_number, after_number, begun}
use Rattle.lines.specs.declared.fault.Fault.{Fault}
use Rattle.lines.specs.declared.fault.Fault.TheVariants.{Sheet, Field, Book}
use Rattle.report.specs.declared.heading.FieldKind.{FieldKind}
use Rattle.report.specs.declared.heading.FieldKind.TheVariants.{PrimeKind, BinaryKind}

-- a fault of the format stands whole in the run's
abbrev pub in_fault : {A : Type 0} → Result A SheetFault → Result A Fault
in_fault (Ok x) = Ok x
in_fault (Err f) = Err (Sheet f)

-- 0 is prime, 1 is binary
abbrev pub kind_of : ℕ → ℕ → Result FieldKind Fault
kind_of k byte = cond (k == 0) (Ok PrimeKind) (cond (k == 1) (Ok BinaryKind) (Err (Field UnknownField byte)))

-- the kind without its place
abbrev pub named_kind : ℕ → Result FieldKind refusal.Refusal
named_kind k = cond (k == 0) (Ok PrimeKind) (cond (k == 1) (Ok BinaryKind) (Err UnknownField))

-- what the field or the book refuses is placed at the byte that was judged
abbrev pub refused_by_field : {A : Type 0} → Result A refusal.Refusal → ℕ → Result A Fault
refused_by_field (Ok x) byte = Ok x
refused_by_field (Err r) byte = Err (Field r byte)

abbrev pub refused_by_book : {A : Type 0} → Result A Refusal → ℕ → ℕ → Result A Fault
refused_by_book (Ok x) byte count = Ok x
refused_by_book (Err r) byte count = Err (Book r byte count)

abbrev pub field_of : FieldKind → ℕ → ℕ → Result Arithmetic Fault
field_of PrimeKind p byte = cond (among primes p) (Ok (modulo p)) (Err (Field UnknownField byte))
field_of BinaryKind k byte = cond (among binary_sizes k) (Ok (binary k)) (Err (Field UnknownField byte))

-- a refused number of variables stands at its byte, in no record
abbrev pub laid_with : Option Refusal → ℕ → Result (Unit {0}) Fault
laid_with None byte = Ok tt
laid_with (Some r) byte = Err (Book r byte 0)

abbrev pub after_heading : State → State
after_heading s = after_number s (heading s)

-- a field, a number of variables, and a reader that stands at the first record
pub record Headed : Type 0 where
  pub arithmetic : Arithmetic
  pub variables : ℕ
  pub state : State

-- the last number of the heading, for a field that is known
abbrev pub with_field : State → Arithmetic → Result Headed Fault
with_field s A =
    next (in_fault (heading_number s)) (λ n.
    next (laid_with (judge_lay n.0) n.1) (λ _.
    Ok (record { arithmetic = A; variables = n.0; state = begun n.0 (after_heading s) })))

abbrev pub with_kind : State → FieldKind → Result Headed Fault
with_kind s kind =
    next (in_fault (heading_number s)) (λ m.
    next (field_of kind m.0 m.1) (with_field (after_heading s)))

abbrev pub headed : List ℕ → Result Headed Fault
headed bytes =
    next (in_fault (open_sheet bytes)) (λ s.
    next (in_fault (heading_number s)) (λ k.
    next (kind_of k.0 k.1) (with_kind (after_heading s))))
