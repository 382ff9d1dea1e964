-- How a sheet is read from its first byte on: the opening, the numbers of the heading, the records. Assumes nothing.
use Rattle.std.specs.Prelude.{ℕ, ◌+◌, min, Bool, false, cond, ◌&&◌, List, [], ◌∷◌, length, drop, Some, None, Ok, Err, Option, Result, ◌==◌, nat_le, nat_lt}
use Rattle.sheet.specs.declared.fault.RecordFault.{RecordFault}
use Rattle.sheet.specs.declared.fault.SheetFault.{SheetFault}
use Rattle.sheet.specs.declared.fault.SheetFault.TheVariants.{WrongOpening, TooLong}
use Rattle.sheet.specs.declared.kind.Kind.{Kind}
use Rattle.sheet.specs.declared.kind.Kind.TheVariants as kinds
use Rattle.sheet.specs.declared.record.Extent.{Extent}
use Rattle.sheet.specs.declared.reader.Record.{Record}
use Rattle.sheet.specs.declared.reader.Record.TheVariants.{Term, Close, Rule, Check, Question, Strike}
use Rattle.sheet.specs.declared.reader.Placed.{Placed}
use Rattle.sheet.specs.declared.reader.Reader.{Reader}
use Rattle.sheet.specs.Fault.{in_record, in_sheet, next}
use Rattle.sheet.specs.Body.{number_at}
use Rattle.sheet.specs.Record.{read_record, body_of}

-- where a reader stands: its sheet, the place of the next byte, how many records were read, and the number of variables
pub record State : Type 0 where
  pub sheet : List ℕ
  pub at : ℕ
  pub records : ℕ
  pub variables : ℕ

abbrev pub state : Reader → State
state r = record { sheet = r.bytes.now; at = r.at; records = r.records; variables = r.variables }

-- the three bytes that open a sheet: 42 42 31 hex
abbrev pub opening : List ℕ
opening = 66 ∷ 66 ∷ 49 ∷ []

abbrev pub opens : List ℕ → Bool
opens [] = false
opens (a ∷ []) = false
opens (a ∷ b ∷ []) = false
opens (a ∷ b ∷ d ∷ rest) = a == 66 && (b == 66 && d == 49)

-- a sheet has at most 65,535 bytes
abbrev pub open_sheet : List ℕ → Result State SheetFault
open_sheet bytes =
    cond (nat_lt 65535 (length bytes)) (Err TooLong)
    (cond (opens bytes) (Ok (record { sheet = bytes; at = 3; records = 0; variables = 0 })) (Err WrongOpening))

abbrev pub opened : Result Reader SheetFault → Result State SheetFault
opened (Ok r) = Ok (state r)
opened (Err f) = Err f

-- the next number of the heading, with how many bytes it takes
abbrev pub heading : State → Result (ℕ × ℕ) RecordFault
heading s = in_record (number_at 65535 (drop s.at s.sheet) s.at 0)

-- that number with the place of its first byte
abbrev pub heading_number : State → Result (ℕ × ℕ) SheetFault
heading_number s = next (in_sheet (heading s)) (λ p. Ok (p.0, s.at))

abbrev pub after_number : State → Result (ℕ × ℕ) RecordFault → State
after_number s (Ok p) = record { sheet = s.sheet; at = s.at + p.1; records = s.records; variables = s.variables }
after_number s (Err f) = s

abbrev pub begun : ℕ → State → State
begun n s = record { sheet = s.sheet; at = s.at; records = s.records; variables = n }

-- a record that was read: its kind, the bytes of its body, the place of its first byte, its count from 1, the number of variables
pub record Seen : Type 0 where
  pub kind : Kind
  pub body : List ℕ
  pub byte : ℕ
  pub count : ℕ
  pub variables : ℕ

abbrev pub record_kind : Record → Kind
record_kind (Term b) = kinds.Term
record_kind Close = kinds.Close
record_kind (Rule b) = kinds.Rule
record_kind Check = kinds.Check
record_kind (Question b) = kinds.Question
record_kind (Strike b) = kinds.Strike

abbrev pub record_body : Record → List ℕ
record_body (Term b) = b.now
record_body Close = []
record_body (Rule b) = b.now
record_body Check = []
record_body (Question b) = b.now
record_body (Strike b) = b.now

-- the bytes that a record of a kind keeps: a close and a check have none
abbrev pub held : Kind → List ℕ → List ℕ
held kinds.Term body = body
held kinds.Close body = []
held kinds.Rule body = body
held kinds.Check body = []
held kinds.Question body = body
held kinds.Strike body = body

abbrev pub seen : Placed → Seen
seen p = record { kind = record_kind p.«record»; body = record_body p.«record»; byte = p.byte; count = p.count; variables = p.variables }

abbrev pub seen_next : Result (Option Placed) SheetFault → Result (Option Seen) SheetFault
seen_next (Ok None) = Ok None
seen_next (Ok (Some p)) = Ok (Some (seen p))
seen_next (Err f) = Err f

-- records count from 1; a sheet of 65,535 bytes holds fewer than half as many
abbrev pub next_count : State → ℕ
next_count s = min s.records 65534 + 1

-- the record that begins where the reader stands
abbrev pub record_here : State → Result Extent RecordFault
record_here s = read_record s.variables (drop s.at s.sheet) s.at (next_count s)

abbrev pub as_seen : State → Extent → Seen
as_seen s e = record { kind = e.kind; body = body_of (drop s.at s.sheet) e; byte = s.at; count = next_count s; variables = s.variables }

-- at the end of the sheet there is no more
abbrev pub next_record : State → Result (Option Seen) SheetFault
next_record s = cond (nat_le (length s.sheet) s.at) (Ok None) (next (in_sheet (record_here s)) (λ e. Ok (Some (as_seen s e))))

abbrev pub past : State → Result Extent RecordFault → State
past s (Ok e) = record { sheet = s.sheet; at = s.at + e.to; records = next_count s; variables = s.variables }
past s (Err f) = s

abbrev pub after_record : State → State
after_record s = cond (nat_le (length s.sheet) s.at) s (past s (record_here s))
