-- The records of a sheet: a kind, the length of the body, the body. Assumes nothing.
use Rattle.std.specs.Prelude.{ℕ, ◌+◌, ◌-◌, ◌≤◌, cond, List, length, take, drop, Some, None, Ok, Err, Option, Result, nat_le}
use Rattle.sheet.specs.declared.fault.RecordFault.{RecordFault}
use Rattle.sheet.specs.declared.fault.RecordFault.TheVariants.{UnknownKind, WrongBody}
use Rattle.sheet.specs.declared.kind.Kind.{Kind}
use Rattle.sheet.specs.declared.record.Extent.{Extent}
use Rattle.sheet.specs.Fault.{in_record, next}
use Rattle.sheet.specs.Body.{kind_of, number_at, check_body}

abbrev pub known : ℕ → ℕ → Option Kind → Result Kind RecordFault
known start count (Some kind) = Ok kind
known start count None = Err (UnknownKind start count)

-- a body from one byte to another lies inside the sheet
abbrev pub inside : ℕ → ℕ → Kind → ℕ → ℕ → List ℕ → Result Extent RecordFault
inside start count kind from to bytes = cond (nat_le to (length bytes)) (Ok (record { kind = kind; from = from; to = to })) (Err (WrongBody start count))

-- the kind and the length of a record whose first byte is the first of the bytes, and stands at `start` in the sheet
abbrev pub read_head : List ℕ → ℕ → ℕ → Result Extent RecordFault
read_head bytes start count =
    next (in_record (number_at 65535 bytes start count)) (λ k.
    next (known start count (kind_of k.0)) (λ kind.
    next (in_record (number_at 65520 (drop k.1 bytes) (start + k.1) count)) (λ l.
    inside start count kind (k.1 + l.1) (k.1 + l.1 + l.0) bytes)))

-- the bytes of a body
abbrev pub body_of : List ℕ → Extent → List ℕ
body_of bytes e = take (e.to - e.from) (drop e.from bytes)

-- a record with n variables
abbrev pub read_record : ℕ → List ℕ → ℕ → ℕ → Result Extent RecordFault
read_record n bytes start count =
    next (read_head bytes start count) (λ e.
    next (check_body e.kind n start count (start + e.from) (body_of bytes e)) (λ _. Ok e))

-- a record that was read ends inside its bytes, and takes two of them at least
pub record PlacedInside (bytes : List ℕ) (e : Extent) : Type 0 where
  pub some : 2 ≤ e.from
  pub ordered : e.from ≤ e.to
  pub ends : e.to ≤ length bytes
