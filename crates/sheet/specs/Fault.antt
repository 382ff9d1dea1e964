-- What a fault says: its number, the place of its byte in the sheet, the record that it was met in, and its layer. Assumes nothing.
use Rattle.std.specs.Prelude.{ℕ, List, Ok, Err, codes, Result}
use Rattle.sheet.specs.declared.number.NumberCause.{NumberCause}
use Rattle.sheet.specs.declared.number.NumberCause.TheVariants.{Unfinished, NotShortest, TooLarge}
use Rattle.sheet.specs.declared.fault.NumberFault.{NumberFault}
use Rattle.sheet.specs.declared.fault.RecordFault.{RecordFault}
use Rattle.sheet.specs.declared.fault.RecordFault.TheVariants.{Number, UnknownKind, WrongBody, WrongVariables, ShortOutput}
use Rattle.sheet.specs.declared.fault.SheetFault.{SheetFault}
use Rattle.sheet.specs.declared.fault.SheetFault.TheVariants.{Record, WrongOpening, TooLong}
use Rattle.sheet.specs.declared.fault.Layer.{Layer}
use Rattle.sheet.specs.declared.fault.Layer.TheVariants as layer

-- what a number's fault says at a byte of a record
abbrev pub fault_at : ℕ → ℕ → NumberCause → NumberFault
fault_at byte count cause = record { cause = cause; byte = byte; «record» = count }

abbrev pub cause_number : NumberCause → ℕ
cause_number Unfinished = 18
cause_number NotShortest = 19
cause_number TooLarge = 20

abbrev pub record_number : RecordFault → ℕ
record_number (Number f) = cause_number f.cause
record_number (UnknownKind byte count) = 22
record_number (WrongBody byte count) = 23
record_number WrongVariables = 1
record_number ShortOutput = 24

abbrev pub fault_number : SheetFault → ℕ
fault_number (Record f) = record_number f
fault_number WrongOpening = 21
fault_number TooLong = 25

-- places count from 0; a fault of the whole sheet, and any in writing, stands at place 0
abbrev pub record_byte : RecordFault → ℕ
record_byte (Number f) = f.byte
record_byte (UnknownKind byte count) = byte
record_byte (WrongBody byte count) = byte
record_byte WrongVariables = 0
record_byte ShortOutput = 0

abbrev pub fault_byte : SheetFault → ℕ
fault_byte (Record f) = record_byte f
fault_byte WrongOpening = 0
fault_byte TooLong = 0

-- records count from 1; 0 stands for the heading, the whole sheet and writing
abbrev pub record_count : RecordFault → ℕ
record_count (Number f) = f.«record»
record_count (UnknownKind byte count) = count
record_count (WrongBody byte count) = count
record_count WrongVariables = 0
record_count ShortOutput = 0

abbrev pub fault_record : SheetFault → ℕ
fault_record (Record f) = record_count f
fault_record WrongOpening = 0
fault_record TooLong = 0

abbrev pub layer_name : Layer → List ℕ
layer_name layer.Number = codes "number"
layer_name layer.Record = codes "record"
layer_name layer.Book = codes "book"

abbrev pub record_layer : RecordFault → Layer
record_layer (Number f) = layer.Number
record_layer (UnknownKind byte count) = layer.Record
record_layer (WrongBody byte count) = layer.Record
record_layer WrongVariables = layer.Record
record_layer ShortOutput = layer.Record

abbrev pub fault_layer : SheetFault → Layer
fault_layer (Record f) = record_layer f
fault_layer WrongOpening = layer.Record
fault_layer TooLong = layer.Record

-- a number's fault stands whole in its record's, and that in the sheet's
abbrev pub in_record : {A : Type 0} → Result A NumberFault → Result A RecordFault
in_record (Ok x) = Ok x
in_record (Err f) = Err (Number f)

abbrev pub in_sheet : {A : Type 0} → Result A RecordFault → Result A SheetFault
in_sheet (Ok x) = Ok x
in_sheet (Err f) = Err (Record f)

-- what follows goes on from what was read, and is left out at a fault
abbrev pub next : {A B E : Type 0} → Result A E → (A → Result B E) → Result B E
next (Ok x) f = f x
next (Err e) f = Err e
