-- What the fault that ends a run says: its number, its byte, its record and its layer. Assumes nothing.
use Rattle.std.specs.Prelude.{ℕ}
use Rattle.sheet.specs.declared.fault.Layer.{Layer}
use Rattle.sheet.specs.declared.fault.Layer.TheVariants as layer
use Rattle.sheet.specs.Fault as sheet
use Rattle.field.specs.Refusal as field
use Rattle.book.specs.Phases as book
use Rattle.lines.specs.declared.fault.Fault.{Fault}
use Rattle.lines.specs.declared.fault.Fault.TheVariants.{Sheet, Field, Book}

abbrev pub number_of : Fault → ℕ
number_of (Sheet f) = sheet.fault_number f
number_of (Field r byte) = field.number_of r
number_of (Book r byte count) = book.number_of r

-- a refusal of the heading stands at the number that was judged, one of a record at its first byte
abbrev pub byte_of : Fault → ℕ
byte_of (Sheet f) = sheet.fault_byte f
byte_of (Field r byte) = byte
byte_of (Book r byte count) = byte

abbrev pub record_of : Fault → ℕ
record_of (Sheet f) = sheet.fault_record f
record_of (Field r byte) = 0
record_of (Book r byte count) = count

abbrev pub layer_of : Fault → Layer
layer_of (Sheet f) = sheet.fault_layer f
layer_of (Field r byte) = layer.Book
layer_of (Book r byte count) = layer.Book
