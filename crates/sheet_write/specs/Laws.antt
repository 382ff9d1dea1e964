-- What is written reads back, and what was read is written to the same bytes. Assumes nothing.
use Rattle.std.specs.Prelude.{◌≡◌, ℕ, ◌≤◌, List, ◌++◌, length, take, Some, Ok}
use Rattle.sheet.specs.declared.record.Extent.{Extent}
use Rattle.sheet.specs.Number.{Bytes, number_bytes, read_number}
use Rattle.sheet.specs.Numbers.{numbers_of}
use Rattle.sheet.specs.Body.{kind_of, kind_number}
use Rattle.sheet.specs.Record.{read_record, body_of}
use Rattle.sheet_write.specs.Writing.{write_record}

-- a written number reads back and uses all its bytes, whatever bytes follow; a number that was read is written to the same bytes
pub record NumbersRound : Type 0 where
  pub reads_back : (limit v : ℕ) (rest : List ℕ) → v ≤ limit → limit ≤ 65535 → read_number limit (number_bytes v ++ rest) ≡ Ok (v, length (number_bytes v))
  pub writes_back : (limit : ℕ) (bytes : List ℕ) (v size : ℕ) → Bytes bytes → read_number limit bytes ≡ Ok (v, size) → number_bytes v ≡ take size bytes

-- bytes read as the record of kind k with the numbers xs, and the record takes `size` of them
pub record ReadsAs (n k : ℕ) (xs bytes : List ℕ) (start count size : ℕ) : Type 0 where
  pub extent : Extent
  pub reads : read_record n bytes start count ≡ Ok extent
  pub kind : kind_of k ≡ Some extent.kind
  pub numbers : numbers_of (body_of bytes extent) ≡ xs
  pub ends : extent.to ≡ size

-- the record that was found in the bytes is written to just the bytes that it took
abbrev pub WritesBack : ℕ → List ℕ → Extent → Type 0
WritesBack n bytes e = 1 ≤ n → n ≤ 8 → write_record n (kind_number e.kind) (numbers_of (body_of bytes e)) ≡ Ok (take e.to bytes)

-- the same of records, wherever they stand
pub record RecordsRound : Type 0 where
  pub reads_back : (n k : ℕ) (xs bytes rest : List ℕ) (start count : ℕ) → write_record n k xs ≡ Ok bytes → ReadsAs n k xs (bytes ++ rest) start count (length bytes)
  pub writes_back : (n : ℕ) (bytes : List ℕ) (start count : ℕ) (e : Extent) → Bytes bytes → read_record n bytes start count ≡ Ok e → WritesBack n bytes e
