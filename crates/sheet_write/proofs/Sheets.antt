-- A sheet that is written reads back, record by record. Assumes nothing.
use Rattle.std.proofs.Common.{◌≡◌, ℕ, zero, suc, ◌+◌, ◌<◌, ◌≤◌, List, [], ◌∷◌, ◌++◌, length, drop, Some, Ok, Option, Result, sym, refl, ap, ◌∙◌, subst, append_assoc, arith, length-append}
use Rattle.std.proofs.lemmas.List.{drop_at, drop-drop}
use Rattle.std.proofs.lemmas.Bool.{le-leb, lt-leb, le-ltb, cond-true, cond-false}
use Rattle.sheet.specs.declared.fault.RecordFault.{RecordFault}
use Rattle.sheet.specs.declared.fault.SheetFault.{SheetFault}
use Rattle.sheet.specs.declared.record.Extent.{Extent}
use Rattle.sheet.specs.Fault.{in_record, in_sheet, next}
use Rattle.sheet.specs.Number.{number_bytes}
use Rattle.sheet.specs.Body.{number_at}
use Rattle.sheet.specs.Reading.{State, Seen, opening, open_sheet, heading, heading_number, after_number, begun, next_count, record_here, as_seen, next_record, past, after_record}
use Rattle.sheet.proofs.Heads.{next_ok}
use Rattle.sheet_write.specs.Writing.{heading_bytes, flat, accepted, record_bytes, write_record}
use Rattle.sheet_write.specs.Laws.{ReadsAs}
use Rattle.sheet_write.specs.Sheet.{Entry, Sheet, write_records, sheet_bytes, write_sheet, entry, more, read_all, after_heading, read_sheet, HeadingFits}
use Rattle.sheet_write.proofs.Accepts.{accepted_parts, kind_is, kind_low}
use Rattle.sheet_write.proofs.Readbacks.{record_reads_back, number_first, bytes_some}

-- a record takes a byte at least
pub record_some : (n k : ℕ) (xs bytes : List ℕ) → write_record n k xs ≡ Ok bytes → 1 ≤ length bytes
record_some n k xs bytes h =
    let found = next_ok (accepted n k xs) (λ size. Ok (record_bytes k size xs)) bytes h in
    let size = found.0 in
    let a = accepted_parts n k xs size found.1 in
    let is : record_bytes k size xs ≡ bytes = cc found.2 in
    omega (arith, ap length is, length-append (number_bytes k) (number_bytes size ++ flat xs), bytes_some k (omega (arith, kind_is k a.kind a.is_kind, kind_low a.kind)))

-- the first record of several, and the others
pub record First (n : ℕ) (r : Entry) (rs : List Entry) (bytes : List ℕ) : Type 0 where
  pub here : List ℕ
  pub later : List ℕ
  pub one : write_record n r.0 r.1 ≡ Ok here
  pub others : write_records n rs ≡ Ok later
  pub are : here ++ later ≡ bytes
  pub some : 1 ≤ length here

pub first_of : (n : ℕ) (r : Entry) (rs : List Entry) (bytes : List ℕ) → write_records n (r ∷ rs) ≡ Ok bytes → First n r rs bytes
first_of n r rs bytes h =
    let one = next_ok (write_record n r.0 r.1) (λ bs. next (write_records n rs) (λ ms. Ok (bs ++ ms))) bytes h in
    let two = next_ok (write_records n rs) (λ ms. Ok (one.0 ++ ms)) bytes one.2 in
    record { here = one.0; later = two.0; one = one.1; others = two.1; are = cc two.2; some = record_some n r.0 r.1 one.0 one.1 }

pub records_few : (n : ℕ) (rs : List Entry) (bytes : List ℕ) → write_records n rs ≡ Ok bytes → length rs ≤ length bytes
records_few n [] bytes h = omega arith
records_few n (r ∷ rs) bytes h =
    let f = first_of n r rs bytes h in
    omega (arith, records_few n rs f.later f.others, f.some, ap length f.are, length-append f.here f.later)

-- one record is read where a reader stands
record Stepped (s : State) (r : Entry) (size : ℕ) : Type 0 where
  extent : Extent
  found : record_here s ≡ Ok extent
  is : entry (as_seen s extent) ≡ r
  ends : extent.to ≡ size

stepped : (s : State) (r : Entry) (here later : List ℕ) → drop s.at s.sheet ≡ here ++ later → write_record s.variables r.0 r.1 ≡ Ok here → Stepped s r (length here)
stepped s r here later rest one =
    let reads : ReadsAs s.variables r.0 r.1 (drop s.at s.sheet) s.at (next_count s) (length here) =
    subst (λ bs. ReadsAs s.variables r.0 r.1 bs s.at (next_count s) (length here)) (sym rest) (record_reads_back s.variables r.0 r.1 here later s.at (next_count s) one) in
    record {
      extent = reads.extent;
      found = reads.reads;
      is = (λ i. (sym (kind_is r.0 reads.extent.kind reads.kind) i, reads.numbers i));
      ends = reads.ends;
    }

-- the records that are left in the sheet are read one by one
pub reads_all : (rs : List Entry) (bytes : List ℕ) (s : State) (turns : ℕ) → drop s.at s.sheet ≡ bytes → s.at + length bytes ≡ length s.sheet → write_records s.variables rs ≡ Ok bytes → length rs < turns → read_all turns s ≡ Ok rs
reads_all rs bytes s zero rest long h few = absurd (omega arith)
reads_all [] bytes s (suc turns) rest long h few =
    let none : [] ≡ bytes = cc h in
    let past_end : length s.sheet ≤ s.at = omega (arith, ap length none) in
    ap (λ (r : Result (Option Seen) SheetFault). next r (λ o. more o (read_all turns (after_record s)))) (cond-true _ _ _ (le-leb (length s.sheet) s.at past_end))
reads_all (r ∷ rs) bytes s (suc turns) rest long h few =
    let f = first_of s.variables r rs bytes h in
    let step = stepped s r f.here f.later (rest ∙ sym f.are) f.one in
    let e = step.extent in
    let size = length f.here in
    let sizes = ap length f.are in
    let both = length-append f.here f.later in
    let room = lt-leb (length s.sheet) s.at (omega (arith, f.some)) in
    let onward : State = record { sheet = s.sheet; at = s.at + e.to; records = next_count s; variables = s.variables } in
    let after : after_record s ≡ onward = cond-false _ _ _ room ∙ ap (past s) step.found in
    let seen : next_record s ≡ Ok (Some (as_seen s e)) = cond-false _ _ _ room ∙ ap (λ (x : Result Extent RecordFault). next (in_sheet x) (λ y. Ok (Some (as_seen s y)))) step.found in
    let left : drop (s.at + e.to) s.sheet ≡ f.later =
    ap (λ t. drop (s.at + t) s.sheet) step.ends ∙ sym (drop-drop size s.at s.sheet) ∙ ap (drop size) (rest ∙ sym f.are) ∙ drop_at f.here f.later size refl in
    let others = reads_all rs f.later onward turns left (omega (arith, step.ends)) f.others (omega arith) in
    ap (λ (x : Result (Option Seen) SheetFault). next x (λ o. more o (read_all turns (after_record s)))) seen
    ∙ ap (λ (x : Result (List Entry) SheetFault). next x (λ qs. Ok (entry (as_seen s e) ∷ qs))) (ap (read_all turns) after ∙ others)
    ∙ ap (λ x. Ok (x ∷ rs)) step.is

-- so one list of bytes stands for one list of records
pub one_list : (n : ℕ) (rs qs : List Entry) (bytes : List ℕ) → write_records n rs ≡ Ok bytes → write_records n qs ≡ Ok bytes → rs ≡ qs
one_list n rs qs bytes h g =
    let s : State = record { sheet = bytes; at = 0; records = 0; variables = n } in
    let turns = suc (length bytes) in
    let a = reads_all rs bytes s turns refl (omega arith) h (omega (arith, records_few n rs bytes h)) in
    let b = reads_all qs bytes s turns refl (omega arith) g (omega (arith, records_few n qs bytes g)) in
    cc

-- a reader that stands before a number of the heading
module _ (s : State) (v : ℕ) (rest : List ℕ) (fits : v ≤ 65535) (stands : drop s.at s.sheet ≡ number_bytes v ++ rest) where
  abbrev pub moved : State
  moved = record { sheet = s.sheet; at = s.at + length (number_bytes v); records = s.records; variables = s.variables }

  heading_is : heading s ≡ Ok (v, length (number_bytes v))
  heading_is = ap in_record (ap (λ bs. number_at 65535 bs s.at 0) stands ∙ sym (number_first 65535 v rest s.at 0 fits (omega arith)))

  pub heading_reads : heading_number s ≡ Ok (v, s.at)
  heading_reads = ap (λ (r : Result (ℕ × ℕ) RecordFault). next (in_sheet r) (λ p. Ok (p.0, s.at))) heading_is

  pub heading_moves : after_heading s ≡ moved
  heading_moves = ap (after_number s) heading_is

  pub moved_stands : drop moved.at moved.sheet ≡ rest
  moved_stands = sym (drop-drop (length (number_bytes v)) s.at s.sheet) ∙ ap (drop (length (number_bytes v))) stands ∙ drop_at (number_bytes v) rest (length (number_bytes v)) refl

-- the calls that follow the opening, one by one
module _ (bytes : List ℕ) where
  abbrev pub then_records : ℕ → ℕ → ℕ → State → Result Sheet SheetFault
  then_records a b n s = next (read_all (length bytes) (begun n s)) (λ rs. Ok (record { field = a; modulus = b; variables = n; records = rs }))

  abbrev pub then_variables : ℕ → ℕ → State → Result Sheet SheetFault
  then_variables a b s = next (heading_number s) (λ n. then_records a b n.0 (after_heading s))

  abbrev pub then_modulus : ℕ → State → Result Sheet SheetFault
  then_modulus a s = next (heading_number s) (λ b. then_variables a b.0 (after_heading s))

  abbrev pub then_field : State → Result Sheet SheetFault
  then_field s = next (heading_number s) (λ a. then_modulus a.0 (after_heading s))

  by_calls : read_sheet bytes ≡ next (open_sheet bytes) then_field
  by_calls = refl

module _ (s : Sheet) (recs : List ℕ) (fits : HeadingFits s) (written : write_records s.variables s.records ≡ Ok recs) (short : length (sheet_bytes s recs) ≤ 65535) where
  abbrev bytes_of : List ℕ
  bytes_of = sheet_bytes s recs

  abbrev start : State
  start = record { sheet = bytes_of; at = 3; records = 0; variables = 0 }

  starts : drop start.at start.sheet ≡ number_bytes s.field ++ (number_bytes s.modulus ++ (number_bytes s.variables ++ recs))
  starts = refl

  abbrev one : State
  one = moved start s.field (number_bytes s.modulus ++ (number_bytes s.variables ++ recs)) fits.field starts

  one_stands : drop one.at one.sheet ≡ number_bytes s.modulus ++ (number_bytes s.variables ++ recs)
  one_stands = moved_stands start s.field (number_bytes s.modulus ++ (number_bytes s.variables ++ recs)) fits.field starts

  abbrev two : State
  two = moved one s.modulus (number_bytes s.variables ++ recs) fits.modulus one_stands

  two_stands : drop two.at two.sheet ≡ number_bytes s.variables ++ recs
  two_stands = moved_stands one s.modulus (number_bytes s.variables ++ recs) fits.modulus one_stands

  abbrev three : State
  three = moved two s.variables recs fits.variables two_stands

  three_stands : drop three.at three.sheet ≡ recs
  three_stands = moved_stands two s.variables recs fits.variables two_stands

  long : three.at + length recs ≡ length bytes_of
  long =
      let f = number_bytes s.field in
      let m = number_bytes s.modulus in
      let v = number_bytes s.variables in
      omega (arith, length-append f (m ++ (v ++ recs)), length-append m (v ++ recs), length-append v recs)

  all_read : read_all (length bytes_of) (begun s.variables three) ≡ Ok s.records
  all_read = reads_all s.records recs (begun s.variables three) (length bytes_of) three_stands long written (omega (arith, records_few s.variables s.records recs written, long))

  opens_well : open_sheet bytes_of ≡ Ok start
  opens_well = cond-false _ _ _ (le-ltb 65535 (length bytes_of) short)

  pub sheet_reads_back : read_sheet bytes_of ≡ Ok s
  sheet_reads_back =
      ap (λ (r : Result State SheetFault). next r (then_field bytes_of)) opens_well
      ∙ ap (λ (r : Result (ℕ × ℕ) SheetFault). next r (λ a. then_modulus bytes_of a.0 (after_heading start))) (heading_reads start s.field _ fits.field starts)
      ∙ ap (then_modulus bytes_of s.field) (heading_moves start s.field _ fits.field starts)
      ∙ ap (λ (r : Result (ℕ × ℕ) SheetFault). next r (λ b. then_variables bytes_of s.field b.0 (after_heading one))) (heading_reads one s.modulus _ fits.modulus one_stands)
      ∙ ap (then_variables bytes_of s.field s.modulus) (heading_moves one s.modulus _ fits.modulus one_stands)
      ∙ ap (λ (r : Result (ℕ × ℕ) SheetFault). next r (λ n. then_records bytes_of s.field s.modulus n.0 (after_heading two))) (heading_reads two s.variables _ fits.variables two_stands)
      ∙ ap (then_records bytes_of s.field s.modulus s.variables) (heading_moves two s.variables _ fits.variables two_stands)
      ∙ ap (λ (r : Result (List Entry) SheetFault). next r (λ rs. Ok (record { field = s.field; modulus = s.modulus; variables = s.variables; records = rs }))) all_read

pub sheet_back : (s : Sheet) (bytes : List ℕ) → HeadingFits s → write_sheet s ≡ Ok bytes → length bytes ≤ 65535 → read_sheet bytes ≡ Ok s
sheet_back s bytes fits h short =
    let found = next_ok (write_records s.variables s.records) (λ recs. Ok (sheet_bytes s recs)) bytes h in
    let recs = found.0 in
    let is : sheet_bytes s recs ≡ bytes = cc found.2 in
    subst (λ bs. read_sheet bs ≡ Ok s) is (sheet_reads_back s recs fits found.1 (omega (arith, ap length is)))

pub one_sheet : (s t : Sheet) (bytes : List ℕ) → HeadingFits s → HeadingFits t → write_sheet s ≡ Ok bytes → write_sheet t ≡ Ok bytes → length bytes ≤ 65535 → s ≡ t
one_sheet s t bytes f g h k short =
    let a = sheet_back s bytes f h short in
    let b = sheet_back t bytes g k short in
    cc

pub headed : (s : Sheet) (records : List ℕ) → sheet_bytes s records ≡ heading_bytes s.field s.modulus s.variables ++ records
headed s records =
    let f = number_bytes s.field in
    let m = number_bytes s.modulus in
    let v = number_bytes s.variables in
    sym (ap (λ bs. opening ++ bs) (append_assoc f (m ++ v) records ∙ ap (λ bs. f ++ bs) (append_assoc m v records)))
