-- A sheet that was read is written to the same bytes. Assumes nothing.
use Rattle.std.proofs.Common.{◌≡◌, ℕ, zero, suc, ◌+◌, ◌<◌, ◌≤◌, true, cond, ◌&&◌, eqb, ltb, List, [], ◌∷◌, ◌++◌, length, take, drop, Some, None, Ok, Option, Result, sym, refl, ap, ◌∙◌, subst, ⊎_elim, arith, take-append-drop}
use Rattle.std.proofs.lemmas.List.{drop-drop, drop_all}
use Rattle.std.proofs.lemmas.Bool.{false≢true, cases_lt, eqb-true, le-leb, lt-leb, cond-true, cond-false, and_parts}
use Rattle.sheet.specs.declared.fault.RecordFault.{RecordFault}
use Rattle.sheet.specs.declared.fault.SheetFault.{SheetFault}
use Rattle.sheet.specs.declared.record.Extent.{Extent}
use Rattle.sheet.specs.Fault.{in_sheet, next}
use Rattle.sheet.specs.Number.{Bytes, number_bytes, read_number}
use Rattle.sheet.specs.Reading.{State, Seen, opening, opens, open_sheet, heading, heading_number, after_number, begun, next_count, record_here, as_seen, next_record, past, after_record}
use Rattle.sheet.proofs.Heads.{next_ok, taken, placed_ok, sheet_ok}
use Rattle.sheet.proofs.Lists.{bytes_drop, taken_from}
use Rattle.sheet_write.specs.Writing.{write_record}
use Rattle.sheet_write.specs.Sheet.{Entry, Sheet, write_records, sheet_bytes, write_sheet, entry, more, read_all, after_heading, read_sheet}
use Rattle.sheet_write.proofs.Sheets.{record_some, then_records, then_variables, then_modulus, then_field}
use Rattle.sheet_write.proofs.Writebacks.{passed, record_writes_back}

-- the bytes from where a reader stands
abbrev left : State → List ℕ
left s = drop s.at s.sheet

take_some : (k : ℕ) (bs : List ℕ) → 1 ≤ length (take k bs) → 1 ≤ k
take_some zero bs h = absurd (omega arith)
take_some (suc k) bs h = omega arith

two_parts : (s : State) (size : ℕ) → take size (left s) ++ drop (s.at + size) s.sheet ≡ left s
two_parts s size = ap (λ bs. take size (left s) ++ bs) (sym (drop-drop size s.at s.sheet)) ∙ take-append-drop size (left s)

-- a sheet that opens well begins with the opening
opens_with : (bytes : List ℕ) → opens bytes ≡ true → opening ++ drop 3 bytes ≡ bytes
opens_with [] h = absurd (false≢true h)
opens_with (a ∷ []) h = absurd (false≢true h)
opens_with (a ∷ b ∷ []) h = absurd (false≢true h)
opens_with (a ∷ b ∷ d ∷ rest) h =
    let one = and_parts (eqb a 66) (eqb b 66 && eqb d 49) h in
    let two = and_parts (eqb b 66) (eqb d 49) one.1 in
    (λ i. sym (eqb-true a 66 one.0) i ∷ sym (eqb-true b 66 two.0) i ∷ sym (eqb-true d 49 two.1) i ∷ rest)

record Opened (bytes : List ℕ) (s : State) : Type 0 where
  same : s.sheet ≡ bytes
  splits : opening ++ left s ≡ bytes

opened_well : (bytes : List ℕ) (s : State) → open_sheet bytes ≡ Ok s → Opened bytes s
opened_well bytes s h =
    let start : State = record { sheet = bytes; at = 3; records = 0; variables = 0 } in
    let short = passed (ltb 65535 (length bytes)) _ (cond (opens bytes) (Ok start) _) s h in
    let well = taken (opens bytes) (Ok start) _ s short.1 in
    let is : start ≡ s = cc well.1 in
    subst (Opened bytes) is (record { same = refl; splits = opens_with bytes well.0 })

-- a number of the heading that was read, and the bytes after it
record PassedNumber (s : State) (v : ℕ) : Type 0 where
  same : (after_heading s).sheet ≡ s.sheet
  splits : number_bytes v ++ left (after_heading s) ≡ left s

number_passed : (s : State) (a : ℕ × ℕ) → Bytes s.sheet → heading_number s ≡ Ok a → PassedNumber s a.0
number_passed s a fit h =
    let found = next_ok (in_sheet (heading s)) (λ p. Ok (p.0, s.at)) a h in
    let p : ℕ × ℕ = found.0 in
    let is : (p.0, s.at) ≡ a = cc found.2 in
    let here : heading s ≡ Ok p = sheet_ok (heading s) p found.1 in
    let t = taken_from 65535 (left s) p.0 p.1 (bytes_drop s.at s.sheet fit) (placed_ok s.at 0 (read_number 65535 (left s)) p here) in
    let moved : after_heading s ≡ record { sheet = s.sheet; at = s.at + p.1; records = s.records; variables = s.variables } = ap (after_number s) here in
    record {
      same = ap (λ (x : State). x.sheet) moved;
      splits = (λ i. number_bytes (sym is i).0 ++ left (moved i))
          ∙ ap (λ bs. bs ++ drop (s.at + p.1) s.sheet) (sym t.shortest)
          ∙ two_parts s p.1;
    }

-- the first record is written before the others
first_written : (n : ℕ) (r : Entry) (rs : List Entry) (here later : List ℕ) → write_record n r.0 r.1 ≡ Ok here → write_records n rs ≡ Ok later → write_records n (r ∷ rs) ≡ Ok (here ++ later)
first_written n r rs here later one others =
    ap (λ (x : Result (List ℕ) RecordFault). next x (λ bs. next (write_records n rs) (λ ms. Ok (bs ++ ms)))) one
    ∙ ap (λ (x : Result (List ℕ) RecordFault). next x (λ ms. Ok (here ++ ms))) others

-- the first record that was read, and the others
abbrev past_first : State → Extent → State
past_first s e = record { sheet = s.sheet; at = s.at + e.to; records = next_count s; variables = s.variables }

record FirstRead (turns : ℕ) (s : State) (rs : List Entry) : Type 0 where
  extent : Extent
  later : List Entry
  here : record_here s ≡ Ok extent
  others : read_all turns (past_first s extent) ≡ Ok later
  are : entry (as_seen s extent) ∷ later ≡ rs

first_read : (turns : ℕ) (s : State) (rs : List Entry) → s.at < length s.sheet → read_all (suc turns) s ≡ Ok rs → FirstRead turns s rs
first_read turns s rs more_bytes h =
    let room = lt-leb (length s.sheet) s.at more_bytes in
    let call = next_ok (next_record s) (λ o. more o (read_all turns (after_record s))) rs h in
    let met = next_ok (in_sheet (record_here s)) (λ x. Ok (Some (as_seen s x))) call.0 (sym (cond-false _ _ _ room) ∙ call.1) in
    let seen : Some (as_seen s met.0) ≡ call.0 = cc met.2 in
    let here = sheet_ok (record_here s) met.0 met.1 in
    let after : after_record s ≡ past_first s met.0 = cond-false _ _ _ room ∙ ap (past s) here in
    let rest = next_ok (read_all turns (after_record s)) (λ qs. Ok (entry (as_seen s met.0) ∷ qs)) rs (ap (λ o. more o (read_all turns (after_record s))) seen ∙ call.2) in
    record { extent = met.0; later = rest.0; here = here; others = ap (read_all turns) (sym after) ∙ rest.1; are = cc rest.2 }

none_read : (turns : ℕ) (s : State) (rs : List Entry) → length s.sheet ≤ s.at → read_all (suc turns) s ≡ Ok rs → [] ≡ rs
none_read turns s rs over h =
    let ended : next_record s ≡ Ok None = cond-true _ _ _ (le-leb (length s.sheet) s.at over) in
    let answer : Ok [] ≡ Ok rs = sym (ap (λ (x : Result (Option Seen) SheetFault). next x (λ o. more o (read_all turns (after_record s)))) ended) ∙ h in
    cc answer

none_written : (s : State) (rs : List Entry) → length s.sheet ≤ s.at → [] ≡ rs → write_records s.variables rs ≡ Ok (left s)
none_written s rs over none = ap (write_records s.variables) (sym none) ∙ ap Ok (sym (drop_all s.at s.sheet over))

-- the records that were read are written to the bytes that were left
pub all_write_back : (turns : ℕ) (s : State) (rs : List Entry) → Bytes s.sheet → 1 ≤ s.variables → s.variables ≤ 8 → length s.sheet ≤ s.at + turns → read_all turns s ≡ Ok rs → write_records s.variables rs ≡ Ok (left s)
all_write_back zero s rs fit low high room h = none_written s rs (omega arith) (cc h)
all_write_back (suc turns) s rs fit low high room h =
    ⊎_elim
    (λ more_bytes.
    let f = first_read turns s rs more_bytes h in
    let n = s.variables in
    let e = f.extent in
    let r = entry (as_seen s e) in
    let one = record_writes_back n (left s) s.at (next_count s) e (bytes_drop s.at s.sheet fit) f.here low high in
    let some = take_some e.to (left s) (record_some n r.0 r.1 (take e.to (left s)) one) in
    let others = all_write_back turns (past_first s e) f.later fit low high (omega arith) f.others in
    ap (write_records n) (sym f.are) ∙ first_written n r f.later (take e.to (left s)) (left (past_first s e)) one others ∙ ap Ok (two_parts s e.to))
    (λ over. none_written s rs over (none_read turns s rs over h))
    (cases_lt s.at (length s.sheet))

pub read_writes_back : (s : Sheet) (bytes : List ℕ) → Bytes bytes → read_sheet bytes ≡ Ok s → 1 ≤ s.variables → s.variables ≤ 8 → write_sheet s ≡ Ok bytes
read_writes_back s bytes fit h low high =
    let opened = next_ok (open_sheet bytes) (then_field bytes) s h in
    let zeroth : State = opened.0 in
    let first : State = after_heading zeroth in
    let second : State = after_heading first in
    let third : State = after_heading second in
    let a = next_ok (heading_number zeroth) (λ x. then_modulus bytes x.0 first) s opened.2 in
    let b = next_ok (heading_number first) (λ x. then_variables bytes a.0.0 x.0 second) s a.2 in
    let n = next_ok (heading_number second) (λ x. then_records bytes a.0.0 b.0.0 x.0 third) s b.2 in
    let field = a.0.0 in
    let modulus = b.0.0 in
    let variables = n.0.0 in
    let all = next_ok (read_all (length bytes) (begun variables third)) (λ rs. Ok (record { field = field; modulus = modulus; variables = variables; records = rs })) s n.2 in
    let rs : List Entry = all.0 in
    let sheet : Sheet = record { field = field; modulus = modulus; variables = variables; records = rs } in
    let is : sheet ≡ s = cc all.2 in
    let count : variables ≡ s.variables = ap (λ (x : Sheet). x.variables) is in
    let o = opened_well bytes zeroth opened.1 in
    let p = number_passed zeroth a.0 (subst Bytes (sym o.same) fit) a.1 in
    let first-same : first.sheet ≡ bytes = p.same ∙ o.same in
    let q = number_passed first b.0 (subst Bytes (sym first-same) fit) b.1 in
    let second-same : second.sheet ≡ bytes = q.same ∙ first-same in
    let r = number_passed second n.0 (subst Bytes (sym second-same) fit) n.1 in
    let third-same : third.sheet ≡ bytes = r.same ∙ second-same in
    let records : write_records variables rs ≡ Ok (left third) = all_write_back (length bytes) (begun variables third) rs (subst Bytes (sym third-same) fit) (omega arith) (omega arith) (omega (arith, ap length third-same)) all.1 in
    let whole : sheet_bytes sheet (left third) ≡ bytes =
    ap (λ bs. opening ++ (number_bytes field ++ (number_bytes modulus ++ bs))) r.splits
    ∙ ap (λ bs. opening ++ (number_bytes field ++ bs)) q.splits
    ∙ ap (λ bs. opening ++ bs) p.splits
    ∙ o.splits in
    ap write_sheet (sym is)
    ∙ ap (λ (x : Result (List ℕ) RecordFault). next x (λ bs. Ok (sheet_bytes sheet bs))) records
    ∙ ap Ok whole
