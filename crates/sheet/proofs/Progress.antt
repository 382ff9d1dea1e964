-- A reader gives records to the end of its sheet: each leaves fewer bytes. Assumes nothing.
use Rattle.std.proofs.Common.{◌≡◌, ℕ, ◌+◌, ◌-◌, ◌<◌, ◌≤◌, leb, List, length, drop, Some, None, Ok, Err, Option, Result, sym, refl, ap, ◌∙◌, ⊎_elim, arith}
use Rattle.std.proofs.lemmas.Bool.{le-leb, lt-leb, cond-true, cond-false, cases_lt}
use Rattle.sheet.specs.declared.fault.SheetFault.{SheetFault}
use Rattle.sheet.specs.declared.kind.Kind.{Kind}
use Rattle.sheet.specs.declared.record.Extent.{Extent}
use Rattle.sheet.specs.Fault.{in_record, in_sheet, next}
use Rattle.sheet.specs.Number.{Reading, read_number}
use Rattle.sheet.specs.Body.{kind_of, number_at}
use Rattle.sheet.specs.Record.{known, inside, read_record}
use Rattle.sheet.specs.Reading.{State, Seen, next_count, record_here, as_seen, next_record, past, after_record}
use Rattle.sheet.proofs.Digits.{SomeBytes, number_some}
use Rattle.sheet.proofs.Heads.{next_ok, record_parts, taken, placed_ok, sheet_ok}

-- a number that was read takes a byte at least
takes_one : (limit : ℕ) (bytes : List ℕ) (p : ℕ × ℕ) → read_number limit bytes ≡ Ok p → 1 ≤ p.1
takes_one limit bytes p e = go (read_number limit bytes) e (number_some limit bytes)
  where
    go : (r : Reading) → r ≡ Ok p → SomeBytes r → 1 ≤ p.1
    go (Ok q) h s = let same : q ≡ p = cc in omega (arith, s, ap (λ (y : ℕ × ℕ). y.1) same)
    go (Err d) h s = let z : ◌≡◌ {A = ℕ} 0 1 = cc in absurd (omega arith)

-- so does a record
record_takes : (n : ℕ) (bytes : List ℕ) (start count : ℕ) (e : Extent) → read_record n bytes start count ≡ Ok e → 1 ≤ e.to
record_takes n bytes start count e h =
    let head = (record_parts n bytes start count e h).0 in
    let first = next_ok (in_record (number_at 65535 bytes start count)) (λ k. next (known start count (kind_of k.0)) (λ kind. next (in_record (number_at 65520 (drop k.1 bytes) (start + k.1) count)) (λ l. inside start count kind (k.1 + l.1) (k.1 + l.1 + l.0) bytes))) e head in
    let k : ℕ × ℕ = first.0 in
    let second = next_ok (known start count (kind_of k.0)) (λ kind. next (in_record (number_at 65520 (drop k.1 bytes) (start + k.1) count)) (λ l. inside start count kind (k.1 + l.1) (k.1 + l.1 + l.0) bytes)) e first.2 in
    let kind : Kind = second.0 in
    let third = next_ok (in_record (number_at 65520 (drop k.1 bytes) (start + k.1) count)) (λ l. inside start count kind (k.1 + l.1) (k.1 + l.1 + l.0) bytes) e second.2 in
    let l : ℕ × ℕ = third.0 in
    let some = takes_one 65535 bytes k (placed_ok start count (read_number 65535 bytes) k first.1) in
    let whole : Extent = record { kind = kind; from = k.1 + l.1; to = k.1 + l.1 + l.0 } in
    let ends = (taken (leb (k.1 + l.1 + l.0) (length bytes)) (Ok whole) _ e third.2).1 in
    let is : whole ≡ e = cc in
    omega (arith, some, ap (λ (x : Extent). x.to) is)

-- at the end there is no record, and before it the reader goes on
pub at_end : (s : State) → length s.sheet ≤ s.at → next_record s ≡ Ok None
at_end s h = cond-true _ _ _ (le-leb (length s.sheet) s.at h)

before_end : (s : State) (r : Result (Option Seen) SheetFault) → next_record s ≡ r → (r ≡ Ok None → ⊥) → s.at < length s.sheet
before_end s r e other = ⊎_elim (λ h. h) (λ h. absurd (other (sym e ∙ at_end s h))) (cases_lt s.at (length s.sheet))

not_none : (x : Seen) (r : Result (Option Seen) SheetFault) → r ≡ Ok (Some x) → r ≡ Ok None → ⊥
not_none x r e d = let z : ◌≡◌ {A = ℕ} 0 1 = cc in omega arith

pub progress : (s : State) (x : Seen) → next_record s ≡ Ok (Some x) → length (after_record s).sheet - (after_record s).at < length s.sheet - s.at
progress s x e =
    let room = before_end s (next_record s) refl (not_none x (next_record s) e) in
    let on = lt-leb (length s.sheet) s.at room in
    let found = next_ok (in_sheet (record_here s)) (λ y. Ok (Some (as_seen s y))) (Some x) (sym (cond-false _ _ _ on) ∙ e) in
    let d : Extent = found.0 in
    let here = sheet_ok (record_here s) d found.1 in
    let after : after_record s ≡ record { sheet = s.sheet; at = s.at + d.to; records = next_count s; variables = s.variables } = cond-false _ _ _ on ∙ ap (past s) here in
    let takes = record_takes s.variables (drop s.at s.sheet) s.at (next_count s) d here in
    let to : length (after_record s).sheet - (after_record s).at ≡ length s.sheet - (s.at + d.to) = ap (λ (t : State). length t.sheet - t.at) after in
    omega (arith, takes, to, room)
