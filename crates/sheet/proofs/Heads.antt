-- How a record's kind and length are read. Assumes nothing.
use Rattle.std.proofs.Common.{◌≡◌, ℕ, ◌+◌, ◌≤◌, Bool, true, false, cond, List, length, drop, Some, Ok, Err, Result, sym, refl, ap, ◌∙◌, arith}
use Rattle.std.proofs.lemmas.Bool.{cond-true, le-leb}
use Rattle.sheet.specs.declared.fault.NumberFault.{NumberFault}
use Rattle.sheet.specs.declared.fault.RecordFault.{RecordFault}
use Rattle.sheet.specs.declared.kind.Kind.{Kind}
use Rattle.sheet.specs.declared.record.Extent.{Extent}
use Rattle.sheet.specs.Fault.{in_record, in_sheet, next}
use Rattle.sheet.specs.Number.{Reading}
use Rattle.sheet.specs.Body.{kind_of, number_at, at_place, check_body}
use Rattle.sheet.specs.Record.{known, inside, read_head, read_record, body_of}

module _ (bytes : List ℕ) (start count : ℕ) where
  -- what follows the length, and what follows the kind
  abbrev after_length : Kind → ℕ → (ℕ × ℕ) → Result Extent RecordFault
  after_length kind size l = inside start count kind (size + l.1) (size + l.1 + l.0) bytes

  abbrev after_kind : ℕ → Kind → Result Extent RecordFault
  after_kind size kind = next (in_record (number_at 65520 (drop size bytes) (start + size) count)) (after_length kind size)

  abbrev after_number : (ℕ × ℕ) → Result Extent RecordFault
  after_number k = next (known start count (kind_of k.0)) (after_kind k.1)

  -- the kind is read, and the length well or not
  pub kind_here : (k size : ℕ) (kind : Kind) (r : Result (ℕ × ℕ) NumberFault) → Ok (k, size) ≡ number_at 65535 bytes start count → Some kind ≡ kind_of k → r ≡ number_at 65520 (drop size bytes) (start + size) count → read_head bytes start count ≡ next (in_record r) (after_length kind size)
  kind_here k size kind r e f g =
      ap (λ (x : Result (ℕ × ℕ) NumberFault). next (in_record x) after_number) (sym e)
      ∙ ap (λ o. next (known start count o) (after_kind size)) (sym f)
      ∙ ap (λ (x : Result (ℕ × ℕ) NumberFault). next (in_record x) (after_length kind size)) (sym g)

  pub body_inside : (kind : Kind) (from to : ℕ) → to ≤ length bytes → inside start count kind from to bytes ≡ Ok (record { kind = kind; from = from; to = to })
  body_inside kind from to h = cond-true _ _ _ (le-leb to (length bytes) h)

-- what was read to the end was read to the end of its first part
pub next_ok : {A B E : Type 0} (r : Result A E) (f : A → Result B E) (b : B) → next r f ≡ Ok b → (a : A) × (r ≡ Ok a) × (f a ≡ Ok b)
next_ok (Ok a) f b e = (a, refl, e)
next_ok {A} {B} {E} (Err d) f b e = let z : ◌≡◌ {A = ℕ} 0 1 = cc in absurd (omega arith)

-- the way that led to an answer
pub taken : {A E : Type 0} (b : Bool) (r : Result A E) (f : E) (x : A) → cond b r (Err f) ≡ Ok x → (b ≡ true) × (r ≡ Ok x)
taken true r f x e = (refl, e)
taken false r f x e = let z : ◌≡◌ {A = ℕ} 0 1 = cc in absurd (omega arith)

pub placed_ok : (byte count : ℕ) (r : Reading) (p : ℕ × ℕ) → in_record (at_place byte count r) ≡ Ok p → r ≡ Ok p
placed_ok byte count (Ok q) p e = cc
placed_ok byte count (Err cause) p e = let z : ◌≡◌ {A = ℕ} 0 1 = cc in absurd (omega arith)

pub sheet_ok : {A : Type 0} (r : Result A RecordFault) (x : A) → in_sheet r ≡ Ok x → r ≡ Ok x
sheet_ok (Ok y) x h = cc
sheet_ok (Err f) x h = let z : ◌≡◌ {A = ℕ} 0 1 = cc in absurd (omega arith)

-- a record that was read has a head and a body that were read
pub record_parts : (n : ℕ) (bytes : List ℕ) (start count : ℕ) (e : Extent) → read_record n bytes start count ≡ Ok e → (read_head bytes start count ≡ Ok e) × (check_body e.kind n start count (start + e.from) (body_of bytes e) ≡ Ok tt)
record_parts n bytes start count e h =
    let body : Extent → Result (Unit {0}) RecordFault = λ x. check_body x.kind n start count (start + x.from) (body_of bytes x) in
    let head = next_ok (read_head bytes start count) (λ x. next (body x) (λ _. Ok x)) e h in
    let rest = next_ok (body head.0) (λ _. Ok head.0) e head.2 in
    let same : head.0 ≡ e = cc rest.2 in
    (head.1 ∙ ap Ok same, sym (ap body same) ∙ rest.1)
