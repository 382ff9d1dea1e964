-- One step of a reader. Assumes nothing.
use Rattle.std.proofs.Common.{◌≡◌, ℕ, ◌+◌, ◌<◌, min, List, [], ◌∷◌, length, drop, Some, Ok, Err, Result, sym, refl, ap, ◌∙◌, arith}
use Rattle.std.proofs.lemmas.Bool.{cond-false, lt-leb}
use Rattle.sheet.specs.declared.fault.RecordFault.{RecordFault}
use Rattle.sheet.specs.declared.fault.RecordFault.TheVariants.{WrongBody}
use Rattle.sheet.specs.declared.kind.Kind.{Kind}
use Rattle.sheet.specs.declared.kind.Kind.TheVariants.{Term, Close, Rule, Check, Question, Strike}
use Rattle.sheet.specs.declared.record.Extent.{Extent}
use Rattle.sheet.specs.Fault.{in_sheet, next}
use Rattle.sheet.specs.Body.{check_body}
use Rattle.sheet.specs.Record.{read_record, body_of}
use Rattle.sheet.specs.Reading.{State, held, record_here, as_seen, next_record, past, after_record}
use Rattle.sheet.proofs.Heads.{record_parts}

-- a body over of a kind that has none is refused
over : (start count : ℕ) → ◌≡◌ {A = Result (Unit {0}) RecordFault} (Err (WrongBody start count)) (Ok tt) → ⊥
over start count e = let z : ◌≡◌ {A = ℕ} 0 1 = cc in omega arith

-- a body that was read is kept whole
pub held_whole : (kind : Kind) (n start count byte : ℕ) (body : List ℕ) → check_body kind n start count byte body ≡ Ok tt → held kind body ≡ body
held_whole Term n start count byte body e = refl
held_whole Close n start count byte [] e = refl
held_whole Close n start count byte (b ∷ bs) e = absurd (over start count e)
held_whole Rule n start count byte body e = refl
held_whole Check n start count byte [] e = refl
held_whole Check n start count byte (b ∷ bs) e = absurd (over start count e)
held_whole Question n start count byte body e = refl
held_whole Strike n start count byte body e = refl

-- the record that was read is the next one, and the reader stands past it
pub next_seen : (s : State) (e : Extent) (rest : List ℕ) (count : ℕ) (kind : Kind) (body : List ℕ) → s.at < length s.sheet → rest ≡ drop s.at s.sheet → count ≡ min s.records 65534 → Ok e ≡ read_record s.variables rest s.at (count + 1) → kind ≡ e.kind → body ≡ held e.kind (body_of rest e) → (Ok (Some (record { kind = kind; body = body; byte = s.at; count = count + 1; variables = s.variables })) ≡ next_record s) × (record { sheet = s.sheet; at = s.at + e.to; records = count + 1; variables = s.variables } ≡ after_record s)
next_seen s e rest count kind body more from counted here same kept =
    let room = lt-leb (length s.sheet) s.at more in
    let found : record_here s ≡ Ok e = (λ i. read_record s.variables (sym from i) s.at (sym counted i + 1)) ∙ sym here in
    let whole = kept ∙ held_whole e.kind s.variables s.at (count + 1) _ (body_of rest e) (record_parts s.variables rest s.at (count + 1) e (sym here)).1 ∙ ap (λ bs. body_of bs e) from in (
      (λ i. Ok (Some (record { kind = same i; body = whole i; byte = s.at; count = counted i + 1; variables = s.variables })))
          ∙ sym (cond-false _ _ _ room ∙ ap (λ (r : Result Extent RecordFault). next (in_sheet r) (λ x. Ok (Some (as_seen s x)))) found),
      (λ i. record { sheet = s.sheet; at = s.at + e.to; records = counted i + 1; variables = s.variables })
          ∙ sym (cond-false _ _ _ room ∙ ap (past s) found),
    )
