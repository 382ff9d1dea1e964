-- From the numbers of a heading to the lines of its records. Assumes nothing.
use Rattle.std.proofs.Common.{◌≡◌, ℕ, Bool, true, false, cond, ltb, List, ◌++◌, length, Some, None, Ok, Err, Option, Result, sym, refl, ap, ◌∙◌, subst, append-nil, arith}
use Rattle.field.specs.Arithmetic.{Arithmetic}
use Rattle.book.specs.declared.refusal.Refusal.{Refusal}
use Rattle.book.specs.Judge.{judge_lay}
use Rattle.book.specs.Ledger.{Ledger}
use Rattle.book.specs.Effects.{laid}
use Rattle.sheet.specs.declared.fault.RecordFault.{RecordFault}
use Rattle.sheet.specs.declared.fault.SheetFault.{SheetFault}
use Rattle.sheet.specs.declared.fault.SheetFault.TheVariants.{WrongOpening, TooLong}
use Rattle.sheet.specs.Fault.{next}
use Rattle.sheet.specs.Reading.{State, opens, open_sheet, heading, heading_number, after_number, begun}
use Rattle.lines.specs.declared.fault.Fault.{Fault}
use Rattle.lines.specs.declared.fault.Fault.TheVariants.{Book}
use Rattle.lines.specs.Line.{Said, fault, text}
use Rattle.report.specs.declared.heading.FieldKind.{FieldKind}
use Rattle.report.specs.declared.stop.Stop.{Stop}
use Rattle.report.specs.declared.stop.Stop.TheVariants as stop
use Rattle.report.specs.Heading.{Headed, in_fault, kind_of, field_of, laid_with, refused_by_book, after_heading, with_field, with_kind, headed}
use Rattle.report.specs.Running.{items, left, lines, told, report_lines, texts, Ends, Closed}
use Rattle.report.proofs.Items.{items_any}

pub ends_same : (r : Result (Unit {0}) Stop) (was now : List ℕ) (ls ms : List Said) → ls ≡ ms → Ends r was now ls → Ends r was now ms
ends_same r was now ls ms e h = subst (Ends r was now) e h

pub closed_ends : (d : Stop) (was out now : List ℕ) (ls : List Said) → Ends (Err d) was out ls → Closed d out now → now ≡ was ++ texts ls
closed_ends (stop.Fault f) was out now ls h e = e ∙ h
closed_ends stop.NoMemory was out now ls h e = absurd e

-- a result that was placed: granted as it was, or refused at the place
pub placed_by_book : {A : Type 0} (r : Result A Refusal) (byte count : ℕ) (f : Fault) → refused_by_book r byte count ≡ Err f → (e : Refusal) × (r ≡ Err e) × (f ≡ Book e byte count)
placed_by_book (Ok x) byte count f h = cc
placed_by_book (Err e) byte count f h = (e, refl, cc)

pub granted_by_book : {A : Type 0} (r : Result A Refusal) (byte count : ℕ) (x : A) → refused_by_book r byte count ≡ Ok x → r ≡ Ok x
granted_by_book (Ok y) byte count x h = cc
granted_by_book (Err e) byte count x h = cc

-- the heading's numbers leave the sheet as it is
after_sheet : (s : State) → (after_heading s).sheet ≡ s.sheet
after_sheet s = go (heading s)
  where
    go : (r : Result (ℕ × ℕ) RecordFault) → (after_number s r).sheet ≡ s.sheet
    go (Ok p) = refl
    go (Err f) = refl

opened_sheet : (bytes : List ℕ) (s : State) → Ok s ≡ open_sheet bytes → s.sheet ≡ bytes
opened_sheet bytes s e = go (ltb 65535 (length bytes)) (opens bytes) (record { sheet = bytes; at = 3; records = 0; variables = 0 }) refl e
  where
    go : (a b : Bool) (start : State) → start.sheet ≡ bytes → Ok s ≡ cond a (Err TooLong) (cond b (Ok start) (Err WrongOpening)) → s.sheet ≡ bytes
    go true b start is h = let z : ◌≡◌ {A = ℕ} 0 1 = cc in absurd (omega arith)
    go false true start is h = let same : s ≡ start = cc in ap (λ (x : State). x.sheet) same ∙ is
    go false false start is h = let z : ◌≡◌ {A = ℕ} 0 1 = cc in absurd (omega arith)

-- the number of variables is read, and the book refuses it or is laid
module _ (s : State) (A : Arithmetic) (v byte : ℕ) (read : Ok (v, byte) ≡ heading_number s) where
  judged : (o : Option Refusal) → judge_lay v ≡ o → with_field s A ≡ next (laid_with o byte) (λ _. Ok (record { arithmetic = A; variables = v; state = begun v (after_heading s) }))
  judged o e =
      ap (λ (r : Result (ℕ × ℕ) SheetFault). next (in_fault r) (λ n. next (laid_with (judge_lay n.0) n.1) (λ _. Ok (record { arithmetic = A; variables = n.0; state = begun n.0 (after_heading s) })))) (sym read)
      ∙ ap (λ (p : Option Refusal). next (laid_with p byte) (λ _. Ok (record { arithmetic = A; variables = v; state = begun v (after_heading s) }))) e

  pub field_lines : judge_lay v ≡ None → (B : Arithmetic) (L : Ledger) (S : State) → B ≡ A → L ≡ laid v → S ≡ begun v (after_heading s) → lines B L (items (left S) S) ≡ told (with_field s A) (length s.sheet)
  field_lines none B L S b l is =
      let long = ap length (after_sheet s) in
      (λ i. lines (b i) (l i) (items (left (is i)) (is i)))
      ∙ ap (lines A (laid v)) (items_any (left (begun v (after_heading s))) (length s.sheet) (begun v (after_heading s)) (omega arith) (omega (arith, long)))
      ∙ ap (λ (h : Result Headed Fault). told h (length s.sheet)) (sym (judged None none))

  pub lay_refused : (r : Refusal) (was : List ℕ) (turns : ℕ) → judge_lay v ≡ Some r → was ++ text (fault (Book r byte 0)) ≡ was ++ texts (told (with_field s A) turns)
  lay_refused r was turns some =
      ap (λ bs. was ++ bs) (sym (append-nil (text (fault (Book r byte 0)))))
      ∙ ap (λ (h : Result Headed Fault). was ++ texts (told h turns)) (sym (judged (Some r) some))

-- the numbers before it name a field
pub kind_lines : (bytes : List ℕ) (s t u : State) (k kb m mb : ℕ) (kind : FieldKind) (A : Arithmetic) → Ok s ≡ open_sheet bytes → Ok (k, kb) ≡ heading_number s → t ≡ after_heading s → Ok kind ≡ kind_of k kb → Ok (m, mb) ≡ heading_number t → u ≡ after_heading t → Ok A ≡ field_of kind m mb → told (with_field u A) (length u.sheet) ≡ report_lines bytes
kind_lines bytes s t u k kb m mb kind A opened first after known second later field =
    let fits : u.sheet ≡ bytes = ap (λ (x : State). x.sheet) later ∙ after_sheet t ∙ ap (λ (x : State). x.sheet) after ∙ after_sheet s ∙ opened_sheet bytes s opened in
    let with_it : with_kind t kind ≡ with_field u A =
    ap (λ (r : Result (ℕ × ℕ) SheetFault). next (in_fault r) (λ n. next (field_of kind n.0 n.1) (with_field (after_heading t)))) (sym second)
    ∙ ap (λ (r : Result Arithmetic Fault). next r (with_field (after_heading t))) (sym field)
    ∙ ap (λ (x : State). with_field x A) (sym later) in
    let all : headed bytes ≡ with_field u A =
    ap (λ (r : Result State SheetFault). next (in_fault r) (λ x. next (in_fault (heading_number x)) (λ n. next (kind_of n.0 n.1) (with_kind (after_heading x))))) (sym opened)
    ∙ ap (λ (r : Result (ℕ × ℕ) SheetFault). next (in_fault r) (λ n. next (kind_of n.0 n.1) (with_kind (after_heading s)))) (sym first)
    ∙ ap (λ (r : Result FieldKind Fault). next r (with_kind (after_heading s))) (sym known)
    ∙ ap (λ (x : State). with_kind x kind) (sym after)
    ∙ with_it in
    (λ i. told (sym all i) (length (fits i)))
