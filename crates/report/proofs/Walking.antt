-- The records of a sheet run one after another. Assumes nothing.
use Rattle.std.proofs.Common.{◌≡◌, ℕ, List, ◌++◌, Some, None, Ok, Err, sym, ap, ◌∙◌, append-nil}
use Rattle.field.specs.Arithmetic.{Arithmetic}
use Rattle.book.specs.Ledger.{Ledger}
use Rattle.run.specs.Calls.{answer, next, finish}
use Rattle.sheet.specs.declared.fault.SheetFault.{SheetFault}
use Rattle.sheet.specs.Reading.{State, Seen, next_record, after_record}
use Rattle.lines.specs.declared.fault.Fault.TheVariants.{Sheet}
use Rattle.lines.specs.Line.{Said, fault, text}
use Rattle.report.specs.declared.stop.Stop.{Stop}
use Rattle.report.specs.declared.stop.Stop.TheVariants as stop
use Rattle.report.specs.Calls.{step}
use Rattle.report.specs.Running.{Item, items, left, row_left, answered, lines, texts, Ends, WentOn, RecordEnds}
use Rattle.report.proofs.Items.{items_more, items_none, items_fault}

-- what is left to print gives all the lines
module _ (A B : Arithmetic) (L : Ledger) (s : State) (all out : List ℕ) (field : B ≡ A) (inv : out ++ texts (lines A L (items (left s) s)) ≡ all) where
  -- one record more
  pub goes_on : (x : Seen) (M : Ledger) (t : State) (now : List ℕ) → next_record s ≡ Ok (Some x) → t ≡ after_record s → WentOn B L M x out now → now ++ texts (lines A M (items (left t) t)) ≡ all
  goes_on x M t now e after w =
      (λ i. now ++ texts (lines A (w.after i) (items (left (after i)) (after i))))
      ∙ ap (λ (C : Arithmetic). now ++ texts (lines A (next C L (step L x)) (items (left (after_record s)) (after_record s)))) field
      ∙ w.pushed (lines A (next A L (step L x)) (items (left (after_record s)) (after_record s)))
      ∙ ap (λ (C : Arithmetic). out ++ texts (answered (answer C L (step L x)) (row_left (finish C L (step L x))) x (lines A (next A L (step L x)) (items (left (after_record s)) (after_record s))))) field
      ∙ ap (λ (xs : List Item). out ++ texts (lines A L xs)) (sym (items_more s x e))
      ∙ inv

  -- the end of the sheet
  pub ends : next_record s ≡ Ok None → out ≡ all
  ends e = sym (append-nil out) ∙ ap (λ (xs : List Item). out ++ texts (lines A L xs)) (sym (items_none s e)) ∙ inv

  -- a fault of the format
  pub ends_at_fault : (f : SheetFault) → next_record s ≡ Err f → out ++ text (fault (Sheet f)) ≡ all
  ends_at_fault f e = ap (λ bs. out ++ bs) (sym (append-nil (text (fault (Sheet f))))) ∙ ap (λ (xs : List Item). out ++ texts (lines A L xs)) (sym (items_fault s f e)) ∙ inv

  -- a record at which the run stops
  pub ends_at_record : (x : Seen) (M : Ledger) (d : Stop) (was now : List ℕ) (ls : List Said) → next_record s ≡ Ok (Some x) → all ≡ was ++ texts ls → RecordEnds B L M x (Err d) out now → Ends (Err d) was now ls
  ends_at_record x M (stop.Fault f) was now ls e is h =
      h (lines A (next A L (step L x)) (items (left (after_record s)) (after_record s)))
      ∙ ap (λ (C : Arithmetic). out ++ texts (answered (answer C L (step L x)) (row_left (finish C L (step L x))) x (lines A (next A L (step L x)) (items (left (after_record s)) (after_record s))))) field
      ∙ ap (λ (xs : List Item). out ++ texts (lines A L xs)) (sym (items_more s x e))
      ∙ inv
      ∙ is
  ends_at_record x M stop.NoMemory was now ls e is h = tt
