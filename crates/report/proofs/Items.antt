-- A reader gives records to the end of its sheet: more turns than there are bytes give nothing more. Assumes nothing.
use Rattle.std.proofs.Common.{◌≡◌, ℕ, zero, suc, ◌≤◌, List, [], ◌∷◌, Some, None, Ok, Err, Option, Result, sym, refl, ap, ◌∙◌, arith}
use Rattle.sheet.specs.declared.fault.SheetFault.{SheetFault}
use Rattle.sheet.specs.Reading.{State, Seen, next_record, after_record}
use Rattle.sheet.proofs.Progress.{at_end, progress}
use Rattle.report.specs.Running.{Item, item, items, left}

pub items_any : (t u : ℕ) (s : State) → left s ≤ t → left s ≤ u → items t s ≡ items u s
items_any zero zero s h g = refl
items_any zero (suc u) s h g = sym (ap (λ (r : Result (Option Seen) SheetFault). item r (items u (after_record s))) (at_end s (omega arith)))
items_any (suc t) zero s h g = ap (λ (r : Result (Option Seen) SheetFault). item r (items t (after_record s))) (at_end s (omega arith))
items_any (suc t) (suc u) s h g = go (next_record s) refl (λ x e. items_any t u (after_record s) (omega (arith, progress s x e)) (omega (arith, progress s x e)))
  where
    go : (r : Result (Option Seen) SheetFault) → next_record s ≡ r → ((x : Seen) → next_record s ≡ Ok (Some x) → items t (after_record s) ≡ items u (after_record s)) → item r (items t (after_record s)) ≡ item r (items u (after_record s))
    go (Ok None) e later = refl
    go (Ok (Some x)) e later = ap (λ (xs : List Item). Ok x ∷ xs) (later x e)
    go (Err f) e later = refl

one_turn : (s : State) → items (left s) s ≡ item (next_record s) (items (left s) (after_record s))
one_turn s = items_any (left s) (suc (left s)) s (omega arith) (omega arith)

pub items_more : (s : State) (x : Seen) → next_record s ≡ Ok (Some x) → items (left s) s ≡ Ok x ∷ items (left (after_record s)) (after_record s)
items_more s x e =
    one_turn s
    ∙ ap (λ (r : Result (Option Seen) SheetFault). item r (items (left s) (after_record s))) e
    ∙ ap (λ (xs : List Item). Ok x ∷ xs) (items_any (left s) (left (after_record s)) (after_record s) (omega (arith, progress s x e)) (omega arith))

pub items_none : (s : State) → next_record s ≡ Ok None → items (left s) s ≡ []
items_none s e = one_turn s ∙ ap (λ (r : Result (Option Seen) SheetFault). item r (items (left s) (after_record s))) e

pub items_fault : (s : State) (f : SheetFault) → next_record s ≡ Err f → items (left s) s ≡ Err f ∷ []
items_fault s f e = one_turn s ∙ ap (λ (r : Result (Option Seen) SheetFault). item r (items (left s) (after_record s))) e
