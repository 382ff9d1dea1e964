-- One record of a sheet: the row it leaves, and the lines it adds. Assumes nothing.
use Rattle.std.proofs.Common.{◌≡◌, ℕ, ◌+◌, ◌≤◌, min, true, List, [], ◌∷◌, ◌++◌, length, get_or, drop, replicate, Some, None, Ok, Err, Option, Result, sym, refl, ap, ◌∙◌, append_assoc, append-nil, arith}
use lib.ListN.{length-replicate}
use Rattle.field.specs.Arithmetic.{Arithmetic, CommutativeRing, ring}
use Rattle.algebra.specs.Border.{Row}
use Rattle.algebra.specs.Polynomial.{Polynomial}
use Rattle.algebra.specs.declared.Entry.{Entry}
use Rattle.algebra.proofs.Basis.{normal_form_row}
use Rattle.book.specs.declared.contents.Contents.{Contents}
use Rattle.book.specs.declared.refusal.Refusal.{Refusal}
use Rattle.book.specs.Judge.{on_grant}
use Rattle.book.specs.Ledger.{Ledger, system}
use Rattle.book.specs.Kept.{ledger, terms_of, kept}
use Rattle.book.proofs.Ready.{ready_contents}
use Rattle.book.proofs.Answering.{cofactors_call}
use Rattle.run.specs.declared.call.Answer.{Answer}
use Rattle.run.specs.Calls.{Step, term, close, rule, strike, check, cofactor, judge, finished, answer, next, finish}
use Rattle.sheet.specs.declared.kind.Kind.{Kind}
use Rattle.sheet.specs.declared.kind.Kind.TheVariants.{Term, Close, Rule, Check, Question, Strike}
use Rattle.sheet.specs.Numbers.{numbers_of, exponents_of}
use Rattle.sheet.specs.Reading.{Seen}
use Rattle.lines.specs.declared.fault.Fault.TheVariants.{Book}
use Rattle.lines.specs.Line.{Said, fault, text}
use Rattle.report.specs.Calls.{call, step, pairs_from, slots}
use Rattle.report.specs.Running.{row_left, printed, answered, texts, WentOn}

pub texts_append : (ls ms : List Said) → texts (ls ++ ms) ≡ texts ls ++ texts ms
texts_append [] ms = refl
texts_append (l ∷ ls) ms = ap (λ bs. text l ++ bs) (texts_append ls ms) ∙ sym (append_assoc (text l) (texts ls) (texts ms))

no_row : (o : Option Refusal) (s t : Step) → row_left s ≡ [] → row_left t ≡ [] → row_left (on_grant o s t) ≡ []
no_row None s t e d = e
no_row (Some r) s t e d = d

-- a row has a code for each term, before and after
module _ (A : Arithmetic) (laws : CommutativeRing (ring A)) (k : Contents) (h : kept k ≡ true) where
  question_row : (p : Polynomial) (row : Row) (slots : List Entry) → length row ≡ length (terms_of k) → length (row_left (finish A (ledger k) (cofactor p row slots))) ≡ length (terms_of k)
  question_row p row slots long = go (judge A (ledger k) (cofactor p row slots)) refl
    where
      go : (o : Option Refusal) → judge A (ledger k) (cofactor p row slots) ≡ o → length (row_left (on_grant o (finished A (ledger k) (cofactor p row slots)) (cofactor p row slots))) ≡ length (terms_of k)
      go None e =
          let a = cofactors_call k h A.order p row slots e in
          (normal_form_row laws (system (ledger k)) (ready_contents k h a.is_ready).good p a.over).0
      go (Some r) e = long

  short : (s : Step) → row_left s ≡ [] → row_left (finished A (ledger k) s) ≡ [] → length (row_left (finish A (ledger k) s)) ≤ length (terms_of k)
  short s e d = omega (arith, ap length (no_row (judge A (ledger k) s) (finished A (ledger k) s) s d e))

  pub row_short : (x : Seen) → length (row_left (finish A (ledger k) (step (ledger k) x))) ≤ length (terms_of k)
  row_short x = go x.kind (min x.variables 8) (numbers_of x.body)
    where
      go : (kind : Kind) (n : ℕ) (xs : List ℕ) → length (row_left (finish A (ledger k) (call n (length (terms_of k)) kind xs))) ≤ length (terms_of k)
      go Term n xs = short (term (exponents_of n xs)) refl refl
      go Close n xs = short close refl refl
      go Rule n xs = short (rule (exponents_of n xs) (get_or xs n 0) (drop (n + 1) xs)) refl refl
      go Check n xs = short (check (replicate (length (terms_of k)) 0) slots) refl refl
      go Question n xs =
          let row : Row = replicate (length (terms_of k)) 0 in
          omega (arith, question_row (pairs_from n (get_or xs 0 0) (drop 1 xs)) row slots (length-replicate (length (terms_of k)) 0))
      go Strike n xs = short (strike (exponents_of n xs)) refl refl

module _ (A : Arithmetic) (L : Ledger) (x : Seen) (s : Step) (is : s ≡ step L x) where
  same_lines : (r : Result Answer Refusal) (t : Step) → r ≡ answer A L s → t ≡ finish A L s → (later : List Said) → answered r (row_left t) x later ≡ answered (answer A L (step L x)) (row_left (finish A L (step L x))) x later
  same_lines r t said left later = λ i. answered ((said ∙ ap (answer A L) is) i) (row_left ((left ∙ ap (finish A L) is) i)) x later

  pub went_on : (M : Ledger) (t : Step) (a : Answer) (was now : List ℕ) → Ok a ≡ answer A L s → M ≡ next A L s → t ≡ finish A L s → now ≡ was ++ texts (printed (row_left t) a) → WentOn A L M x was now
  went_on M t a was now said then left pushed = record {
    after = then ∙ ap (next A L) is;
    pushed = λ later.
        ap (λ bs. bs ++ texts later) pushed
        ∙ append_assoc was (texts (printed (row_left t) a)) (texts later)
        ∙ ap (λ bs. was ++ bs) (sym (texts_append (printed (row_left t) a) later))
        ∙ ap (λ (ls : List Said). was ++ texts ls) (same_lines (Ok a) t said left later);
  }

  pub refused_there : (t : Step) (r : Refusal) (was : List ℕ) → Err r ≡ answer A L s → t ≡ finish A L s → (later : List Said) → was ++ text (fault (Book r x.byte x.count)) ≡ was ++ texts (answered (answer A L (step L x)) (row_left (finish A L (step L x))) x later)
  refused_there t r was said left later =
      ap (λ bs. was ++ bs) (sym (append-nil (text (fault (Book r x.byte x.count)))))
      ∙ ap (λ (ls : List Said). was ++ texts ls) (same_lines (Err r) t said left later)
