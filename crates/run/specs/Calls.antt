-- Calls as data, and what the ledger of the calls before gives for each. Assumes nothing.
use Rattle.std.specs.Prelude.{ℕ, ◌-◌, List, length, Some, None, Ok, Err, vec_items, Option, Result}
use Rattle.field.specs.Arithmetic.{Arithmetic, ring}
use Rattle.algebra.specs.Term.{Term}
use Rattle.algebra.specs.Polynomial.{Polynomial}
use Rattle.algebra.specs.Border.{Row}
use Rattle.algebra.specs.Walk.{normal_form, cofactors, all_zero}
use Rattle.algebra.specs.Clash.{first_clash}
use Rattle.algebra.specs.declared.Entry.{Entry}
use Rattle.book.specs.declared.refusal.Refusal.{Refusal}
use Rattle.book.specs.Judge.{judge_lay, judge_term, judge_close, judge_rule, judge_strike, judge_check, judge_form, judge_cofactors, judge_table, granted, on_grant}
use Rattle.book.specs.Ledger.{Ledger, edge, system}
use Rattle.book.specs.Effects.{laid, with_term, closed, with_row, kept_row, checked, verdict, clash_row, clash_entries, written, yes_no, table_rows}
use Rattle.run.specs.declared.call.Call.{Call}
use Rattle.run.specs.declared.call.Call.TheVariants.{Lay, Term as AddTerm, Close, Rule, Strike, Check, Form, Cofactors, Table}
use Rattle.run.specs.declared.call.Answer.{Answer}
use Rattle.run.specs.declared.call.Answer.TheVariants.{Done, Border, Checked, Formed, Counted}

-- a call with its slices as they stand
pub data Step : Type 0 where
  lay : ℕ → Step
  term : Term → Step
  close : Step
  rule : Term → ℕ → Row → Step
  strike : Term → Step
  check : Row → List Entry → Step
  form : Polynomial → Row → Step
  cofactor : Polynomial → Row → List Entry → Step
  table : ℕ → Row → Step

abbrev pub step_of : Call → Step
step_of (Lay n) = lay n
step_of (AddTerm t) = term t
step_of Close = close
step_of (Rule g) = rule g.term g.lead (vec_items g.row)
step_of (Strike e) = strike e
step_of (Check row slots) = check (vec_items row) (vec_items slots)
step_of (Form p row) = form (vec_items p) (vec_items row)
step_of (Cofactors p row slots) = cofactor (vec_items p) (vec_items row) (vec_items slots)
step_of (Table i rows) = table i (vec_items rows)

-- why the ledger refuses a call
abbrev pub judge : Arithmetic → Ledger → Step → Option Refusal
judge A L (lay n) = judge_lay n
judge A L (term t) = judge_term L t
judge A L close = judge_close L
judge A L (rule e k r) = judge_rule A.order L e k r
judge A L (strike e) = judge_strike L e
judge A L (check row slots) = judge_check L row slots
judge A L (form p row) = judge_form A.order L p row
judge A L (cofactor p row slots) = judge_cofactors A.order L p row slots
judge A L (table i rows) = judge_table L i rows

-- what a granted call answers
abbrev pub value : Arithmetic → Ledger → Step → Answer
value A L (lay n) = Done
value A L (term t) = Done
value A L close = Border (length (edge L))
value A L (rule e k r) = Done
value A L (strike e) = Done
value A L (check row slots) = Checked (verdict (ring A) (system L) (first_clash (ring A) (system L)))
value A L (form p row) = Formed (all_zero (normal_form (ring A) (system L) p))
value A L (cofactor p row slots) = Counted (length (cofactors (ring A) (system L) p)) (yes_no (all_zero (normal_form (ring A) (system L) p)))
value A L (table i rows) = Done

-- the ledger that a granted call leaves
abbrev pub changed : Arithmetic → Ledger → Step → Ledger
changed A L (lay n) = laid n
changed A L (term t) = with_term L t
changed A L close = closed L
changed A L (rule e k r) = with_row L e (Some (kept_row A k r))
changed A L (strike e) = with_row L e None
changed A L (check row slots) = checked (ring A) L
changed A L (form p row) = L
changed A L (cofactor p row slots) = L
changed A L (table i rows) = L

-- the call with its slices as a granted call leaves them
abbrev pub finished : Arithmetic → Ledger → Step → Step
finished A L (lay n) = lay n
finished A L (term t) = term t
finished A L close = close
finished A L (rule e k r) = rule e k r
finished A L (strike e) = strike e
finished A L (check row slots) = check (clash_row (ring A) (system L) (first_clash (ring A) (system L))) (written (clash_entries (ring A) (system L) (first_clash (ring A) (system L))) slots)
finished A L (form p row) = form p (normal_form (ring A) (system L) p)
finished A L (cofactor p row slots) = cofactor p (normal_form (ring A) (system L) p) (written (cofactors (ring A) (system L) p) slots)
finished A L (table i rows) = table i (table_rows (ring A) (system L) (i - 1) L.terms)

abbrev pub answer : Arithmetic → Ledger → Step → Result Answer Refusal
answer A L s = granted (judge A L s) (value A L s)

abbrev pub next : Arithmetic → Ledger → Step → Ledger
next A L s = on_grant (judge A L s) (changed A L s) L

abbrev pub finish : Arithmetic → Ledger → Step → Step
finish A L s = on_grant (judge A L s) (finished A L s) s

-- an answer under another name; a refusal stays
abbrev pub renamed : {V : Type 0} → (V → Answer) → Result V Refusal → Result Answer Refusal
renamed f (Ok v) = Ok (f v)
renamed f (Err r) = Err r
