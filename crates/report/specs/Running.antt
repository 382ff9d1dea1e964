-- The lines that a sheet is answered with: each record makes a call, whose answer is taken from the ledger of the calls before it. Assumes nothing.
use Rattle.std.specs.Prelude.{◌≡◌, ℕ, zero, suc, ◌-◌, List, [], ◌∷◌, ◌++◌, length, Some, None, Ok, Err, Option, Result, ◌==◌}
use Rattle.field.specs.Arithmetic.{Arithmetic}
use Rattle.algebra.specs.Border.{Row}
use Rattle.book.specs.declared.refusal.Refusal.{Refusal}
use Rattle.book.specs.declared.verdict.Verdict.{Verdict}
use Rattle.book.specs.declared.verdict.Verdict.TheVariants.{Consistent, Clashes}
use Rattle.book.specs.Ledger.{Ledger}
use Rattle.book.specs.Effects.{laid}
use Rattle.run.specs.declared.call.Answer.{Answer}
use Rattle.run.specs.declared.call.Answer.TheVariants.{Done, Border, Checked, Formed, Counted}
use Rattle.run.specs.Calls.{Step, lay, term, close, rule, strike, check, form as form_step, cofactor, table, answer, next, finish}
use Rattle.sheet.specs.declared.fault.SheetFault.{SheetFault}
use Rattle.sheet.specs.Reading.{State, Seen, next_record, after_record}
use Rattle.lines.specs.declared.fault.Fault.{Fault}
use Rattle.lines.specs.declared.fault.Fault.TheVariants.{Sheet, Book}
use Rattle.lines.specs.declared.line.Line.{Line}
use Rattle.lines.specs.Line.{Said, sound, clash, form, fault, said, text}
use Rattle.report.specs.declared.stop.Stop.{Stop}
use Rattle.report.specs.declared.stop.Stop.TheVariants as stop
use Rattle.report.specs.Calls.{step}
use Rattle.report.specs.Heading.{Headed, headed}

-- What the reader gives from where it stands: records, and after them the fault that ends them, if there is one.
abbrev pub Item : Type 0
Item = Result Seen SheetFault

abbrev pub item : Result (Option Seen) SheetFault → List Item → List Item
item (Ok None) later = []
item (Ok (Some x)) later = Ok x ∷ later
item (Err f) later = Err f ∷ []

-- each record takes a byte at least, so there are at most as many turns as bytes
abbrev pub items : ℕ → State → List Item
items zero s = []
items (suc turns) s = item (next_record s) (items turns (after_record s))

-- how many bytes are left
abbrev pub left : State → ℕ
left s = length s.sheet - s.at

-- the row that a question leaves
abbrev pub row_left : Step → Row
row_left (lay n) = []
row_left (term t) = []
row_left close = []
row_left (rule e k r) = []
row_left (strike e) = []
row_left (check row slots) = []
row_left (form_step p row) = []
row_left (cofactor p row slots) = row
row_left (table i rows) = []

abbrev pub verdict_line : Verdict → Said
verdict_line Consistent = sound
verdict_line (Clashes t a b n) = clash t a b

-- the lines of a granted call
abbrev pub printed : Row → Answer → List Said
printed row Done = []
printed row (Border n) = []
printed row (Checked v) = verdict_line v ∷ []
printed row (Formed y) = []
printed row (Counted n y) = form row (y == 1) n ∷ []

-- the line that the code makes of it, if any
abbrev pub said_all : Option Line → List Said
said_all None = []
said_all (Some l) = said l ∷ []

-- a refused call ends the run, and its line stands at the record's first byte
abbrev pub answered : Result Answer Refusal → Row → Seen → List Said → List Said
answered (Ok a) row x later = printed row a ++ later
answered (Err r) row x later = fault (Book r x.byte x.count) ∷ []

abbrev pub lines : Arithmetic → Ledger → List Item → List Said
lines A L [] = []
lines A L (Err f ∷ xs) = fault (Sheet f) ∷ []
lines A L (Ok x ∷ xs) = answered (answer A L (step L x)) (row_left (finish A L (step L x))) x (lines A (next A L (step L x)) xs)

abbrev pub told : Result Headed Fault → ℕ → List Said
told (Ok h) turns = lines h.arithmetic (laid h.variables) (items turns h.state)
told (Err f) turns = fault f ∷ []

-- all lines of a sheet
abbrev pub report_lines : List ℕ → List Said
report_lines bytes = told (headed bytes) (length bytes)

abbrev pub texts : List Said → List ℕ
texts [] = []
texts (l ∷ ls) = text l ++ texts ls

-- what a run has pushed after `was`: all its lines, or all but the line of the fault that stopped it
abbrev pub Ends : Result (Unit {0}) Stop → List ℕ → List ℕ → List Said → Type 0
Ends (Ok u) was now ls = now ≡ was ++ texts ls
Ends (Err (stop.Fault f)) was now ls = now ++ text (fault f) ≡ was ++ texts ls
Ends (Err stop.NoMemory) was now ls = Unit {0}

-- the line of the fault comes last
abbrev pub Closed : Stop → List ℕ → List ℕ → Type 0
Closed (stop.Fault f) was now = now ≡ was ++ text (fault f)
Closed stop.NoMemory was now = ⊥

-- one record: it leaves the ledger that its call leaves, and the lines of the records after it follow its own
pub record WentOn (A : Arithmetic) (L M : Ledger) (x : Seen) (was now : List ℕ) : Type 0 where
  pub after : M ≡ next A L (step L x)
  pub pushed : (later : List Said) → now ++ texts later ≡ was ++ texts (answered (answer A L (step L x)) (row_left (finish A L (step L x))) x later)

abbrev pub RecordEnds : Arithmetic → Ledger → Ledger → Seen → Result (Unit {0}) Stop → List ℕ → List ℕ → Type 0
RecordEnds A L M x (Ok u) was now = WentOn A L M x was now
RecordEnds A L M x (Err (stop.Fault f)) was now = (later : List Said) → now ++ text (fault f) ≡ was ++ texts (answered (answer A L (step L x)) (row_left (finish A L (step L x))) x later)
RecordEnds A L M x (Err stop.NoMemory) was now = Unit {0}
