-- What the lines of a sheet say in terms of the ideal U of the rules read so far. Assumes nothing.
use Rattle.std.specs.Prelude.{◌≡◌, ℕ, ◌-◌, Bool, ◌⊎◌, List, [], ◌∷◌, ◌++◌, length, Some, None, Ok, Err, Result, slice_index_or}
use Rattle.field.specs.Arithmetic.{Arithmetic, Lawful, ring}
use Rattle.algebra.specs.Polynomial.{Polynomial}
use Rattle.algebra.specs.Walk.{normal_form}
use Rattle.algebra.specs.Clash.{commutator}
use Rattle.algebra.specs.Theorems.{Independent}
use Rattle.algebra.specs.declared.Entry.{Entry}
use Rattle.book.specs.declared.refusal.Refusal.{Refusal}
use Rattle.book.specs.Ledger.{Ledger, system}
use Rattle.book.specs.Effects.{laid}
use Rattle.book.specs.Promise.{Accounted, Accounts}
use Rattle.run.specs.Calls.{Step, lay, term, close, rule, strike, check, form as form_step, cofactor, table, judge, next}
use Rattle.run.specs.Runs.{FormTells}
use Rattle.sheet.specs.Reading.{Seen}
use Rattle.lines.specs.declared.fault.Fault.{Fault}
use Rattle.lines.specs.declared.fault.Fault.TheVariants.{Sheet, Book}
use Rattle.lines.specs.Line.{Said, sound, clash, form, fault}
use Rattle.report.specs.Calls.{step}
use Rattle.report.specs.Heading.{Headed, headed}
use Rattle.report.specs.Running.{Item, items, texts}

-- a printed clash has its witness: the row MaMb(t) − MbMa(t) is a combination of S other than zero that lies in U, and entries add up to it
pub record ClashSays (A : Arithmetic) (L : Ledger) (t a b : ℕ) : Type 0 where
  pub entries : List Entry
  pub witness : Accounted (ring A) (system L) (commutator (ring A) (system L) (a - 1) (b - 1) (slice_index_or L.terms (t - 1) [])) entries

-- a check prints one line; it says sound exactly when no combination of S but zero lies in U, and otherwise it names a clash
pub record CheckSays (A : Arithmetic) (L : Ledger) (ls : List Said) : Type 0 where
  pub sound_exactly : (ls ≡ sound ∷ [] → Independent (ring A) (system L)) × (Independent (ring A) (system L) → ls ≡ sound ∷ [])
  pub otherwise : (ls ≡ sound ∷ []) ⊎ ((t : ℕ) × (a : ℕ) × (b : ℕ) × (ls ≡ clash t a b ∷ []) × ClashSays A L t a b)

-- a question prints the normal form; it says member exactly when the polynomial lies in U, equal forms mean exactly that the difference lies in U, and so many entries account for the rest
pub record QuestionSays (A : Arithmetic) (L : Ledger) (p : Polynomial) (ls : List Said) : Type 0 where
  pub member : Bool
  pub entries : List Entry
  pub line : ls ≡ form (normal_form (ring A) (system L) p) member (length entries) ∷ []
  pub tells : FormTells A L p (normal_form (ring A) (system L) p) member
  pub accounts : Accounts (ring A) (system L) p (normal_form (ring A) (system L) p) entries

-- a granted call: the others print nothing
abbrev pub Says : Arithmetic → Ledger → Step → List Said → Type 0
Says A L (lay n) ls = ls ≡ []
Says A L (term t) ls = ls ≡ []
Says A L close ls = ls ≡ []
Says A L (rule e k r) ls = ls ≡ []
Says A L (strike e) ls = ls ≡ []
Says A L (check row slots) ls = CheckSays A L ls
Says A L (form_step p row) ls = ls ≡ []
Says A L (cofactor p row slots) ls = QuestionSays A L p ls
Says A L (table i rows) ls = ls ≡ []

-- a refused call: its refusal is the last line, at the first byte of its record
pub record RefusedAt (A : Arithmetic) (L : Ledger) (x : Seen) (ls : List Said) : Type 0 where
  pub refusal : Refusal
  pub cause : judge A L (step L x) ≡ Some refusal
  pub line : ls ≡ fault (Book refusal x.byte x.count) ∷ []

pub record GrantedAt (A : Arithmetic) (L : Ledger) (x : Seen) (ls : List Said) (Later : List Said → Type 0) : Type 0 where
  pub granted : judge A L (step L x) ≡ None
  pub own : List Said
  pub rest : List Said
  pub both : ls ≡ own ++ rest
  pub says : Says A L (step L x) own
  pub later : Later rest

-- the lines of records, one record after another; L is the ledger of the records before
abbrev pub Tells : Arithmetic → Ledger → List Item → List Said → Type 0
Tells A L [] ls = ls ≡ []
Tells A L (Err f ∷ xs) ls = ls ≡ fault (Sheet f) ∷ []
Tells A L (Ok x ∷ xs) ls = RefusedAt A L x ls ⊎ GrantedAt A L x ls (Tells A (next A L (step L x)) xs)

-- under a heading that names a lawful field the records are told; a heading with a fault is answered by that fault alone
abbrev pub HeadingTells : Result Headed Fault → ℕ → List Said → Type 0
HeadingTells (Ok h) turns ls = Lawful h.arithmetic × Tells h.arithmetic (laid h.variables) (items turns h.state) ls
HeadingTells (Err f) turns ls = ls ≡ fault f ∷ []

-- the text of a report is that of lines that tell of the sheet
pub record Reported (bytes out : List ℕ) : Type 0 where
  pub lines : List Said
  pub text : out ≡ texts lines
  pub tells : HeadingTells (headed bytes) (length bytes) lines
