-- What a granted call answers, and what it leaves in the book and in the slices. Assumes nothing.
use Rattle.std.specs.Prelude.{ℕ, ◌+◌, ◌-◌, Bool, true, false, List, [], ◌∷◌, ◌++◌, map, length, drop, Some, None, Option, slice_index_or, slice_set}
use Rattle.std.specs.Option.{unwrap_or}
use Rattle.field.specs.Arithmetic.{Arithmetic, Ring}
use Rattle.algebra.specs.Term.{Term, place}
use Rattle.algebra.specs.Border.{Row, System}
use Rattle.algebra.specs.Walk.{zeros, unit, mapped}
use Rattle.algebra.specs.declared.Clash.{Clash}
use Rattle.algebra.specs.Clash.{commutator, commutator_entries, first_clash}
use Rattle.algebra.specs.declared.Entry.{Entry}
use Rattle.book.specs.declared.phase.Phase.{Phase}
use Rattle.book.specs.declared.phase.Phase.TheVariants.{Open, Closed, Sound, Clash as Clashing}
use Rattle.book.specs.declared.verdict.Verdict.{Verdict}
use Rattle.book.specs.declared.verdict.Verdict.TheVariants.{Consistent, Clashes}
use Rattle.book.specs.Ledger.{Ledger, edge, system}

-- yes is 1 and no is 0
abbrev pub yes_no : Bool → ℕ
yes_no true = 1
yes_no false = 0

-- entries written from the first slot on; the slots after them keep their contents
abbrev pub written : List Entry → List Entry → List Entry
written es slots = es ++ drop (length es) slots

abbrev pub laid : ℕ → Ledger
laid n = record { variables = n; terms = []; phase = Open; rows = [] }

abbrev pub with_term : Ledger → Term → Ledger
with_term L t = record { variables = L.variables; terms = L.terms ++ t ∷ []; phase = L.phase; rows = L.rows }

abbrev pub closed : Ledger → Ledger
closed L = record { variables = L.variables; terms = L.terms; phase = Closed; rows = map (λ (_ : Term). None) (edge L) }

-- a row times the inverse of the leading code
abbrev pub kept_row : Arithmetic → ℕ → Row → Row
kept_row A k r = map (λ (c : ℕ). A.product c (unwrap_or (A.inverse k) 0)) r

-- the ledger with another row, or none, for a border term; it is closed then
abbrev pub with_row : Ledger → Term → Option Row → Ledger
with_row L e o = record { variables = L.variables; terms = L.terms; phase = Closed; rows = slice_set L.rows (place e (edge L) - 1) o }

abbrev pub phase_of : Option Clash → Phase
phase_of None = Sound
phase_of (Some x) = Clashing

abbrev pub checked : Ring → Ledger → Ledger
checked R L = record { variables = L.variables; terms = L.terms; phase = phase_of (first_clash R (system L)); rows = L.rows }

-- the term of S at a clash
abbrev pub clash_term : System → Clash → Term
clash_term B x = slice_index_or B.terms x.term []

abbrev pub clash_row : Ring → System → Option Clash → Row
clash_row R B None = zeros B.terms
clash_row R B (Some x) = commutator R B x.a x.b (clash_term B x)

abbrev pub clash_entries : Ring → System → Option Clash → List Entry
clash_entries R B None = []
clash_entries R B (Some x) = commutator_entries R B x.a x.b (clash_term B x)

-- places and variables count from 1 in an answer
abbrev pub verdict : Ring → System → Option Clash → Verdict
verdict R B None = Consistent
verdict R B (Some x) = Clashes (x.term + 1) (x.a + 1) (x.b + 1) (length (clash_entries R B (Some x)))

-- the rows of variable i times each term, one after the other
abbrev pub table_rows : Ring → System → ℕ → List Term → Row
table_rows R B i [] = []
table_rows R B i (t ∷ ts) = mapped R B i (unit B.terms t) ++ table_rows R B i ts
