-- When a call is refused: the causes in their order, the first that applies. Assumes nothing.
use Rattle.std.specs.Prelude.{ℕ, zero, suc, ◌+◌, ◌*◌, Bool, true, false, not, ◌&&◌, List, [], ◌∷◌, length, is_some, Some, None, Ok, Err, Option, Result, ◌==◌, nat_le, nat_lt}
use Rattle.algebra.specs.Term.{Term, one, same, has, place, degree, zero_past, in_variables}
use Rattle.algebra.specs.Polynomial.{Polynomial}
use Rattle.algebra.specs.Border.{Row, multiples, at_place}
use Rattle.algebra.specs.declared.Entry.{Entry}
use Rattle.term.specs.Search.{first_place}
use Rattle.book.specs.declared.phase.Event.{Event}
use Rattle.book.specs.declared.phase.Event.TheVariants.{AddTerm, Close, GiveRule, Strike, Check, Form, Cofactors, Table}
use Rattle.book.specs.declared.refusal.Refusal.{Refusal}
use Rattle.book.specs.declared.refusal.Refusal.TheVariants.{VariablesOutOfRange, WrongPhase, ExponentPastVariables, TermPresent, TermNotJoined, TooManyTerms, NoTerms, NotOnBorder, WrongLength, CodeOutOfRange, ZeroLeadingCode, RuleMissing, TooManyPairs, DegreeTooHigh, EntriesTooShort, NoSuchVariable}
use Rattle.book.specs.Phases.{allowed}
use Rattle.book.specs.Ledger.{Ledger, edge}

-- a cause, and those after it
abbrev pub refuse : Bool → Refusal → Option Refusal → Option Refusal
refuse true r later = Some r
refuse false r later = later

-- a cause that is found at a place, counted from 1
abbrev pub refuse_at : ℕ → (ℕ → Refusal) → Option Refusal → Option Refusal
refuse_at zero r later = later
refuse_at (suc k) r later = Some (r (suc k))

abbrev pub refuse_phase : Ledger → Event → Option Refusal → Option Refusal
refuse_phase L e later = refuse (not (allowed L.phase e)) WrongPhase later

-- the first pair that fails
abbrev pub past_variables : ℕ → ℕ × Term → Bool
past_variables n x = not (in_variables n x.1)

abbrev pub unfit : ℕ → ℕ → Bool
unfit q c = not (nat_lt c q)

abbrev pub unfit_pair : ℕ → ℕ × Term → Bool
unfit_pair q x = unfit q x.0

abbrev pub too_high : ℕ × Term → Bool
too_high x = nat_lt 24 (degree x.1)

abbrev pub missing : Option Row → Bool
missing o = not (is_some o)

abbrev pub degrees : Polynomial → ℕ
degrees [] = 0
degrees (x ∷ p) = degree x.1 + degrees p

-- 1 alone begins a set; each later term is a variable times a term that is there
abbrev pub joins : ℕ → List Term → Term → Bool
joins n [] t = same t one
joins n (s ∷ S) t = has t (multiples n (s ∷ S))

abbrev pub judge_lay : ℕ → Option Refusal
judge_lay n = refuse (not (nat_le 1 n && nat_le n 8)) VariablesOutOfRange None

abbrev pub judge_new : ℕ → List Term → Term → Option Refusal
judge_new n S t =
    refuse (not (zero_past n t)) (ExponentPastVariables 1)
    (refuse (has t S) TermPresent (refuse (not (joins n S t)) TermNotJoined (refuse (length S == 32) TooManyTerms None)))

abbrev pub judge_term : Ledger → Term → Option Refusal
judge_term L t = refuse_phase L AddTerm (judge_new L.variables L.terms t)

abbrev pub judge_close : Ledger → Option Refusal
judge_close L = refuse_phase L Close (refuse (length L.terms == 0) NoTerms None)

-- a term on the border E, and the causes after that
abbrev pub judge_on : ℕ → List Term → Term → Option Refusal → Option Refusal
judge_on n E e later = refuse (not (zero_past n e)) (ExponentPastVariables 1) (refuse (place e E == 0) NotOnBorder later)

abbrev pub judge_border : Ledger → Term → Option Refusal → Option Refusal
judge_border L e later = judge_on L.variables (edge L) e later

abbrev pub judge_rule : ℕ → Ledger → Term → ℕ → Row → Option Refusal
judge_rule q L e k r =
    refuse_phase L GiveRule
    (judge_border L e
    (refuse (not (length r == length L.terms)) WrongLength
    (refuse_at (first_place (unfit q) (k ∷ r)) CodeOutOfRange (refuse (k == 0) ZeroLeadingCode None))))

abbrev pub judge_strike : Ledger → Term → Option Refusal
judge_strike L e =
    refuse_phase L Strike
    (judge_border L e (refuse (missing (at_place (place e (edge L)) L.rows None)) (RuleMissing (place e (edge L))) None))

abbrev pub judge_check : Ledger → Row → List Entry → Option Refusal
judge_check L row slots =
    refuse_phase L Check
    (refuse (not (length row == length L.terms)) WrongLength
    (refuse_at (first_place missing L.rows) RuleMissing (refuse (nat_lt (length slots) (2 * length L.terms + 2)) EntriesTooShort None)))

-- the causes of form and cofactors but the phase and the slots; the row has `size` codes
abbrev pub judge_pairs : ℕ → Ledger → Polynomial → ℕ → Option Refusal → Option Refusal
judge_pairs q L p size later =
    refuse_at (first_place (past_variables L.variables) p) ExponentPastVariables
    (refuse (not (size == length L.terms)) WrongLength
    (refuse_at (first_place (unfit_pair q) p) CodeOutOfRange
    (refuse (nat_lt 64 (length p)) TooManyPairs (refuse_at (first_place too_high p) DegreeTooHigh later))))

abbrev pub judge_form : ℕ → Ledger → Polynomial → Row → Option Refusal
judge_form q L p row = refuse_phase L Form (judge_pairs q L p (length row) None)

abbrev pub judge_cofactors : ℕ → Ledger → Polynomial → Row → List Entry → Option Refusal
judge_cofactors q L p row slots =
    refuse_phase L Cofactors (judge_pairs q L p (length row) (refuse (nat_lt (length slots) (length L.terms * degrees p)) EntriesTooShort None))

abbrev pub judge_table : Ledger → ℕ → Row → Option Refusal
judge_table L i t =
    refuse_phase L Table
    (refuse (not (length t == length L.terms * length L.terms)) WrongLength (refuse (not (nat_le 1 i && nat_le i L.variables)) NoSuchVariable None))

-- the answer of a call: its value where nothing refuses it
abbrev pub granted : {V : Type 0} → Option Refusal → V → Result V Refusal
granted None v = Ok v
granted (Some r) v = Err r

-- what is left: the new where the call is granted, the old where it is refused
abbrev pub on_grant : {X : Type 0} → Option Refusal → X → X → X
on_grant None new old = new
on_grant (Some r) new old = old
