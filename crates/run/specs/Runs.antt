-- The law over runs: what every list of calls on a new book answers and leaves, refused calls included. Assumes nothing.
use Rattle.std.specs.Prelude.{◌≡◌, ◌*◌, Bool, true, false, List, [], ◌∷◌, length, take, is_ok, None, Ok, Err, Result, nat_lt}
use Rattle.field.specs.Arithmetic.{Arithmetic, ring}
use Rattle.algebra.specs.Polynomial.{Polynomial, Over, difference}
use Rattle.algebra.specs.Border.{Row}
use Rattle.algebra.specs.Ideal.{InIdeal}
use Rattle.algebra.specs.Walk.{normal_form}
use Rattle.algebra.specs.Theorems.{Independent}
use Rattle.book.specs.declared.refusal.Refusal.{Refusal}
use Rattle.book.specs.declared.refusal.Refusal.TheVariants.{EntriesTooShort}
use Rattle.book.specs.declared.verdict.Verdict.{Verdict}
use Rattle.book.specs.declared.verdict.Verdict.TheVariants.{Consistent, Clashes}
use Rattle.book.specs.Judge.{judge_pairs, refuse, degrees}
use Rattle.book.specs.Ledger.{Ledger, system}
use Rattle.book.specs.Promise.{VerdictMeans, Accounts}
use Rattle.run.specs.declared.call.Answer.{Answer}
use Rattle.run.specs.declared.call.Answer.TheVariants.{Done, Border, Checked, Formed, Counted}
use Rattle.run.specs.Calls.{Step, lay, term, close, rule, strike, check, form, cofactor, table, answer, next, finish}

-- a call that was run, and what it answered
abbrev pub Ran : Type 0
Ran = Step × Result Answer Refusal

-- whether the last verdict stands: a check said sound since the last granted lay, term, close, rule or strike
abbrev pub verdict_stands : Bool → Verdict → Bool
verdict_stands b Consistent = true
verdict_stands b (Clashes t x y n) = false

abbrev pub stands_after : Bool → Step → Answer → Bool
stands_after b (lay n) a = false
stands_after b (term t) a = false
stands_after b close a = false
stands_after b (rule e k r) a = false
stands_after b (strike e) a = false
stands_after b (check row slots) Done = b
stands_after b (check row slots) (Border n) = b
stands_after b (check row slots) (Checked v) = verdict_stands b v
stands_after b (check row slots) (Formed y) = b
stands_after b (check row slots) (Counted n y) = b
stands_after b (form p row) a = b
stands_after b (cofactor p row slots) a = b
stands_after b (table i rows) a = b

abbrev pub stands : Bool → Step → Result Answer Refusal → Bool
stands b s (Ok a) = stands_after b s a
stands b s (Err r) = b

-- A form or cofactors call whose arguments nothing but the phase would refuse is granted exactly where the last verdict stands.
abbrev pub GrantedExactly : Arithmetic → Bool → Ledger → Step → Result Answer Refusal → Type 0
GrantedExactly A b L (lay n) r = Unit {0}
GrantedExactly A b L (term t) r = Unit {0}
GrantedExactly A b L close r = Unit {0}
GrantedExactly A b L (rule e k w) r = Unit {0}
GrantedExactly A b L (strike e) r = Unit {0}
GrantedExactly A b L (check row slots) r = Unit {0}
GrantedExactly A b L (form p row) r = judge_pairs A.order L p (length row) None ≡ None → is_ok r ≡ b
GrantedExactly A b L (cofactor p row slots) r = judge_pairs A.order L p (length row) (refuse (nat_lt (length slots) (length L.terms * degrees p)) EntriesTooShort None) ≡ None → is_ok r ≡ b
GrantedExactly A b L (table i rows) r = Unit {0}

-- In a sound book two polynomials have one form exactly when their difference lies in U, and the answer is yes exactly when the polynomial lies in U.
pub record FormTells (A : Arithmetic) (L : Ledger) (p : Polynomial) (row : Row) (said : Bool) : Type 0 where
  pub independent : Independent (ring A) (system L)
  pub equal_forms : (q : Polynomial) → Over L.variables q → row ≡ normal_form (ring A) (system L) q → InIdeal (ring A) (system L) (difference (ring A) p q)
  pub equal_classes : (q : Polynomial) → Over L.variables q → InIdeal (ring A) (system L) (difference (ring A) p q) → row ≡ normal_form (ring A) (system L) q
  pub member : said ≡ true → InIdeal (ring A) (system L) p
  pub other : InIdeal (ring A) (system L) p → said ≡ true

-- What the answer of a granted check, form or cofactors means in terms of the ideal U of the rules given so far.
abbrev pub Means : Arithmetic → Ledger → Step → Answer → Type 0
Means A L (lay n) a = Unit {0}
Means A L (term t) a = Unit {0}
Means A L close a = Unit {0}
Means A L (rule e k r) a = Unit {0}
Means A L (strike e) a = Unit {0}
Means A L (check row slots) Done = Unit {0}
Means A L (check row slots) (Border n) = Unit {0}
Means A L (check row slots) (Checked v) = VerdictMeans (ring A) (system L) v row slots
Means A L (check row slots) (Formed y) = Unit {0}
Means A L (check row slots) (Counted n y) = Unit {0}
Means A L (form p row) Done = Unit {0}
Means A L (form p row) (Border n) = Unit {0}
Means A L (form p row) (Checked v) = Unit {0}
Means A L (form p row) (Formed said) = FormTells A L p row said
Means A L (form p row) (Counted n y) = Unit {0}
Means A L (cofactor p row slots) Done = Unit {0}
Means A L (cofactor p row slots) (Border n) = Unit {0}
Means A L (cofactor p row slots) (Checked v) = Unit {0}
Means A L (cofactor p row slots) (Formed y) = Unit {0}
Means A L (cofactor p row slots) (Counted n y) = Accounts (ring A) (system L) p row (take n slots)
Means A L (table i rows) a = Unit {0}

abbrev pub Meaning : Arithmetic → Ledger → Step → Result Answer Refusal → Type 0
Meaning A L s (Ok a) = Means A L s a
Meaning A L s (Err r) = Unit {0}

-- One call of a run: b says whether the last verdict stands, L is the ledger of the calls before.
pub record CallLaw (A : Arithmetic) (b : Bool) (L : Ledger) (s : Step) (x : Ran) : Type 0 where
  pub answers : x.1 ≡ answer A L s
  pub slices : x.0 ≡ finish A L s
  pub granted_exactly : GrantedExactly A b L s x.1
  pub meaning : Meaning A L x.0 x.1

-- every call of a run keeps the law, the next one with the ledger that this one leaves
abbrev pub RunLaw : Arithmetic → Bool → Ledger → List Step → List Ran → Type 0
RunLaw A b L [] [] = Unit {0}
RunLaw A b L [] (x ∷ xs) = ⊥
RunLaw A b L (s ∷ ss) [] = ⊥
RunLaw A b L (s ∷ ss) (x ∷ xs) = CallLaw A b L s x × RunLaw A (stands b s x.1) (next A L s) ss xs

-- the run of a list of calls, each answer taken from the ledger of the calls before it
abbrev pub run : Arithmetic → Ledger → List Step → List Ran
run A L [] = []
run A L (s ∷ ss) = (finish A L s, answer A L s) ∷ run A (next A L s) ss
