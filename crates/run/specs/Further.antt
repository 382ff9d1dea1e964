-- What a run promises of rule, strike, cofactors and table beside the law over runs. Assumes nothing.
use Rattle.std.specs.Prelude.{◌≡◌, ℕ, ◌-◌, ◌*◌, Bool, not, ◌&&◌, List, [], ◌∷◌, length, map, is_ok, Some, None, Option, Ok, Err, Result, ◌==◌, nat_le, slice_index_or}
use Rattle.field.specs.Arithmetic.{Arithmetic}
use Rattle.algebra.specs.Term.{Term, place}
use Rattle.algebra.specs.Border.{Row}
use Rattle.book.specs.declared.refusal.Refusal.{Refusal}
use Rattle.book.specs.declared.refusal.Refusal.TheVariants.{WrongLength, NoSuchVariable}
use Rattle.book.specs.Judge.{refuse}
use Rattle.book.specs.Ledger.{Ledger, edge}
use Rattle.run.specs.declared.call.Answer.{Answer}
use Rattle.run.specs.declared.call.Answer.TheVariants.{Done, Border, Checked, Formed, Counted}
use Rattle.run.specs.Calls.{Step, lay, term, close, rule, strike, check, form, cofactor, table, changed, next}
use Rattle.run.specs.Runs.{Ran, FormTells, stands}

-- A rule k·e = Σ rⱼ·tⱼ is kept at the place of e, as a row that k times gives back the row r.
pub record RuleTells (A : Arithmetic) (L : Ledger) (e : Term) (k : ℕ) (r : Row) : Type 0 where
  pub kept : Row
  pub stored : slice_index_or (changed A L (rule e k r)).rows (place e (edge L) - 1) None ≡ Some kept
  pub gives_back : map (A.product k) kept ≡ r

-- What a granted call says beside its meaning: a rule is kept, a strike leaves none, and the answer of cofactors, 1 for yes, tells what that of form tells.
abbrev pub Tells : Arithmetic → Ledger → Step → Answer → Type 0
Tells A L (lay n) a = Unit {0}
Tells A L (term t) a = Unit {0}
Tells A L close a = Unit {0}
Tells A L (rule e k r) a = RuleTells A L e k r
Tells A L (strike e) a = slice_index_or (changed A L (strike e)).rows (place e (edge L) - 1) (Some []) ≡ None
Tells A L (check row slots) a = Unit {0}
Tells A L (form p row) a = Unit {0}
Tells A L (cofactor p row slots) Done = Unit {0}
Tells A L (cofactor p row slots) (Border n) = Unit {0}
Tells A L (cofactor p row slots) (Checked v) = Unit {0}
Tells A L (cofactor p row slots) (Formed y) = Unit {0}
Tells A L (cofactor p row slots) (Counted n y) = FormTells A L p row (y == 1)
Tells A L (table i rows) a = Unit {0}

abbrev pub Telling : Arithmetic → Ledger → Step → Result Answer Refusal → Type 0
Telling A L s (Ok a) = Tells A L s a
Telling A L s (Err r) = Unit {0}

-- the causes of table but the phase
abbrev pub judge_variable : Ledger → ℕ → Row → Option Refusal
judge_variable L i t =
    refuse (not (length t == length L.terms * length L.terms)) WrongLength (refuse (not (nat_le 1 i && nat_le i L.variables)) NoSuchVariable None)

-- A table call whose arguments nothing but the phase would refuse is granted exactly where the last verdict stands.
abbrev pub TableGrantedExactly : Bool → Ledger → Step → Result Answer Refusal → Type 0
TableGrantedExactly b L (lay n) r = Unit {0}
TableGrantedExactly b L (term t) r = Unit {0}
TableGrantedExactly b L close r = Unit {0}
TableGrantedExactly b L (rule e k w) r = Unit {0}
TableGrantedExactly b L (strike e) r = Unit {0}
TableGrantedExactly b L (check row slots) r = Unit {0}
TableGrantedExactly b L (form p row) r = Unit {0}
TableGrantedExactly b L (cofactor p row slots) r = Unit {0}
TableGrantedExactly b L (table i rows) r = judge_variable L i rows ≡ None → is_ok r ≡ b

-- One call of a run: b says whether the last verdict stands, L is the ledger of the calls before.
pub record CallTells (A : Arithmetic) (b : Bool) (L : Ledger) (s : Step) (x : Ran) : Type 0 where
  pub table_granted_exactly : TableGrantedExactly b L s x.1
  pub telling : Telling A L x.0 x.1

-- every call of a run tells this, the next one with the ledger that this one leaves
abbrev pub RunTells : Arithmetic → Bool → Ledger → List Step → List Ran → Type 0
RunTells A b L [] [] = Unit {0}
RunTells A b L [] (x ∷ xs) = ⊥
RunTells A b L (s ∷ ss) [] = ⊥
RunTells A b L (s ∷ ss) (x ∷ xs) = CallTells A b L s x × RunTells A (stands b s x.1) (next A L s) ss xs
