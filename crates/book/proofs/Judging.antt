-- How a chain of causes answers, and what the chains of the calls say. Assumes nothing.
use Rattle.std.proofs.Common.{◌≡◌, ℕ, zero, suc, ◌-◌, ◌*◌, ◌<◌, ◌≤◌, Bool, true, false, cond, not, eqb, ltb, List, [], ◌∷◌, length, get_or, take, is_some, Some, None, Ok, Err, Option, Result, IfOk, subst, sym, refl, ap, ◌∙◌, mul-le-mul, arith}
use Rattle.std.specs.Option.{ok_or}
use Rattle.std.specs.List.{sum_by}
use Rattle.std.proofs.lemmas.List.Sums.{sum_by-cons}
use Rattle.std.proofs.lemmas.Bool.{both_ways, ltb-false, eq-eqb, lt-ltb, le-ltb, not_from_true, not_from_false}
use Rattle.algebra.specs.Term.{Term, has, place, degree, next_place, zero_past}
use Rattle.algebra.specs.Polynomial.{Polynomial}
use Rattle.algebra.specs.Border.{Row, border, at_place}
use Rattle.algebra.proofs.Borders.{not_in_border, place_absent}
use Rattle.term.specs.Search.{first_place, found}
use Rattle.book.specs.declared.contents.Contents.{Contents}
use Rattle.book.specs.declared.phase.Event.{Event}
use Rattle.book.specs.declared.phase.Event.TheVariants.{GiveRule}
use Rattle.book.specs.declared.phase.Phase.{Phase}
use Rattle.book.specs.declared.phase.Phase.TheVariants.{Open, Closed, Sound, Clash}
use Rattle.book.specs.declared.refusal.Refusal.{Refusal}
use Rattle.book.specs.declared.refusal.Refusal.TheVariants.{WrongPhase, ExponentPastVariables, NotOnBorder, WrongLength, CodeOutOfRange, TooManyPairs, DegreeTooHigh}
use Rattle.book.specs.Phases.{allowed}
use Rattle.book.specs.Ledger.{Ledger, edge}
use Rattle.book.specs.Judge.{refuse, refuse_at, refuse_phase, past_variables, unfit, unfit_pair, too_high, missing, degrees, judge_on, judge_rule, judge_pairs, granted}
use Rattle.book.specs.Kept.{terms_of, kept_rows, border_in, ledger}
use Rattle.book.proofs.Granting.{none_from, some_from, refuse_none, refuse_at_none}

-- a cause that does not apply, and one that does
pub pass : {b : Bool} {later o : Option Refusal} (r : Refusal) → b ≡ false → later ≡ o → refuse b r later ≡ o
pass {later = later} r e rest = ap (λ (t : Bool). refuse t r later) e ∙ rest

pub stop : {b : Bool} (r : Refusal) (later : Option Refusal) → b ≡ true → refuse b r later ≡ Some r
stop r later e = ap (λ (t : Bool). refuse t r later) e

pub pass_at : {k : ℕ} {later o : Option Refusal} (r : ℕ → Refusal) → k ≡ 0 → later ≡ o → refuse_at k r later ≡ o
pass_at {later = later} r e rest = ap (λ (j : ℕ). refuse_at j r later) e ∙ rest

pub stop_at : {j : ℕ} (k : ℕ) (r : ℕ → Refusal) (later : Option Refusal) → j ≡ k → (j ≡ 0 → ⊥) → refuse_at k r later ≡ Some (r j)
stop_at zero r later e n = absurd (n e)
stop_at (suc k) r later e n = ap (λ (i : ℕ). Some (r i)) (sym e)

pub answer_some : {V : Type 0} (v : V) {o : Option Refusal} {r : Refusal} → o ≡ Some r → Err r ≡ granted o v
answer_some v e = sym (ap (λ (o : Option Refusal). granted o v) e)

pub answer_none : {V : Type 0} (v : V) {o : Option Refusal} → o ≡ None → Ok v ≡ granted o v
answer_none v e = sym (ap (λ (o : Option Refusal). granted o v) e)

admitted : (L : Ledger) (e : Event) (v : Unit {0}) → Ok v ≡ granted (refuse_phase L e None) tt → not (allowed L.phase e) ≡ false
admitted L e v h = (refuse_none (not (allowed L.phase e)) WrongPhase None (none_from _ tt v (sym h))).0

as_long : (a b : ℕ) → a ≡ b → not (eqb a b) ≡ false
as_long a b e = not_from_true (eqb a b) (eq-eqb a b e)

-- a call that an open book refuses finds the whole border
bordered : (p : Phase) (e : Event) (n : ℕ) (S : List Term) → allowed Open e ≡ false → not (allowed p e) ≡ false → border_in p n S ≡ border n S
bordered Open e n S o h = absurd (both_ways _ h (not_from_false _ o))
bordered Closed e n S o h = refl
bordered Sound e n S o h = refl
bordered Clash e n S o h = refl

-- a term of S is on no border
pub off_border : (p : Phase) (n : ℕ) (S : List Term) (e : Term) → has e S ≡ true → 0 ≡ place e (border_in p n S)
off_border Open n S e h = refl
off_border Closed n S e h = sym (place_absent e _ (not_in_border n S e h))
off_border Sound n S e h = sym (place_absent e _ (not_in_border n S e h))
off_border Clash n S e h = sym (place_absent e _ (not_in_border n S e h))

-- a place keeps a row where it has one
pub first_missing : (D : ℕ) (os : List (Option Row)) → first_place missing os ≡ first_place missing (kept_rows D os)
first_missing D [] = refl
first_missing D (None ∷ os) = refl
first_missing D (Some r ∷ os) = ap next_place (first_missing D os)

kept_index : (D m : ℕ) (os : List (Option Row)) (j : ℕ) → j < m → is_some (get_or os j None) ≡ is_some (get_or (kept_rows D (take m os)) j None)
kept_index D zero os j h = absurd (omega arith)
kept_index D (suc m) [] j h = refl
kept_index D (suc m) (None ∷ os) zero h = refl
kept_index D (suc m) (Some r ∷ os) zero h = refl
kept_index D (suc m) (o ∷ os) (suc j) h = kept_index D m os j (omega arith)

-- at a place that counts from 1
pub kept_place : (D m : ℕ) (os : List (Option Row)) (p : ℕ) → 1 ≤ p → p ≤ m → is_some (get_or os (p - 1) None) ≡ is_some (at_place p (kept_rows D (take m os)) None)
kept_place D m os zero one h = absurd (omega arith)
kept_place D m os (suc j) one h = ap (λ (i : ℕ). is_some (get_or os i None)) (omega arith) ∙ kept_index D m os j (omega arith)

past_index : (D : ℕ) (os : List (Option Row)) (j : ℕ) → length os ≤ j → false ≡ is_some (get_or (kept_rows D os) j None)
past_index D [] j h = refl
past_index D (o ∷ os) zero h = absurd (omega arith)
past_index D (o ∷ os) (suc j) h = past_index D os j (omega arith)

pub past_place : (D : ℕ) (os : List (Option Row)) (p : ℕ) → length os < p → false ≡ is_some (at_place p (kept_rows D os) None)
past_place D os zero h = absurd (omega arith)
past_place D os (suc j) h = past_index D os j (omega arith)

-- a chain that refuses goes on to refuse where more causes follow
refuse_more : (b : Bool) (r s : Refusal) (later more : Option Refusal) → (later ≡ Some s → more ≡ Some s) → refuse b r later ≡ Some s → refuse b r more ≡ Some s
refuse_more true r s later more f e = e
refuse_more false r s later more f e = f e

refuse_at_more : (k : ℕ) (r : ℕ → Refusal) (s : Refusal) (later more : Option Refusal) → (later ≡ Some s → more ≡ Some s) → refuse_at k r later ≡ Some s → refuse_at k r more ≡ Some s
refuse_at_more zero r s later more f e = f e
refuse_at_more (suc k) r s later more f e = e

none_more : (s : Refusal) (more : Option Refusal) → None ≡ Some s → more ≡ Some s
none_more s more e = let z : ◌≡◌ {A = ℕ} 0 1 = cc in absurd (omega arith)

-- a term that is on the border, and one that is not
on_none : (n : ℕ) (E : List Term) (e : Term) (later : Option Refusal) → judge_on n E e None ≡ None → judge_on n E e later ≡ later
on_none n E e later h =
    let p = refuse_none (not (zero_past n e)) (ExponentPastVariables 1) _ h in
    let q = refuse_none (eqb (place e E) 0) NotOnBorder None p.1 in
    pass (ExponentPastVariables 1) p.0 (pass NotOnBorder q.0 refl)

on_some : (n : ℕ) (E : List Term) (e : Term) (later : Option Refusal) (r : Refusal) → judge_on n E e None ≡ Some r → judge_on n E e later ≡ Some r
on_some n E e later r = refuse_more (not (zero_past n e)) (ExponentPastVariables 1) r _ _ (refuse_more (eqb (place e E) 0) NotOnBorder r None later (none_more r later))

-- the border as the book has it: empty while the book is open
abbrev pub known_border : Contents → List Term
known_border k = border_in k.phase k.basis.variables (terms_of k)

-- a place on the border is within it
pub border_bound : (o : Option ℕ) (r : Result ℕ Refusal) (k n : ℕ) → r ≡ ok_or o NotOnBorder → o ≡ found k → k ≤ n → IfOk r (λ p. (1 ≤ p) × (p ≤ n))
border_bound o r k n e f l = subst (λ (x : Result ℕ Refusal). IfOk x (λ p. (1 ≤ p) × (p ≤ n))) (sym (e ∙ ap (λ (x : Option ℕ). ok_or x NotOnBorder) f)) (go k l)
  where
    go : (j : ℕ) → j ≤ n → IfOk (ok_or (found j) NotOnBorder) (λ p. (1 ≤ p) × (p ≤ n))
    go zero l = tt
    go (suc j) l = (omega arith, l)

-- the calls that name a border term, once the phase allows them
module _ (k : Contents) (event : Event) (shut : allowed Open event ≡ false) (v : Unit {0}) (in' : Ok v ≡ granted (refuse_phase (ledger k) event None) tt) (e : Term) (later : Option Refusal) where
  allowed_here : not (allowed k.phase event) ≡ false
  allowed_here = admitted (ledger k) event v in'

  whole : judge_on k.basis.variables (edge (ledger k)) e later ≡ judge_on k.basis.variables (known_border k) e later
  whole = ap (λ (E : List Term). judge_on k.basis.variables E e later) (sym (bordered k.phase event k.basis.variables (terms_of k) shut allowed_here))

  on_border : (o : Option Refusal) → judge_on k.basis.variables (known_border k) e None ≡ None → later ≡ o → refuse_phase (ledger k) event (judge_on k.basis.variables (edge (ledger k)) e later) ≡ o
  on_border o h rest = pass WrongPhase allowed_here (whole ∙ on_none k.basis.variables (known_border k) e later h ∙ rest)

  pub past_border : (j w : ℕ) (r : Refusal) → Err r ≡ granted (judge_on k.basis.variables (known_border k) e None) j → Err r ≡ granted (refuse_phase (ledger k) event (judge_on k.basis.variables (edge (ledger k)) e later)) w
  past_border j w r h = answer_some w (pass WrongPhase allowed_here (whole ∙ on_some k.basis.variables (known_border k) e later r (some_from _ j r (sym h))))

pub rule_unfit : (q : ℕ) (k : Contents) (v : Unit {0}) → Ok v ≡ granted (refuse_phase (ledger k) GiveRule None) tt → (e : Term) (j w : ℕ) → Ok j ≡ granted (judge_on k.basis.variables (known_border k) e None) w → (c : ℕ) (row : Row) → length row ≡ length (terms_of k) → (i : ℕ) → i ≡ first_place (unfit q) (c ∷ row) → (i ≡ 0 → ⊥) → judge_rule q (ledger k) e c row ≡ Some (CodeOutOfRange i)
rule_unfit q k v in' e j w on c row l i is n =
    on_border k GiveRule refl v in' e _ _ (none_from _ w j (sym on))
    (pass WrongLength (as_long (length row) (length (terms_of k)) l) (stop_at (first_place (unfit q) (c ∷ row)) CodeOutOfRange _ is n))

-- the pairs of a polynomial, in the order of the causes
module _ (q : ℕ) (L : Ledger) (p : Polynomial) (d i : ℕ) (is-past : i ≡ first_place (past_variables L.variables) p) (inside : i ≡ 0) (l : d ≡ length L.terms) (j : ℕ) (is-unfit : j ≡ first_place (unfit_pair q) p) where
  onward : (later o : Option Refusal) → refuse_at (first_place (unfit_pair q) p) CodeOutOfRange (refuse (ltb 64 (length p)) TooManyPairs (refuse_at (first_place too_high p) DegreeTooHigh later)) ≡ o → judge_pairs q L p d later ≡ o
  onward later o rest = pass_at ExponentPastVariables (sym is-past ∙ inside) (pass WrongLength (as_long d (length L.terms) l) rest)

  pub pairs_unfit : (j ≡ 0 → ⊥) → judge_pairs q L p d None ≡ Some (CodeOutOfRange j)
  pairs_unfit n = onward None _ (stop_at (first_place (unfit_pair q) p) CodeOutOfRange _ is-unfit n)

  pub pairs_many : j ≡ 0 → 64 < length p → judge_pairs q L p d None ≡ Some TooManyPairs
  pairs_many z h = onward None _ (pass_at CodeOutOfRange (sym is-unfit ∙ z) (stop TooManyPairs _ (lt-ltb 64 (length p) h)))

  module _ (z : j ≡ 0) (few : length p ≤ 64) (m : ℕ) (is-high : m ≡ first_place too_high p) where
    pub pairs_high : (m ≡ 0 → ⊥) → judge_pairs q L p d None ≡ Some (DegreeTooHigh m)
    pairs_high n =
        onward None _
        (pass_at CodeOutOfRange (sym is-unfit ∙ z) (pass TooManyPairs (le-ltb 64 (length p) few) (stop_at (first_place too_high p) DegreeTooHigh None is-high n)))

    pub pairs_granted : m ≡ 0 → judge_pairs q L p d None ≡ None
    pairs_granted x =
        onward None _ (pass_at CodeOutOfRange (sym is-unfit ∙ z) (pass TooManyPairs (le-ltb 64 (length p) few) (pass_at DegreeTooHigh (sym is-high ∙ x) refl)))

pub degrees_sum : (p : Polynomial) → sum_by (λ (x : ℕ × Term). degree x.1) p ≡ degrees p
degrees_sum [] = refl
degrees_sum (x ∷ p) = sum_by-cons (λ (y : ℕ × Term). degree y.1) x p ∙ (let e = degrees_sum p in omega arith)

-- at most 24 for each pair
degrees_low : (p : Polynomial) → first_place too_high p ≡ 0 → degrees p ≤ 24 * length p
degrees_low [] h = omega arith
degrees_low (x ∷ p) h =
    let q = no_place (too_high x) (first_place too_high p) h in
    let low = ltb-false 24 (degree x.1) q.0 in
    let rest = degrees_low p q.1 in
    omega arith
  where
    no_place : (b : Bool) (k : ℕ) → cond b 1 (next_place k) ≡ 0 → (b ≡ false) × (k ≡ 0)
    no_place true k e = absurd (omega arith)
    no_place false zero e = (refl, refl)
    no_place false (suc k) e = absurd (omega arith)

pub few_degrees : (q : ℕ) (L : Ledger) (p : Polynomial) (d : ℕ) (v : Unit {0}) → Ok v ≡ granted (judge_pairs q L p d None) tt → degrees p ≤ 1536
few_degrees q L p d v h =
    let h₁ = refuse_at_none (first_place (past_variables L.variables) p) ExponentPastVariables _ (none_from _ tt v (sym h)) in
    let h₂ = refuse_none (not (eqb d (length L.terms))) WrongLength _ h₁.1 in
    let h₃ = refuse_at_none (first_place (unfit_pair q) p) CodeOutOfRange _ h₂.1 in
    let h₄ = refuse_none (ltb 64 (length p)) TooManyPairs _ h₃.1 in
    let h₅ = refuse_at_none (first_place too_high p) DegreeTooHigh None h₄.1 in
    let few = ltb-false 64 (length p) h₄.0 in
    let low = degrees_low p h₅.0 in
    omega arith

-- refused pairs stay refused where a cause follows
pub pairs_refused : (q : ℕ) (L : Ledger) (event : Event) (v : Unit {0}) → Ok v ≡ granted (refuse_phase L event None) tt → (p : Polynomial) (d : ℕ) (r : Refusal) (later : Option Refusal) (w : Unit {0}) → Err r ≡ granted (judge_pairs q L p d None) w → Err r ≡ granted (refuse_phase L event (judge_pairs q L p d later)) w
pairs_refused q L event v in' p d r later w h =
    let more =
    refuse_at_more (first_place (past_variables L.variables) p) ExponentPastVariables r _ _
    (refuse_more (not (eqb d (length L.terms))) WrongLength r _ _
    (refuse_at_more (first_place (unfit_pair q) p) CodeOutOfRange r _ _
    (refuse_more (ltb 64 (length p)) TooManyPairs r _ _ (refuse_at_more (first_place too_high p) DegreeTooHigh r None later (none_more r later))))) in
    answer_some w (pass WrongPhase (admitted L event v in') (more (some_from (judge_pairs q L p d None) w r (sym h))))

-- so many slots are counted without loss
pub few_slots : (a b : ℕ) → a ≤ 32 → b ≤ 1536 → a * b ≤ 49152
few_slots a b h l = mul-le-mul h l
