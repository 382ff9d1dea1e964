-- Every run keeps the law. Assumes nothing.
use Rattle.std.proofs.Common.{◌≡◌, ℕ, zero, suc, ◌-◌, ◌*◌, ◌<◌, ◌≤◌, Bool, true, false, not, ◌&&◌, eqb, ltb, leb, List, [], ◌∷◌, map, length, set, is_ok, Some, None, Option, unwrap_or, sym, refl, ap, ◌∙◌, subst, ⊎_elim, arith}
use Rattle.std.proofs.lemmas.List.{length-map, length-set, get_or-set_same}
use Rattle.std.proofs.lemmas.Bool.{both_ways, and_parts, leb-true, eqb-false, cases_lt}
use Rattle.field.specs.Arithmetic.{Arithmetic, ring, Lawful}
use Rattle.algebra.specs.Term.{Term, has, place, zero_past}
use Rattle.algebra.specs.Polynomial.{Polynomial, Over}
use Rattle.algebra.specs.Border.{Row, System, AreRows, LawfulSystem}
use Rattle.algebra.specs.Walk.{normal_form, all_zero}
use Rattle.algebra.specs.Clash.{first_clash}
use Rattle.algebra.specs.Theorems.{Independent}
use Rattle.algebra.specs.declared.Clash.{Clash}
use Rattle.algebra.proofs.Clashes.{no_clash, border_basis_theorem}
use Rattle.term.specs.Search.{first_place}
use Rattle.book.specs.declared.phase.Phase.{Phase}
use Rattle.book.specs.declared.phase.Phase.TheVariants.{Open, Closed, Sound, Clash as Clashing}
use Rattle.book.specs.declared.phase.Event.TheVariants.{AddTerm, Close, GiveRule, Strike, Form, Cofactors, Table}
use Rattle.book.specs.declared.refusal.Refusal.{Refusal}
use Rattle.book.specs.declared.refusal.Refusal.TheVariants.{WrongPhase, VariablesOutOfRange, ExponentPastVariables, TermPresent, TermNotJoined, NoTerms, NotOnBorder, WrongLength, CodeOutOfRange, ZeroLeadingCode, EntriesTooShort}
use Rattle.book.specs.Phases.{allowed}
use Rattle.book.specs.Judge.{judge_border, judge_pairs, joins, missing, unfit, refuse, degrees, granted, on_grant}
use Rattle.book.specs.Ledger.{Ledger, new_ledger, edge, system}
use Rattle.book.specs.Effects.{phase_of, verdict, kept_row, yes_no}
use Rattle.book.specs.Kept.{terms_fit, is_closed}
use Rattle.book.proofs.Adding.{fit_more}
use Rattle.book.proofs.Searching.{next_zero, place_within}
use Rattle.book.proofs.Ready.{fit_connected}
use Rattle.book.proofs.Filling.{open_for_terms}
use Rattle.book.proofs.Granting.{refuse_none, refuse_at_none, not_false_true}
use Rattle.book.proofs.Admitting.{rule_admitted, strike_admitted, check_admitted, form_admitted, cofactors_admitted}
use Rattle.book.proofs.Answering.{closed_after}
use Rattle.book.proofs.Meaning.{over_from, verdict_means, form_means, cofactors_mean}
use Rattle.run.proofs.Scaling.{all_fit, row_back}
use Rattle.run.specs.Calls.{Step, lay, term, close, rule, strike, check, form, cofactor, table, judge, value, changed, finished, answer, next, finish}
use Rattle.run.specs.Runs.{stands, stands_after, verdict_stands, GrantedExactly, FormTells, Means, Meaning, RunLaw, run}
use Rattle.run.specs.Further.{judge_variable, TableGrantedExactly, Tells, Telling, RunTells}

abbrev is_sound : Phase → Bool
is_sound Open = false
is_sound Closed = false
is_sound Sound = true
is_sound Clashing = false

-- every row that is there has a code for each term
abbrev pub Long : ℕ → List (Option Row) → Type 0
Long D [] = Unit {0}
Long D (None ∷ os) = Long D os
Long D (Some r ∷ os) = (length r ≡ D) × Long D os

pub record Shape (L : Ledger) : Type 0 where
  pub some : 1 ≤ length L.terms
  pub counted : length L.rows ≡ length (edge L)
  pub long : Long (length L.terms) L.rows

-- what every ledger of a run keeps
pub record Kept (A : Arithmetic) (L : Ledger) : Type 0 where
  pub few : L.variables ≤ 8
  pub fit : terms_fit L.variables L.terms ≡ true
  pub shaped : is_closed L.phase ≡ true → Shape L
  pub sound : L.phase ≡ Sound → (first_place missing L.rows ≡ 0) × (first_clash (ring A) (system L) ≡ None)

not_closed : {X : Type 0} (p : Phase) → p ≡ Open → is_closed p ≡ true → X
not_closed p e h = absurd (both_ways false refl (sym (ap is_closed e) ∙ h))

not_sound : {X : Type 0} (p : Phase) → is_sound p ≡ false → p ≡ Sound → X
not_sound p e h = absurd (both_ways (is_sound p) e (ap is_sound h))

pub new_kept : (A : Arithmetic) → Kept A new_ledger
new_kept A = record { few = omega arith; fit = refl; shaped = λ h. absurd (both_ways false refl h); sound = not_sound Open refl }

rows_given : (S : List Term) (os : List (Option Row)) → Long (length S) os → first_place missing os ≡ 0 → AreRows S (map (λ (o : Option Row). unwrap_or o []) os)
rows_given S [] l z = tt
rows_given S (None ∷ os) l z = absurd (omega arith)
rows_given S (Some r ∷ os) l z = (l.0, rows_given S os l.1 (next_zero _ z))

-- a closed ledger that lacks no rule is a lawful system
lawful_system : (A : Arithmetic) (L : Ledger) → Kept A L → is_closed L.phase ≡ true → first_place missing L.rows ≡ 0 → LawfulSystem (system L)
lawful_system A L k c z =
    let s = k.shaped c in
    record {
      few_variables = k.few;
      is_connected = fit_connected L.variables L.terms s.some k.fit;
      all_rules = length-map L.rows _ ∙ s.counted;
      are_rows = rows_given L.terms L.rows s.long z;
    }

long_set : (D : ℕ) (os : List (Option Row)) (p : ℕ) (r : Row) → Long D os → length r ≡ D → Long D (set os p (Some r))
long_set D [] p r l h = tt
long_set D (None ∷ os) zero r l h = (h, l)
long_set D (Some w ∷ os) zero r l h = (h, l.1)
long_set D (None ∷ os) (suc p) r l h = long_set D os p r l h
long_set D (Some w ∷ os) (suc p) r l h = (l.0, long_set D os p r l.1 h)

long_unset : (D : ℕ) (os : List (Option Row)) (p : ℕ) → Long D os → Long D (set os p None)
long_unset D [] p l = tt
long_unset D (None ∷ os) zero l = l
long_unset D (Some w ∷ os) zero l = l.1
long_unset D (None ∷ os) (suc p) l = long_unset D os p l
long_unset D (Some w ∷ os) (suc p) l = (l.0, long_unset D os p l.1)

long_none : (D : ℕ) (es : List Term) → Long D (map (λ (_ : Term). None) es)
long_none D [] = tt
long_none D (e ∷ es) = long_none D es

clash_phase : (A : Arithmetic) (L : Ledger) (o : Option Clash) → first_clash (ring A) (system L) ≡ o → phase_of o ≡ Sound → first_clash (ring A) (system L) ≡ None
clash_phase A L None e h = e
clash_phase A L (Some x) e h = not_sound Clashing refl h

-- a granted call keeps the ledger's facts
pub changed_kept : (A : Arithmetic) (L : Ledger) → Kept A L → (s : Step) → judge A L s ≡ None → Kept A (changed A L s)
changed_kept A L k (lay n) e =
    let p = refuse_none (not (leb 1 n && leb n 8)) VariablesOutOfRange None e in
    let q = and_parts (leb 1 n) (leb n 8) (not_false_true _ p.0) in
    record { few = leb-true n 8 q.1; fit = refl; shaped = λ h. absurd (both_ways false refl h); sound = not_sound Open refl }
changed_kept A L k (term t) e =
    let p = refuse_none (not (allowed L.phase AddTerm)) WrongPhase _ e in
    let o = open_for_terms L.phase (not_false_true _ p.0) in
    let q = refuse_none (not (zero_past L.variables t)) (ExponentPastVariables 1) _ p.1 in
    let new = refuse_none (has t L.terms) TermPresent _ q.1 in
    let join = refuse_none (not (joins L.variables L.terms t)) TermNotJoined _ new.1 in
    record {
      few = k.few;
      fit = fit_more L.variables L.terms t k.fit new.0 (not_false_true _ join.0);
      shaped = not_closed L.phase o;
      sound = not_sound L.phase (ap is_sound o);
    }
changed_kept A L k close e =
    let p = refuse_none (not (allowed L.phase Close)) WrongPhase _ e in
    let q = refuse_none (eqb (length L.terms) 0) NoTerms None p.1 in
    record {
      few = k.few;
      fit = k.fit;
      shaped = λ _. record {
        some = ⊎_elim (λ h. h) (λ h. absurd (eqb-false (length L.terms) 0 q.0 (omega arith))) (cases_lt 0 (length L.terms));
        counted = length-map (edge L) _;
        long = long_none (length L.terms) (edge L);
      };
      sound = not_sound Closed refl;
    }
changed_kept A L k (rule e c r) h =
    let a = rule_admitted L A.order e c r h in
    let s = k.shaped a.closed in
    record {
      few = k.few;
      fit = k.fit;
      shaped = λ _. record {
        some = s.some;
        counted = length-set L.rows _ (Some (kept_row A c r)) ∙ s.counted;
        long = long_set (length L.terms) L.rows _ (kept_row A c r) s.long (length-map r _ ∙ a.long);
      };
      sound = not_sound Closed refl;
    }
changed_kept A L k (strike e) h =
    let s = k.shaped (strike_admitted L e h) in
    record {
      few = k.few;
      fit = k.fit;
      shaped = λ _. record { some = s.some; counted = length-set L.rows _ None ∙ s.counted; long = long_unset (length L.terms) L.rows _ s.long };
      sound = not_sound Closed refl;
    }
changed_kept A L k (check row slots) h =
    let a = check_admitted L row slots h in
    let s = k.shaped a.closed in
    record {
      few = k.few;
      fit = k.fit;
      shaped = λ _. record { some = s.some; counted = s.counted; long = s.long };
      sound = λ p. (a.complete, clash_phase A L (first_clash (ring A) (system L)) refl p);
    }
changed_kept A L k (form p row) h = k
changed_kept A L k (cofactor p row slots) h = k
changed_kept A L k (table i rows) h = k

pub next_kept : (A : Arithmetic) (L : Ledger) → Kept A L → (s : Step) → Kept A (next A L s)
next_kept A L k s = go (judge A L s) refl
  where
    go : (o : Option Refusal) → judge A L s ≡ o → Kept A (on_grant o (changed A L s) L)
    go None e = changed_kept A L k s e
    go (Some r) e = k

verdict_phase : (A : Arithmetic) (B : System) (b : Bool) (o : Option Clash) → verdict_stands b (verdict (ring A) B o) ≡ is_sound (phase_of o)
verdict_phase A B b None = refl
verdict_phase A B b (Some x) = refl

-- whether the verdict stands is what the phase says
next_stands : (A : Arithmetic) (b : Bool) (L : Ledger) → b ≡ is_sound L.phase → (s : Step) → stands b s (answer A L s) ≡ is_sound (next A L s).phase
next_stands A b L tie s = go (judge A L s) refl s refl
  where
    after : (s : Step) → judge A L s ≡ None → stands_after b s (value A L s) ≡ is_sound (changed A L s).phase
    after (lay n) e = refl
    after (term t) e = sym (ap is_sound (open_for_terms L.phase (not_false_true _ (refuse_none (not (allowed L.phase AddTerm)) WrongPhase _ e).0)))
    after close e = refl
    after (rule x k r) e = refl
    after (strike x) e = refl
    after (check row slots) e = verdict_phase A (system L) b (first_clash (ring A) (system L))
    after (form p row) e = tie
    after (cofactor p row slots) e = tie
    after (table i rows) e = tie

    go : (o : Option Refusal) → judge A L s ≡ o → (t : Step) → s ≡ t → stands b s (granted o (value A L s)) ≡ is_sound (on_grant o (changed A L s) L).phase
    go None e t _ = after s e
    go (Some r) e t _ = tie

form_allowed : (p : Phase) → (allowed p Form ≡ is_sound p) × (allowed p Cofactors ≡ is_sound p) × (allowed p Table ≡ is_sound p)
form_allowed Open = (refl, refl, refl)
form_allowed Closed = (refl, refl, refl)
form_allowed Sound = (refl, refl, refl)
form_allowed Clashing = (refl, refl, refl)

only_phase : {V : Type 0} (x : Bool) (later : Option Refusal) (v : V) → later ≡ None → is_ok (granted (refuse (not x) WrongPhase later) v) ≡ x
only_phase true later v e = ap (λ (o : Option Refusal). is_ok (granted o v)) e
only_phase false later v e = refl

granted_exactly : (A : Arithmetic) (b : Bool) (L : Ledger) → b ≡ is_sound L.phase → (s : Step) → GrantedExactly A b L s (answer A L s)
granted_exactly A b L tie (lay n) = tt
granted_exactly A b L tie (term t) = tt
granted_exactly A b L tie close = tt
granted_exactly A b L tie (rule e k r) = tt
granted_exactly A b L tie (strike e) = tt
granted_exactly A b L tie (check row slots) = tt
granted_exactly A b L tie (form p row) = λ e. only_phase (allowed L.phase Form) (judge_pairs A.order L p (length row) None) (value A L (form p row)) e ∙ (form_allowed L.phase).0 ∙ sym tie
granted_exactly A b L tie (cofactor p row slots) = λ e.
    only_phase (allowed L.phase Cofactors) (judge_pairs A.order L p (length row) (refuse (ltb (length slots) (length L.terms * degrees p)) EntriesTooShort None)) (value A L (cofactor p row slots)) e ∙ (form_allowed L.phase).1 ∙ sym tie
granted_exactly A b L tie (table i rows) = tt

table_granted_exactly : (A : Arithmetic) (b : Bool) (L : Ledger) → b ≡ is_sound L.phase → (s : Step) → TableGrantedExactly b L s (answer A L s)
table_granted_exactly A b L tie (lay n) = tt
table_granted_exactly A b L tie (term t) = tt
table_granted_exactly A b L tie close = tt
table_granted_exactly A b L tie (rule e k r) = tt
table_granted_exactly A b L tie (strike e) = tt
table_granted_exactly A b L tie (check row slots) = tt
table_granted_exactly A b L tie (form p row) = tt
table_granted_exactly A b L tie (cofactor p row slots) = tt
table_granted_exactly A b L tie (table i rows) = λ e. only_phase (allowed L.phase Table) (judge_variable L i rows) (value A L (table i rows)) e ∙ (form_allowed L.phase).2 ∙ sym tie

yes_is : (b : Bool) → eqb (yes_no b) 1 ≡ b
yes_is true = refl
yes_is false = refl

-- a sound ledger of a run is a lawful system without dependence
module _ (A : Arithmetic) (laws : Lawful A) (L : Ledger) (k : Kept A L) where
  sound_good : L.phase ≡ Sound → LawfulSystem (system L)
  sound_good e = lawful_system A L k (ap is_closed e) (k.sound e).0

  sound_alone : L.phase ≡ Sound → Independent (ring A) (system L)
  sound_alone e = (border_basis_theorem (ring A) laws.commutative_ring (system L) (sound_good e)).independent (no_clash laws.commutative_ring (system L) (sound_good e) (k.sound e).1)

  -- a term that was found on the border
  on_border : (x : Term) (later : Option Refusal) → judge_border L x later ≡ None → (place x (edge L) - 1 < length (edge L)) × (later ≡ None)
  on_border x later h =
      let p = refuse_none (not (zero_past L.variables x)) (ExponentPastVariables 1) _ h in
      let q = refuse_none (eqb (place x (edge L)) 0) NotOnBorder later p.1 in
      (⊎_elim (λ some. omega (arith, some, place_within x (edge L))) (λ none. absurd (eqb-false (place x (edge L)) 0 q.0 (omega arith))) (cases_lt 0 (place x (edge L))), q.1)

  -- what the form of a polynomial says in a sound book
  form_tells : L.phase ≡ Sound → (p : Polynomial) → Over L.variables p → FormTells A L p (normal_form (ring A) (system L) p) (all_zero (normal_form (ring A) (system L) p))
  form_tells e p over =
      let m = form_means laws.commutative_ring (system L) (sound_good e) p over in
      let alone = sound_alone e in
      record { independent = alone; equal_forms = m.equal_forms; equal_classes = m.equal_classes alone; member = m.member; other = m.other alone }

  pub granted_meaning : (s : Step) → judge A L s ≡ None → Means A L (finished A L s) (value A L s)
  granted_meaning (lay n) e = tt
  granted_meaning (term t) e = tt
  granted_meaning close e = tt
  granted_meaning (rule x c r) e = tt
  granted_meaning (strike x) e = tt
  granted_meaning (check row slots) e =
      let a = check_admitted L row slots e in
      verdict_means laws.commutative_ring (system L) (lawful_system A L k a.closed a.complete) (first_clash (ring A) (system L)) refl slots
  granted_meaning (form p row) e =
      let a = form_admitted L A.order p row e in
      form_tells a.0 p (over_from L.variables p a.1.inside)
  granted_meaning (cofactor p row slots) e =
      let a = cofactors_admitted L A.order p row slots e in
      cofactors_mean laws.commutative_ring (system L) (sound_good a.0) p (over_from L.variables p a.1.inside) slots
  granted_meaning (table i rows) e = tt

  call_meaning : (s : Step) → Meaning A L (finish A L s) (answer A L s)
  call_meaning s = go (judge A L s) refl
    where
      go : (o : Option Refusal) → judge A L s ≡ o → Meaning A L (on_grant o (finished A L s) s) (granted o (value A L s))
      go None e = granted_meaning s e
      go (Some r) e = tt

  pub granted_tells : (s : Step) → judge A L s ≡ None → Tells A L (finished A L s) (value A L s)
  granted_tells (lay n) e = tt
  granted_tells (term t) e = tt
  granted_tells close e = tt
  granted_tells (rule x c r) e =
      let a = rule_admitted L A.order x c r e in
      let s = k.shaped a.closed in
      let p = refuse_none (not (allowed L.phase GiveRule)) WrongPhase _ e in
      let on = on_border x _ p.1 in
      let q = refuse_none (not (eqb (length r) (length L.terms))) WrongLength _ on.1 in
      let fit = refuse_at_none (first_place (unfit A.order) (c ∷ r)) CodeOutOfRange _ q.1 in
      let some = refuse_none (eqb c 0) ZeroLeadingCode None fit.1 in
      let codes = all_fit A.order (c ∷ r) fit.0 in
      record {
        kept = kept_row A c r;
        stored = get_or-set_same L.rows (place x (edge L) - 1) (Some (kept_row A c r)) None (omega (arith, s.counted, on.0));
        gives_back = row_back A laws c (⊎_elim (λ h. h) (λ h. absurd (eqb-false c 0 some.0 (omega arith))) (cases_lt 0 c)) codes.0 r codes.1;
      }
  granted_tells (strike x) e =
      let s = k.shaped (strike_admitted L x e) in
      let p = refuse_none (not (allowed L.phase Strike)) WrongPhase _ e in
      let on = on_border x _ p.1 in
      get_or-set_same L.rows (place x (edge L) - 1) None (Some []) (omega (arith, s.counted, on.0))
  granted_tells (check row slots) e = tt
  granted_tells (form p row) e = tt
  granted_tells (cofactor p row slots) e =
      let a = cofactors_admitted L A.order p row slots e in
      subst (FormTells A L p (normal_form (ring A) (system L) p)) (sym (yes_is (all_zero (normal_form (ring A) (system L) p)))) (form_tells a.0 p (over_from L.variables p a.1.inside))
  granted_tells (table i rows) e = tt

  call_tells : (s : Step) → Telling A L (finish A L s) (answer A L s)
  call_tells s = go (judge A L s) refl
    where
      go : (o : Option Refusal) → judge A L s ≡ o → Telling A L (on_grant o (finished A L s) s) (granted o (value A L s))
      go None e = granted_tells s e
      go (Some r) e = tt

run_keeps : (A : Arithmetic) → Lawful A → (b : Bool) (L : Ledger) → Kept A L → b ≡ is_sound L.phase → (ss : List Step) → RunLaw A b L ss (run A L ss)
run_keeps A laws b L k tie [] = tt
run_keeps A laws b L k tie (s ∷ ss) = (
  record { answers = refl; slices = refl; granted_exactly = granted_exactly A b L tie s; meaning = call_meaning A laws L k s },
  run_keeps A laws (stands b s (answer A L s)) (next A L s) (next_kept A L k s) (next_stands A b L tie s) ss,
)

-- every list of calls on a new book
pub run_law : (A : Arithmetic) → Lawful A → (ss : List Step) → RunLaw A false new_ledger ss (run A new_ledger ss)
run_law A laws ss = run_keeps A laws false new_ledger (new_kept A) refl ss

tells_keep : (A : Arithmetic) → Lawful A → (b : Bool) (L : Ledger) → Kept A L → b ≡ is_sound L.phase → (ss : List Step) → RunTells A b L ss (run A L ss)
tells_keep A laws b L k tie [] = tt
tells_keep A laws b L k tie (s ∷ ss) = (
  record { table_granted_exactly = table_granted_exactly A b L tie s; telling = call_tells A laws L k s },
  tells_keep A laws (stands b s (answer A L s)) (next A L s) (next_kept A L k s) (next_stands A b L tie s) ss,
)

pub run_tells : (A : Arithmetic) → Lawful A → (ss : List Step) → RunTells A false new_ledger ss (run A new_ledger ss)
run_tells A laws ss = tells_keep A laws false new_ledger (new_kept A) refl ss
