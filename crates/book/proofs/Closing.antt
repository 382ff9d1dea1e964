-- Closing kept contents. Assumes nothing.
use Rattle.std.proofs.Common.{◌≡◌, ℕ, zero, suc, ◌≤◌, Bool, true, false, not, eqb, List, [], ◌∷◌, ◌++◌, map, length, take, drop, replicate, Some, None, Ok, Option, Result, sym, refl, ap, ◌∙◌, arith}
use Rattle.std.proofs.lemmas.Bool.{eqb-false, le-leb, and_parts}
use Rattle.algebra.specs.Term.{Term}
use Rattle.algebra.specs.Border.{Row, connected, border}
use Rattle.book.specs.declared.contents.Border.{Border}
use Rattle.book.specs.declared.contents.Contents.{Contents}
use Rattle.book.specs.declared.contents.Rules.{Rules}
use Rattle.book.specs.declared.phase.Phase.TheVariants.{Closed}
use Rattle.book.specs.declared.phase.Event.TheVariants.{Close}
use Rattle.book.specs.declared.refusal.Refusal.{Refusal}
use Rattle.book.specs.declared.refusal.Refusal.TheVariants.{WrongPhase, NoTerms}
use Rattle.book.specs.Phases.{allowed}
use Rattle.book.specs.Judge.{refuse, refuse_phase, judge_close, granted}
use Rattle.book.specs.Effects.{closed}
use Rattle.book.specs.Kept.{terms_of, kept_rows, rows_of, led, all_long, kept, ledger}
use Rattle.book.proofs.Granting.{none_from, refuse_none}
use Rattle.book.proofs.Keeping.{facts, keep}
use Rattle.book.proofs.Ready.{fit_connected}

-- contents that are closed with a border and rules
abbrev pub shut : Contents → Border → Rules → Contents
shut k b r = record {
  phase = Closed;
  basis = k.basis;
  border = b;
  rules = r;
}

-- a close is granted in its phase where there are terms
pub close_granted : (k : Contents) (ts : List Term) (v : Unit {0}) → ◌≡◌ {A = Result (Unit {0}) Refusal} (Ok v) (granted (refuse_phase (ledger k) Close None) tt) → ts ≡ terms_of k → false ≡ eqb (length ts) 0 → ◌≡◌ {A = Result (Unit {0}) Refusal} (Ok tt) (granted (judge_close (ledger k)) tt)
close_granted k ts v e is some =
    let none : eqb (length (terms_of k)) 0 ≡ false = ap (λ (us : List Term). eqb (length us) 0) (sym is) ∙ sym some in
    let judged : judge_close (ledger k) ≡ None =
    ap (λ (b : Bool). refuse_phase (ledger k) Close (refuse b NoTerms None)) none ∙ none_from (refuse_phase (ledger k) Close None) tt v (sym e) in
    ap (λ (o : Option Refusal). granted o tt) (sym judged)

pub close_judged : (k : Contents) (v : Unit {0}) → ◌≡◌ {A = Result (Unit {0}) Refusal} (Ok v) (granted (judge_close (ledger k)) tt) → judge_close (ledger k) ≡ None
close_judged k v e = none_from (judge_close (ledger k)) tt v (sym e)

-- what a granted close says
some_terms : (k : Contents) → judge_close (ledger k) ≡ None → length (terms_of k) ≡ 0 → ⊥
some_terms k e =
    let p = refuse_none (not (allowed k.phase Close)) WrongPhase _ e in
    let q = refuse_none (eqb (length (terms_of k)) 0) NoTerms None p.1 in
    eqb-false (length (terms_of k)) 0 q.0

at_least_one : (m : ℕ) → (m ≡ 0 → ⊥) → 1 ≤ m
at_least_one zero ne = absurd (ne refl)
at_least_one (suc m) ne = omega arith

pub close_connected : (k : Contents) → kept k ≡ true → judge_close (ledger k) ≡ None → connected k.basis.variables (terms_of k) ≡ true
close_connected k h e = fit_connected k.basis.variables (terms_of k) (at_least_one (length (terms_of k)) (some_terms k e)) (facts k h).fit

-- no term of a list has a rule
no_rows : (D : ℕ) (es : List Term) → kept_rows D (replicate (length es) None) ≡ map (λ (_ : Term). None) es
no_rows D [] = refl
no_rows D (e ∷ es) = ap (λ (os : List (Option Row)). None ∷ os) (no_rows D es)

-- rows of which the first m are struck
first_struck : (m : ℕ) (os : List (Option Row)) → take m (replicate m None ++ os) ≡ replicate m None
first_struck zero os = refl
first_struck (suc m) os = ap (λ (xs : List (Option Row)). None ∷ xs) (first_struck m os)

all_long_past : (m : ℕ) (os : List (Option Row)) → all_long os ≡ true → all_long (drop m os) ≡ true
all_long_past zero os h = h
all_long_past (suc m) [] h = refl
all_long_past (suc m) (None ∷ os) h = all_long_past m os h
all_long_past (suc m) (Some r ∷ os) h = all_long_past m os (and_parts (eqb (length r) 32) (all_long os) h).1

all_long_struck : (m : ℕ) (os : List (Option Row)) → all_long os ≡ true → all_long (replicate m None ++ os) ≡ true
all_long_struck zero os h = h
all_long_struck (suc m) os h = all_long_struck m os h

length_struck : (m : ℕ) (os : List (Option Row)) → m ≤ length os → length (replicate m None ++ drop m os) ≡ length os
length_struck zero os l = refl
length_struck (suc m) [] l = absurd (omega arith)
length_struck (suc m) (o ∷ os) l = ap suc (length_struck m os (omega arith))

pub record Shut (k : Contents) (b : Border) (r : Rules) : Type 0 where
  pub still_kept : kept (shut k b r) ≡ true
  pub is_ledger : ledger (shut k b r) ≡ closed (ledger k)

module _ (k : Contents) (b : Border) (r : Rules) (h : kept k ≡ true) (e : judge_close (ledger k) ≡ None) where
  -- with the border that was laid, its leads, and no rule
  pub shut_kept : b.terms ≡ border k.basis.variables (terms_of k) → length b.terms ≤ 256 → led (terms_of k) b.terms 0 k.basis.variables b.leads.columns ≡ true → r.rows ≡ replicate (length b.terms) None ++ drop (length b.terms) k.rules.rows → Shut k b r
  shut_kept is small leads none =
      let f = facts k h in
      let n = k.basis.variables in
      let S = terms_of k in
      let m = length b.terms in
      let rows : rows_of (shut k b r) ≡ map (λ (_ : Term). None) (border n S) =
      ap (λ (os : List (Option Row)). kept_rows (length S) (take m os)) none ∙ ap (kept_rows (length S)) (first_struck m (drop m k.rules.rows))
      ∙ no_rows (length S) b.terms ∙ ap (map (λ (_ : Term). None)) is in
      record {
        still_kept =
            keep (shut k b r) (record {
              some_variable = f.some_variable;
              few_variables = f.few_variables;
              few_terms = f.few_terms;
              small_border = small;
              fit = f.fit;
              is_border = is;
              is_led = leads;
              is_complete = le-leb 1 (length S) (at_least_one (length S) (some_terms k e));
              long_rows = ap all_long none ∙ all_long_struck m (drop m k.rules.rows) (all_long_past m k.rules.rows f.long_rows);
              rows_long = ap (λ (os : List (Option Row)). length os) none ∙ length_struck m k.rules.rows (omega (arith, f.rows_long)) ∙ f.rows_long;
            });
        is_ledger = λ i. record { variables = n; terms = S; phase = Closed; rows = rows i };
      }
