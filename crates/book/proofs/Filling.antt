-- Adding a term to kept contents. Assumes nothing.
use Rattle.std.proofs.Common.{◌≡◌, ℕ, ◌<◌, ◌≤◌, true, false, not, eqb, List, [], ◌∷◌, ◌++◌, length, take, None, Option, sym, refl, ap, ◌∙◌, ⊎_elim, arith, length-append}
use Rattle.std.proofs.lemmas.Bool.{both_ways, eqb-false, cases_lt}
use Rattle.algebra.specs.Term.{Term, has, zero_past}
use Rattle.algebra.specs.Border.{Row}
use Rattle.book.specs.declared.refusal.Refusal.TheVariants.{ExponentPastVariables, TermPresent, TermNotJoined, TooManyTerms}
use Rattle.book.specs.declared.contents.Contents.{Contents}
use Rattle.book.specs.declared.phase.Phase.{Phase}
use Rattle.book.specs.declared.phase.Phase.TheVariants.{Open, Closed, Sound, Clash}
use Rattle.book.specs.declared.phase.Event.TheVariants.{AddTerm}
use Rattle.book.specs.Phases.{allowed}
use Rattle.book.specs.Judge.{judge_new, judge_term, joins}
use Rattle.book.specs.Effects.{with_term}
use Rattle.book.specs.Kept.{terms_of, border_of, rows_of, kept_rows, border_in, led_in, complete_in, kept, ledger}
use Rattle.book.proofs.Adding.{fit_more}
use Rattle.book.proofs.Granting.{refuse_none, not_false_true}
use Rattle.book.proofs.Keeping.{Facts, facts, keep}

-- contents with one term more
abbrev pub pushed : Contents → Term → Contents
pushed k t = record {
  phase = k.phase;
  basis = record { variables = k.basis.variables; terms = k.basis.terms ++ t ∷ [] };
  border = k.border;
  rules = k.rules;
}

-- only an open book takes terms
pub open_for_terms : (p : Phase) → allowed p AddTerm ≡ true → p ≡ Open
open_for_terms Open h = refl
open_for_terms Closed h = absurd (both_ways false refl h)
open_for_terms Sound h = absurd (both_ways false refl h)
open_for_terms Clash h = absurd (both_ways false refl h)

-- an open book has no border
open_border : (k : Contents) → Facts k → k.phase ≡ Open → border_of k ≡ []
open_border k f o = f.is_border ∙ ap (λ (p : Phase). border_in p k.basis.variables (terms_of k)) o

pub record Pushed (k : Contents) (t : Term) : Type 0 where
  pub still_kept : kept (pushed k t) ≡ true
  pub is_ledger : ledger (pushed k t) ≡ with_term (ledger k) t

pub pushed_kept : (k : Contents) (t : Term) → kept k ≡ true → judge_term (ledger k) t ≡ None → Pushed k t
pushed_kept k t h e =
    let f = facts k h in
    let n = k.basis.variables in
    let S = terms_of k in
    let p : (not (allowed k.phase AddTerm) ≡ false) × (judge_new n S t ≡ None) = refuse_none (not (allowed k.phase AddTerm)) _ _ e in
    let o = open_for_terms k.phase (not_false_true _ p.0) in
    let q = refuse_none (not (zero_past n t)) (ExponentPastVariables 1) _ p.1 in
    let new = refuse_none (has t S) TermPresent _ q.1 in
    let join = refuse_none (not (joins n S t)) TermNotJoined _ new.1 in
    let room = refuse_none (eqb (length S) 32) TooManyTerms None join.1 in
    let few = f.few_terms in
    let less : length S < 32 = below (length S) few (eqb-false (length S) 32 room.0) in
    let rows : rows_of (pushed k t) ≡ rows_of k = empty_rows (length (S ++ t ∷ [])) (length S) (border_of k) k.rules.rows (open_border k f o) in
    record {
      still_kept =
          keep (pushed k t) (record {
            some_variable = f.some_variable;
            few_variables = f.few_variables;
            few_terms = omega (arith, less, length-append S (t ∷ []));
            small_border = f.small_border;
            fit = fit_more n S t f.fit new.0 (not_false_true (joins n S t) join.0);
            is_border = f.is_border ∙ (λ i. border_in (o i) n S) ∙ (λ i. border_in (sym o i) n (terms_of (pushed k t)));
            is_led = ap (λ (x : Phase). led_in x (terms_of (pushed k t)) (border_of k) n k.border.leads.columns) o;
            is_complete = ap (λ (x : Phase). complete_in x (terms_of (pushed k t)) (rows_of (pushed k t))) o;
            long_rows = f.long_rows;
            rows_long = f.rows_long;
          });
      is_ledger = λ i. record { variables = n; terms = S ++ t ∷ []; phase = k.phase; rows = rows i };
    }
  where
    below : (m : ℕ) → m ≤ 32 → (m ≡ 32 → ⊥) → m < 32
    below m h ne = ⊎_elim (λ l. l) (λ l. absurd (ne (omega arith))) (cases_lt m 32)

    empty_rows : (D D' : ℕ) (E : List Term) (rows : List (Option Row)) → E ≡ [] → kept_rows D (take (length E) rows) ≡ kept_rows D' (take (length E) rows)
    empty_rows D D' E rows z =
        ap (λ (F : List Term). kept_rows D (take (length F) rows)) z ∙ sym (ap (λ (F : List Term). kept_rows D' (take (length F) rows)) z)

-- contents emptied and opened with n variables
abbrev pub cleared : Contents → ℕ → Contents
cleared k n = record {
  phase = Open;
  basis = record { variables = n; terms = [] };
  border = record { terms = []; leads = k.border.leads };
  rules = k.rules;
}

pub cleared_kept : (k : Contents) (n : ℕ) → kept k ≡ true → 1 ≤ n → n ≤ 8 → kept (cleared k n) ≡ true
cleared_kept k n h low high =
    let f = facts k h in
    keep (cleared k n) (record {
      some_variable = low;
      few_variables = high;
      few_terms = omega arith;
      small_border = omega arith;
      fit = refl;
      is_border = refl;
      is_led = refl;
      is_complete = refl;
      long_rows = f.long_rows;
      rows_long = f.rows_long;
    })
