-- A closed book that lacks no rule is a lawful system, and its stored rows and leads are those of the system. Assumes nothing.
use Rattle.std.proofs.Common.{◌≡◌, ℕ, zero, suc, ◌<◌, ◌≤◌, true, false, eqb, leb, List, [], ◌∷◌, ◌++◌, length, get_or, take, set, Some, None, Option, sym, refl, ap, ◌∙◌, subst, ⊎_elim, arith}
use Rattle.std.proofs.lemmas.List.{length-take-le}
use Rattle.std.proofs.lemmas.Bool.{both_ways, and_parts, leb-true, eqb-true, cond-true, cond-false, or_parts, cases_Bool}
use Rattle.algebra.specs.Walk.{unit}
use Rattle.algebra.proofs.Terms.{same_refl, same_sym, same_true}
use Rattle.algebra.proofs.Borders.{Distinct, connected_distinct, get_or_has}
use Rattle.row.specs.Sums.{zeros_like}
use Rattle.row.specs.Leads.{given_rows}
use Rattle.algebra.specs.Term.{Term, same, has}
use Rattle.algebra.specs.Border.{Row, border, connected, AreRows, LawfulSystem}
use Rattle.row.specs.declared.lead.Lead.{Lead}
use Rattle.term.specs.Search.{first_place}
use Rattle.book.specs.declared.contents.Contents.{Contents}
use Rattle.book.specs.declared.phase.Phase.{Phase}
use Rattle.book.specs.declared.phase.Phase.TheVariants.{Open, Closed, Sound, Clash}
use Rattle.book.proofs.Searching.{next_zero}
use Rattle.book.specs.Judge.{missing}
use Rattle.book.specs.Ledger.{system}
use Rattle.book.specs.Leading.{leads_of}
use Rattle.book.specs.Kept.{terms_of, border_of, kept_rows, rows_of, terms_fit, border_in, led, led_in, complete_in, all_long, kept, ledger, ready, is_closed}
use Rattle.book.proofs.Bridge.{Stored, Led}
use Rattle.book.proofs.Keeping.{facts, column}

-- where no row is missing, the first is there and none of the others is missing
none_missing : (o : Option Row) (os : List (Option Row)) → first_place missing (o ∷ os) ≡ 0 → (missing o ≡ false) × (first_place missing os ≡ 0)
none_missing None os e = absurd (omega arith)
none_missing (Some r) os e = (refl, next_zero _ e)

kept_length : (D : ℕ) (os : List (Option Row)) → length (kept_rows D os) ≡ length os
kept_length D [] = refl
kept_length D (o ∷ os) = ap suc (kept_length D os)

given_length : (os : List (Option Row)) → length (given_rows os) ≡ length os
given_length [] = refl
given_length (o ∷ os) = ap suc (given_length os)

-- where none is missing among the first m, each of them begins with the row that is kept
given_at : (D m : ℕ) (os : List (Option Row)) → m ≤ length os → all_long os ≡ true → first_place missing (kept_rows D (take m os)) ≡ 0 → (k : ℕ) → k < m
    → (length (get_or (given_rows os) k []) ≡ 32) × (get_or (given_rows (kept_rows D (take m os))) k [] ≡ take D (get_or (given_rows os) k []))
given_at D zero os h a e k l = absurd (omega arith)
given_at D (suc m) [] h a e k l = absurd (omega arith)
given_at D (suc m) (None ∷ os) h a e k l = absurd (omega arith)
given_at D (suc m) (Some r ∷ os) h a e zero l = (eqb-true (length r) 32 (and_parts (eqb (length r) 32) (all_long os) a).0, refl)
given_at D (suc m) (Some r ∷ os) h a e (suc k) l =
    given_at D m os (omega arith) (and_parts (eqb (length r) 32) (all_long os) a).1 (none_missing (Some (take D r)) (kept_rows D (take m os)) e).1 k (omega arith)

given_long : (D m : ℕ) (S : List Term) → length S ≡ D → (os : List (Option Row)) → m ≤ length os → all_long os ≡ true → D ≤ 32 → first_place missing (kept_rows D (take m os)) ≡ 0 → AreRows S (given_rows (kept_rows D (take m os)))
given_long D zero S s os h a d e = tt
given_long D (suc m) S s [] h a d e = absurd (omega arith)
given_long D (suc m) S s (None ∷ os) h a d e = absurd (omega arith)
given_long D (suc m) S s (Some r ∷ os) h a d e =
    let p = and_parts (eqb (length r) 32) (all_long os) a in
    let q = eqb-true (length r) 32 p.0 in
    (length-take-le D r (omega arith) ∙ sym s, given_long D m S s os (omega arith) p.1 d (none_missing (Some (take D r)) (kept_rows D (take m os)) e).1)

-- a phase in which the border is laid
pub closed_border : (p : Phase) (n : ℕ) (S : List Term) → is_closed p ≡ true → border_in p n S ≡ border n S
closed_border Open n S h = absurd (both_ways false refl h)
closed_border Closed n S h = refl
closed_border Sound n S h = refl
closed_border Clash n S h = refl

pub closed_led : (p : Phase) (S E : List Term) (n : ℕ) (columns : List (List Lead)) → is_closed p ≡ true → led_in p S E n columns ≡ led S E 0 n columns
closed_led Open S E n columns h = absurd (both_ways false refl h)
closed_led Closed S E n columns h = refl
closed_led Sound S E n columns h = refl
closed_led Clash S E n columns h = refl

pub closed_some : (p : Phase) (S : List Term) (rows : List (Option Row)) → is_closed p ≡ true → complete_in p S rows ≡ true → leb 1 (length S) ≡ true
closed_some Open S rows h c = absurd (both_ways false refl h)
closed_some Closed S rows h c = c
closed_some Sound S rows h c = (and_parts _ _ c).0
closed_some Clash S rows h c = c

pub fit_connected : (n : ℕ) (S : List Term) → 1 ≤ length S → terms_fit n S ≡ true → connected n S ≡ true
fit_connected n [] h f = absurd (omega arith)
fit_connected n (t ∷ ts) h f = f

pub record Ready (k : Contents) : Type 0 where
  pub good : LawfulSystem (system (ledger k))
  pub stored : Stored (system (ledger k)) (given_rows k.rules.rows)
  pub leading : Led (system (ledger k)) k.border.leads.columns
  pub few : length (terms_of k) ≤ 32

pub ready_contents : (k : Contents) → kept k ≡ true → ready k ≡ true → Ready k
ready_contents k h r =
    let f = facts k h in
    let p = and_parts (is_closed k.phase) (eqb (first_place missing (rows_of k)) 0) r in
    let E : border_of k ≡ border k.basis.variables (terms_of k) = f.is_border ∙ closed_border k.phase k.basis.variables (terms_of k) p.0 in
    let some = leb-true 1 (length (terms_of k)) (closed_some k.phase (terms_of k) (rows_of k) p.0 f.is_complete) in
    let D = length (terms_of k) in
    let m = length (border_of k) in
    let small = f.small_border in
    let few = f.few_terms in
    let fits : m ≤ length k.rules.rows = omega (arith, f.rows_long) in
    let nothing = eqb-true (first_place missing (rows_of k)) 0 p.1 in
    let long : length (border k.basis.variables (terms_of k)) ≡ m = ap (λ (ts : List Term). length ts) (sym E) in
    record {
      good = record {
        few_variables = f.few_variables;
        is_connected = fit_connected k.basis.variables (terms_of k) some f.fit;
        all_rules = given_length (rows_of k) ∙ kept_length D (take m k.rules.rows) ∙ length-take-le m k.rules.rows fits ∙ sym long;
        are_rows = given_long D m (terms_of k) refl k.rules.rows fits f.long_rows few nothing;
      };
      stored = λ j l.
          let r = given_at D m k.rules.rows fits f.long_rows nothing j (omega (arith, l, long)) in
          (omega (arith, r.0, few), r.1);
      leading = λ i l.
          let c = column (terms_of k) (border_of k) k.basis.variables k.border.leads.columns (sym (closed_led k.phase (terms_of k) (border_of k) k.basis.variables k.border.leads.columns p.0) ∙ f.is_led) i l in
          (c.0, c.1 ∙ ap (λ (e : List Term). leads_of (terms_of k) e i (terms_of k) ++ c.0) E);
      few = few;
    }

-- the row with 1 at a place is the row of the term there
zeros_set : (v : Row) (ts : List Term) (j : ℕ) → Distinct ts → length v ≡ length ts → j < length ts → set (zeros_like v) j 1 ≡ unit ts (get_or ts j [])
zeros_set v [] j d l h = absurd (omega arith)
zeros_set [] (t ∷ ts) j d l h = absurd (omega arith)
zeros_set (a ∷ v) (t ∷ ts) zero d l h = λ i. sym (cond-true _ 1 0 (same_refl t)) i ∷ rest v ts t (omega arith) d.0 i
  where
    rest : (v : Row) (us : List Term) (e : Term) → length v ≡ length us → has e us ≡ false → zeros_like v ≡ unit us e
    rest [] [] e q n = refl
    rest [] (u ∷ us) e q n = absurd (omega arith)
    rest (b ∷ w) [] e q n = absurd (omega arith)
    rest (b ∷ w) (u ∷ us) e q n = let p = or_parts (same e u) (has e us) n in λ i. sym (cond-false _ 1 0 (same_sym e u p.0)) i ∷ rest w us e (omega arith) p.1 i
zeros_set (a ∷ v) (t ∷ ts) (suc j) d l h =
    let other : same t (get_or ts j []) ≡ false =
    ⊎_elim (λ e. absurd (both_ways _ d.0 (subst (λ (s : Term). has s ts ≡ true) (sym (same_true t (get_or ts j []) e)) (get_or_has ts j (omega arith))))) (λ e. e) (cases_Bool (same t (get_or ts j []))) in
    λ i. sym (cond-false _ 1 0 other) i ∷ zeros_set v ts j d.1 (omega arith) (omega arith) i

pub unit_at : (k : Contents) → kept k ≡ true → ready k ≡ true → (v : Row) (j : ℕ) → length v ≡ length (terms_of k) → j < length (terms_of k) → set (zeros_like v) j 1 ≡ unit (terms_of k) (get_or (terms_of k) j [])
unit_at k h r v j l less =
    let a = ready_contents k h r in
    zeros_set v (terms_of k) j (connected_distinct k.basis.variables (terms_of k) a.good.is_connected) l less
