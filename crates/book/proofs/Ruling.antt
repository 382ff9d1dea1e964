-- Giving and striking a rule, and the verdict of a check, on kept contents. Assumes nothing.
use Rattle.std.proofs.Common.{◌≡◌, ℕ, zero, suc, ◌-◌, ◌<◌, Bool, true, false, eqb, leb, List, [], ◌∷◌, length, take, set, Some, None, Option, sym, refl, ap, ◌∙◌, arith}
use Rattle.std.specs.Option.{option_map}
use Rattle.std.proofs.lemmas.List.{length-set}
use Rattle.std.proofs.lemmas.Bool.{both_ways, and_parts, and_from, eq-eqb}
use Rattle.algebra.specs.Term.{Term, place}
use Rattle.algebra.specs.Border.{Row}
use Rattle.term.specs.Search.{first_place}
use Rattle.book.specs.declared.contents.Contents.{Contents}
use Rattle.book.specs.declared.phase.Phase.{Phase}
use Rattle.book.specs.declared.phase.Phase.TheVariants.{Open, Closed, Sound, Clash}
use Rattle.book.specs.Judge.{missing}
use Rattle.book.specs.Ledger.{edge}
use Rattle.book.specs.Effects.{with_row}
use Rattle.book.specs.Kept.{terms_of, border_of, kept_rows, rows_of, complete_in, all_long, kept, ledger, is_closed}
use Rattle.book.proofs.Keeping.{facts, keep}
use Rattle.book.proofs.Ready.{closed_border, closed_led, closed_some}

-- a row, or none, written at a place
abbrev pub rewritten : Contents → ℕ → Option Row → Contents
rewritten k p o = record {
  phase = Closed;
  basis = k.basis;
  border = k.border;
  rules = record { rows = set k.rules.rows p o };
}

-- writing at one place changes the kept row there alone
kept_rows_set : (D : ℕ) (m p : ℕ) (os : List (Option Row)) (o : Option Row) → p < m → p < length os → kept_rows D (take m (set os p o)) ≡ set (kept_rows D (take m os)) p (option_map (take D) o)
kept_rows_set D zero p os o h i = absurd (omega arith)
kept_rows_set D (suc m) p [] o h i = absurd (omega arith)
kept_rows_set D (suc m) zero (x ∷ os) o h i = refl
kept_rows_set D (suc m) (suc p) (x ∷ os) o h i = ap (λ (rest : List (Option Row)). option_map (take D) x ∷ rest) (kept_rows_set D m p os o (omega arith) (omega arith))

-- no row, or one of 32 codes
abbrev pub is_long : Option Row → Bool
is_long None = true
is_long (Some r) = eqb (length r) 32

all_long_set : (os : List (Option Row)) (p : ℕ) (o : Option Row) → all_long os ≡ true → is_long o ≡ true → all_long (set os p o) ≡ true
all_long_set [] p o h l = refl
all_long_set (None ∷ os) zero None h l = h
all_long_set (None ∷ os) zero (Some r) h l = and_from _ _ l h
all_long_set (Some x ∷ os) zero None h l = (and_parts (eqb (length x) 32) _ h).1
all_long_set (Some x ∷ os) zero (Some r) h l = and_from _ _ l (and_parts (eqb (length x) 32) _ h).1
all_long_set (None ∷ os) (suc p) o h l = all_long_set os p o h l
all_long_set (Some x ∷ os) (suc p) o h l = let q = and_parts (eqb (length x) 32) (all_long os) h in and_from _ _ q.0 (all_long_set os p o q.1 l)

pub record Rewritten (k : Contents) (p : ℕ) (o kept_o : Option Row) (e : Term) : Type 0 where
  pub still_kept : kept (rewritten k p o) ≡ true
  pub is_ledger : ledger (rewritten k p o) ≡ with_row (ledger k) e kept_o

-- closed contents with another row at a border place are kept
pub rewritten_kept : (k : Contents) (e : Term) (p : ℕ) → kept k ≡ true → is_closed k.phase ≡ true → place e (edge (ledger k)) - 1 ≡ p → p < length (border_of k)
    → (o kept_o : Option Row) → is_long o ≡ true → option_map (take (length (terms_of k))) o ≡ kept_o → Rewritten k p o kept_o e
rewritten_kept k e p h c at within o kept_o long is =
    let f = facts k h in
    let n = k.basis.variables in
    let small = f.small_border in
    record {
      still_kept =
          keep (rewritten k p o) (record {
            some_variable = f.some_variable;
            few_variables = f.few_variables;
            few_terms = f.few_terms;
            small_border = f.small_border;
            fit = f.fit;
            is_border = f.is_border ∙ closed_border k.phase n (terms_of k) c;
            is_led = sym (closed_led k.phase (terms_of k) (border_of k) n k.border.leads.columns c) ∙ f.is_led;
            is_complete = closed_some k.phase (terms_of k) (rows_of k) c f.is_complete;
            long_rows = all_long_set k.rules.rows p o f.long_rows long;
            rows_long = length-set k.rules.rows p o ∙ f.rows_long;
          });
      is_ledger = λ i. record {
        variables = n;
        terms = terms_of k;
        phase = Closed;
        rows = (kept_rows_set (length (terms_of k)) (length (border_of k)) p k.rules.rows o within (omega (arith, f.rows_long))
            ∙ (λ j. set (rows_of k) (sym at j) (is j))) i;
      };
    }

-- contents with another phase
abbrev pub in_phase : Contents → Phase → Contents
in_phase k p = record { phase = p; basis = k.basis; border = k.border; rules = k.rules }

complete_now : (p : Phase) (S : List Term) (rows : List (Option Row)) → is_closed p ≡ true → leb 1 (length S) ≡ true → first_place missing rows ≡ 0 → complete_in p S rows ≡ true
complete_now Open S rows c s z = absurd (both_ways false refl c)
complete_now Closed S rows c s z = s
complete_now Sound S rows c s z = and_from _ _ s (eq-eqb _ 0 z)
complete_now Clash S rows c s z = s

pub phase_kept : (k : Contents) (p : Phase) → kept k ≡ true → is_closed k.phase ≡ true → is_closed p ≡ true → first_place missing (rows_of k) ≡ 0 → kept (in_phase k p) ≡ true
phase_kept k p h c d z =
    let f = facts k h in
    let n = k.basis.variables in
    keep (in_phase k p) (record {
      some_variable = f.some_variable;
      few_variables = f.few_variables;
      few_terms = f.few_terms;
      small_border = f.small_border;
      fit = f.fit;
      is_border = f.is_border ∙ closed_border k.phase n (terms_of k) c ∙ sym (closed_border p n (terms_of k) d);
      is_led = closed_led p (terms_of k) (border_of k) n k.border.leads.columns d ∙ sym (closed_led k.phase (terms_of k) (border_of k) n k.border.leads.columns c) ∙ f.is_led;
      is_complete = complete_now p (terms_of k) (rows_of k) d (closed_some k.phase (terms_of k) (rows_of k) c f.is_complete) z;
      long_rows = f.long_rows;
      rows_long = f.rows_long;
    })
