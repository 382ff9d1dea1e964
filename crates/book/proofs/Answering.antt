-- The granted paths of check, form, cofactors and table. Assumes nothing.
use Rattle.std.proofs.Common.{◌≡◌, ℕ, ◌+◌, ◌-◌, ◌*◌, ◌<◌, ◌≤◌, Bool, true, List, length, take, Some, None, Ok, Option, Result, sym, refl, ap, ◌∙◌, subst, arith}
use Rattle.field.specs.Arithmetic.{Arithmetic, Ring, ring, CommutativeRing}
use Rattle.algebra.specs.Polynomial.{Polynomial, Over}
use Rattle.algebra.specs.Border.{Row}
use Rattle.algebra.specs.Walk.{normal_form, cofactors, all_zero}
use Rattle.algebra.specs.Clash.{first_clash}
use Rattle.algebra.specs.declared.Clash.{Clash}
use Rattle.algebra.specs.declared.Entry.{Entry}
use Rattle.algebra.proofs.Clashes.{first_clash_is}
use Rattle.row.specs.Listing.{Listed, listed_all}
use Rattle.row.proofs.Listing.{listed_whole}
use Rattle.book.specs.declared.contents.Contents.{Contents}
use Rattle.book.specs.Judge.{judge_check, judge_form, judge_cofactors, judge_table, granted, on_grant}
use Rattle.book.specs.Ledger.{system}
use Rattle.algebra.specs.Walk.{zeros}
use Rattle.row.specs.Sums.{zeros_like}
use Rattle.book.specs.declared.refusal.Refusal.{Refusal}
use Rattle.book.specs.declared.verdict.Verdict.{Verdict}
use Rattle.book.specs.Effects.{written, yes_no, phase_of, checked, verdict, clash_row, clash_entries}
use Rattle.book.specs.Promise.{Accounts, VerdictMeans}
use Rattle.book.specs.Kept.{kept, ledger, ready, terms_of, rows_of, is_closed}
use Rattle.book.proofs.Bridge.{zeros_like_is}
use Rattle.book.proofs.Granting.{granted_now}
use Rattle.book.proofs.Ruling.{in_phase, phase_kept}
use Rattle.book.proofs.Ready.{ready_contents}
use Rattle.book.proofs.Admitting.{check_admitted, check_ready, form_admitted, cofactors_admitted, table_admitted, sound_ready}
use Rattle.book.proofs.Meaning.{over_from, cofactors_few, cofactors_mean, verdict_means}

-- what a granted form knows
pub record SoundCall (k : Contents) (p : Polynomial) (row : Row) : Type 0 where
  pub is_ready : ready k ≡ true
  pub over : Over k.basis.variables p
  pub long : length row ≡ length (terms_of k)

module _ (k : Contents) (h : kept k ≡ true) where
  pub form_call : (q : ℕ) (p : Polynomial) (row : Row) → judge_form q (ledger k) p row ≡ None → SoundCall k p row
  form_call q p row e =
      let a = form_admitted (ledger k) q p row e in
      record { is_ready = sound_ready k h a.0; over = over_from k.basis.variables p a.1.inside; long = a.1.long }

  pub cofactors_call : (q : ℕ) (p : Polynomial) (row : Row) (slots : List Entry) → judge_cofactors q (ledger k) p row slots ≡ None → SoundCall k p row
  cofactors_call q p row slots e =
      let a = cofactors_admitted (ledger k) q p row slots e in
      record { is_ready = sound_ready k h a.0; over = over_from k.basis.variables p a.1.inside; long = a.1.long }

  -- the slots hold every cofactor
  pub cofactors_written : (R : Ring) (q : ℕ) (p : Polynomial) (row : Row) (slots after : List Entry) (n : ℕ) → judge_cofactors q (ledger k) p row slots ≡ None → ◌≡◌ {A = Listed} (record { slots = after; count = n }) (listed_all (record { slots = slots; count = 0 }) (cofactors R (system (ledger k)) p)) → (after ≡ written (cofactors R (system (ledger k)) p) slots) × (n ≡ length (cofactors R (system (ledger k)) p))
  cofactors_written R q p row slots after n e is =
      let a = cofactors_admitted (ledger k) q p row slots e in
      let all = is ∙ listed_whole slots (cofactors R (system (ledger k)) p) (omega (arith, a.2, cofactors_few R (system (ledger k)) p)) in
      (ap (λ (l : Listed). l.slots) all, ap (λ (l : Listed). l.count) all)

  pub record TableCall (i : ℕ) (t : Row) : Type 0 where
    pub is_ready : ready k ≡ true
    pub long : length t ≡ length (terms_of k) * length (terms_of k)
    pub low : 1 ≤ i
    pub variable : i - 1 < k.basis.variables

  pub table_call : (i : ℕ) (t : Row) → judge_table (ledger k) i t ≡ None → TableCall i t
  table_call i t e =
      let a = table_admitted (ledger k) i t e in
      record { is_ready = sound_ready k h a.0; long = a.1; low = a.2; variable = omega (arith, a.2, a.3) }

  pub record CheckCall (row : Row) (slots : List Entry) : Type 0 where
    pub is_ready : ready k ≡ true
    pub long : length row ≡ length (terms_of k)
    pub room : 2 * length (terms_of k) + 2 ≤ length slots

  pub check_call : (row : Row) (slots : List Entry) → judge_check (ledger k) row slots ≡ None → CheckCall row slots
  check_call row slots e =
      let a = check_admitted (ledger k) row slots e in
      record { is_ready = check_ready k row slots e; long = a.long; room = a.room }

  -- a clash is at a term of S for two variables of the book
  pub clash_within : (R : Ring) (x : Clash) → Some x ≡ first_clash R (system (ledger k)) → (x.term < length (terms_of k)) × (x.a < k.basis.variables) × (x.b < k.basis.variables)
  clash_within R x e =
      let c = first_clash_is R (system (ledger k)) x (sym e) in
      let p = c.ordered in
      let q = c.variable in
      let w = c.within in
      (omega (arith, w), omega (arith, p, q), q)

-- a granted call of cofactors: what it answers and leaves
module _ (A : Arithmetic) (laws : CommutativeRing (ring A)) (k : Contents) (h : kept k ≡ true) (p : Polynomial) (row : Row) (slots : List Entry) (e : judge_cofactors A.order (ledger k) p row slots ≡ None) (row' : Row) (slots' : List Entry) (n : ℕ) (formed : row' ≡ normal_form (ring A) (system (ledger k)) p) (listed : ◌≡◌ {A = Listed} (record { slots = slots'; count = n }) (listed_all (record { slots = slots; count = 0 }) (cofactors (ring A) (system (ledger k)) p))) where
  pub cofactors_slots : slots' ≡ on_grant (judge_cofactors A.order (ledger k) p row slots) (written (cofactors (ring A) (system (ledger k)) p) slots) slots
  cofactors_slots = (cofactors_written k h (ring A) A.order p row slots slots' n e listed).0 ∙ granted_now _ e _ slots

  pub cofactors_row : row' ≡ on_grant (judge_cofactors A.order (ledger k) p row slots) (normal_form (ring A) (system (ledger k)) p) row
  cofactors_row = formed ∙ granted_now _ e _ row

  pub cofactors_answer : (said : Bool) → all_zero row' ≡ said → ◌≡◌ {A = Result (ℕ × ℕ) Refusal} (Ok (n, yes_no said)) (granted (judge_cofactors A.order (ledger k) p row slots) (length (cofactors (ring A) (system (ledger k)) p), yes_no (all_zero (normal_form (ring A) (system (ledger k)) p))))
  cofactors_answer said is =
      let count = (cofactors_written k h (ring A) A.order p row slots slots' n e listed).1 in
      let yes_is : said ≡ all_zero (normal_form (ring A) (system (ledger k)) p) = sym is ∙ ap all_zero formed in
      (λ i. Ok (count i, yes_no (yes_is i))) ∙ ap (λ (o : Option Refusal). granted o (length (cofactors (ring A) (system (ledger k)) p), yes_no (all_zero (normal_form (ring A) (system (ledger k)) p)))) (sym e)

  pub cofactors_meaning : Accounts (ring A) (system (ledger k)) p row' (take n slots')
  cofactors_meaning =
      let a = cofactors_call k h A.order p row slots e in
      let w = cofactors_written k h (ring A) A.order p row slots slots' n e listed in
      let good = (ready_contents k h a.is_ready).good in
      subst (λ (v : Row). Accounts (ring A) (system (ledger k)) p v (take n slots')) (sym formed)
      (subst (λ (es : List Entry). Accounts (ring A) (system (ledger k)) p (normal_form (ring A) (system (ledger k)) p) es) (λ i. take (sym w.1 i) (sym w.0 i)) (cofactors_mean laws (system (ledger k)) good p a.over slots))

-- a check leaves the border laid
pub closed_after : (o : Option Clash) → is_closed (phase_of o) ≡ true
closed_after None = refl
closed_after (Some x) = refl

-- a granted check, by the clash that was found or none
module _ (A : Arithmetic) (laws : CommutativeRing (ring A)) (k : Contents) (h : kept k ≡ true) (row : Row) (slots : List Entry) (e : judge_check (ledger k) row slots ≡ None) (o : Option Clash) (found : o ≡ first_clash (ring A) (system (ledger k))) where
  pub check_kept : kept (in_phase k (phase_of o)) ≡ true
  check_kept =
      let a = check_admitted (ledger k) row slots e in
      phase_kept k (phase_of o) h a.closed (closed_after o) a.complete

  pub check_after : ledger (in_phase k (phase_of o)) ≡ on_grant (judge_check (ledger k) row slots) (checked (ring A) (ledger k)) (ledger k)
  check_after = (λ i. record { variables = k.basis.variables; terms = terms_of k; phase = phase_of (found i); rows = rows_of k }) ∙ granted_now _ e _ (ledger k)

  pub check_answer : (v : Verdict) → v ≡ verdict (ring A) (system (ledger k)) o → ◌≡◌ {A = Result Verdict Refusal} (Ok v) (granted (judge_check (ledger k) row slots) (verdict (ring A) (system (ledger k)) (first_clash (ring A) (system (ledger k)))))
  check_answer v is =
      ap Ok (is ∙ ap (verdict (ring A) (system (ledger k))) found)
      ∙ ap (λ (x : Option Refusal). granted x (verdict (ring A) (system (ledger k)) (first_clash (ring A) (system (ledger k))))) (sym e)

  pub check_row : (row' : Row) → row' ≡ clash_row (ring A) (system (ledger k)) o → row' ≡ on_grant (judge_check (ledger k) row slots) (clash_row (ring A) (system (ledger k)) (first_clash (ring A) (system (ledger k)))) row
  check_row row' is = is ∙ ap (clash_row (ring A) (system (ledger k))) found ∙ granted_now _ e _ row

  pub check_slots : (slots' : List Entry) → slots' ≡ written (clash_entries (ring A) (system (ledger k)) o) slots → slots' ≡ on_grant (judge_check (ledger k) row slots) (written (clash_entries (ring A) (system (ledger k)) (first_clash (ring A) (system (ledger k)))) slots) slots
  check_slots slots' is = is ∙ ap (λ (x : Option Clash). written (clash_entries (ring A) (system (ledger k)) x) slots) found ∙ granted_now _ e _ slots

  pub check_meaning : (v : Verdict) (row' : Row) (slots' : List Entry) → v ≡ verdict (ring A) (system (ledger k)) o → row' ≡ clash_row (ring A) (system (ledger k)) o → slots' ≡ written (clash_entries (ring A) (system (ledger k)) o) slots → VerdictMeans (ring A) (system (ledger k)) v row' slots'
  check_meaning v row' slots' iv ir is =
      let good = (ready_contents k h (check_ready k row slots e)).good in
      let m = verdict_means laws (system (ledger k)) good o (sym found) slots in
      subst (λ (x : Verdict). VerdictMeans (ring A) (system (ledger k)) x row' slots') (sym iv)
      (subst (λ (x : Row). VerdictMeans (ring A) (system (ledger k)) (verdict (ring A) (system (ledger k)) o) x slots') (sym ir)
      (subst (VerdictMeans (ring A) (system (ledger k)) (verdict (ring A) (system (ledger k)) o) (clash_row (ring A) (system (ledger k)) o)) (sym is) m))

-- the row of a check without a clash
pub cleared_row : (k : Contents) → kept k ≡ true → (row : Row) → length row ≡ length (terms_of k) → zeros_like row ≡ zeros (terms_of k)
cleared_row k h row l = zeros_like_is row (terms_of k) l
