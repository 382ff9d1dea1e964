-- The lines of a sheet tell what they should, record after record. Assumes nothing.
use Rattle.std.proofs.Common.{◌≡◌, ℕ, ◌+◌, ◌-◌, T, eqb, ◌⊎◌, List, [], ◌∷◌, length, get_or, take, drop, Some, None, Ok, Err, Option, Result, sym, refl, subst, inl, inr, arith}
use Rattle.std.proofs.lemmas.List.{take_at}
use Rattle.std.proofs.lemmas.Bool.{both_ways}
use Rattle.field.specs.Arithmetic.{Arithmetic, Lawful, ring}
use Rattle.field.specs.Supplied.{among, primes, modulo, binary_sizes, binary}
use Rattle.field.specs.Listed.{prime_lawful, binary_lawful}
use Rattle.algebra.specs.Border.{Row}
use Rattle.algebra.specs.Walk.{normal_form, cofactors, all_zero}
use Rattle.algebra.specs.Clash.{commutator, first_clash}
use Rattle.algebra.specs.declared.Clash.{Clash}
use Rattle.algebra.specs.declared.Entry.{Entry}
use Rattle.book.specs.declared.refusal.Refusal.{Refusal}
use Rattle.book.specs.Judge.{judge_lay, granted, on_grant}
use Rattle.book.specs.Ledger.{Ledger, new_ledger, system}
use Rattle.book.specs.Effects.{laid, verdict, clash_row, clash_entries, written, yes_no}
use Rattle.book.specs.Promise.{Accounted, Accounts, VerdictMeans}
use Rattle.run.specs.Calls.{Step, lay, term, close, rule, strike, check, form as form_step, cofactor, table, judge, value, finished, answer, next, finish}
use Rattle.run.proofs.Law.{Kept, new_kept, changed_kept, next_kept, granted_meaning, granted_tells}
use Rattle.sheet.specs.Fault as reading
use Rattle.sheet.specs.Reading.{State, Seen, open_sheet, heading_number, begun}
use Rattle.sheet.proofs.Heads.{next_ok, taken}
use Rattle.lines.specs.declared.fault.Fault.{Fault}
use Rattle.lines.specs.Line.{Said, sound, clash}
use Rattle.report.specs.declared.heading.FieldKind.{FieldKind}
use Rattle.report.specs.declared.heading.FieldKind.TheVariants.{PrimeKind, BinaryKind}
use Rattle.report.specs.Calls.{step}
use Rattle.report.specs.Heading.{Headed, in_fault, kind_of, field_of, laid_with, after_heading, with_field, with_kind, headed}
use Rattle.report.specs.Running.{Item, items, row_left, verdict_line, printed, answered, lines, told, report_lines}
use Rattle.report.specs.Telling.{ClashSays, CheckSays, Says, RefusedAt, GrantedAt, Tells, HeadingTells}

not_sound : (t a b : ℕ) → clash t a b ∷ [] ≡ sound ∷ [] → ⊥
not_sound t a b e = let z : ◌≡◌ {A = ℕ} 0 1 = cc in omega arith

back : (n : ℕ) → n ≡ n + 1 - 1
back n = omega arith

module _ (A : Arithmetic) (laws : Lawful A) (L : Ledger) (k : Kept A L) where
  verdict_says : (slots : List Entry) (o : Option Clash) → VerdictMeans (ring A) (system L) (verdict (ring A) (system L) o) (clash_row (ring A) (system L) o) (written (clash_entries (ring A) (system L) o) slots) → CheckSays A L (verdict_line (verdict (ring A) (system L) o) ∷ [])
  verdict_says slots None m = record { sound_exactly = (λ _. m, λ _. refl); otherwise = inl refl }
  verdict_says slots (Some x) m =
      let t = x.term + 1 in
      let a = x.a + 1 in
      let b = x.b + 1 in
      let places : ClashSays A L t a b = record {
        entries = take (length (clash_entries (ring A) (system L) (Some x))) (written (clash_entries (ring A) (system L) (Some x)) slots);
        witness = subst (λ (v : Row). Accounted (ring A) (system L) v (take (length (clash_entries (ring A) (system L) (Some x))) (written (clash_entries (ring A) (system L) (Some x)) slots))) (λ i. commutator (ring A) (system L) (back x.a i) (back x.b i) (get_or L.terms (back x.term i) [])) m;
      } in
      record {
        sound_exactly = (λ e. absurd (not_sound t a b e), λ i. absurd (both_ways _ m.dependence.nonzero (i _ m.dependence.is_row m.dependence.in_ideal)));
        otherwise = inr (t, a, b, refl, places);
      }

  says : (s : Step) → judge A L s ≡ None → Says A L s (printed (row_left (finished A L s)) (value A L s))
  says (lay n) e = refl
  says (term t) e = refl
  says close e = refl
  says (rule x c r) e = refl
  says (strike x) e = refl
  says (check row slots) e = verdict_says slots (first_clash (ring A) (system L)) (granted_meaning A laws L k (check row slots) e)
  says (form_step p row) e = refl
  says (cofactor p row slots) e =
      let m = granted_meaning A laws L k (cofactor p row slots) e in
      let es = cofactors (ring A) (system L) p in
      record {
        member = eqb (yes_no (all_zero (normal_form (ring A) (system L) p))) 1;
        entries = es;
        line = refl;
        tells = granted_tells A laws L k (cofactor p row slots) e;
        accounts = subst (Accounts (ring A) (system L) p (normal_form (ring A) (system L) p)) (take_at es (drop (length es) slots) (length es) refl) m;
      }
  says (table i rows) e = refl

  one : (x : Seen) (later : List Said) (Later : List Said → Type 0) → Later later → RefusedAt A L x (answered (answer A L (step L x)) (row_left (finish A L (step L x))) x later) ⊎ GrantedAt A L x (answered (answer A L (step L x)) (row_left (finish A L (step L x))) x later) Later
  one x later Later after = go (judge A L (step L x)) refl
    where
      go : (o : Option Refusal) → judge A L (step L x) ≡ o → RefusedAt A L x (answered (granted o (value A L (step L x))) (row_left (on_grant o (finished A L (step L x)) (step L x))) x later) ⊎ GrantedAt A L x (answered (granted o (value A L (step L x))) (row_left (on_grant o (finished A L (step L x)) (step L x))) x later) Later
      go None e = inr (record { granted = e; own = printed (row_left (finished A L (step L x))) (value A L (step L x)); rest = later; both = refl; says = says (step L x) e; later = after })
      go (Some r) e = inl (record { refusal = r; cause = e; line = refl })

tells : (A : Arithmetic) → Lawful A → (L : Ledger) → Kept A L → (xs : List Item) → Tells A L xs (lines A L xs)
tells A laws L k [] = refl
tells A laws L k (Err f ∷ xs) = refl
tells A laws L k (Ok x ∷ xs) = one A laws L k x (lines A (next A L (step L x)) xs) _ (tells A laws (next A L (step L x)) (next_kept A L k (step L x)) xs)

-- a field that a heading names is lawful
named_lawful : (kind : FieldKind) (m byte : ℕ) (A : Arithmetic) → field_of kind m byte ≡ Ok A → Lawful A
named_lawful PrimeKind p byte A e =
    let found = taken (among primes p) (Ok (modulo p)) _ A e in
    let is : modulo p ≡ A = cc found.1 in
    subst Lawful is (prime_lawful p (subst T (sym found.0) tt))
named_lawful BinaryKind k byte A e =
    let found = taken (among binary_sizes k) (Ok (binary k)) _ A e in
    let is : binary k ≡ A = cc found.1 in
    subst Lawful is (binary_lawful k (subst T (sym found.0) tt))

laid_kept : (A : Arithmetic) (n byte : ℕ) → laid_with (judge_lay n) byte ≡ Ok tt → Kept A (laid n)
laid_kept A n byte e = go (judge_lay n) refl e
  where
    go : (o : Option Refusal) → judge_lay n ≡ o → laid_with o byte ≡ Ok tt → Kept A (laid n)
    go None d h = changed_kept A new_ledger (new_kept A) (lay n) d
    go (Some r) d h = let z : ◌≡◌ {A = ℕ} 0 1 = cc in absurd (omega arith)

-- what a heading gives: a lawful field and a book that is laid
pub record Good (h : Headed) : Type 0 where
  pub lawful : Lawful h.arithmetic
  pub kept : Kept h.arithmetic (laid h.variables)

headed_good : (bytes : List ℕ) (h : Headed) → headed bytes ≡ Ok h → Good h
headed_good bytes h e =
    let opened = next_ok (in_fault (open_sheet bytes)) (λ s. reading.next (in_fault (heading_number s)) (λ k. reading.next (kind_of k.0 k.1) (with_kind (after_heading s)))) h e in
    let s : State = opened.0 in
    let first = next_ok (in_fault (heading_number s)) (λ k. reading.next (kind_of k.0 k.1) (with_kind (after_heading s))) h opened.2 in
    let known = next_ok (kind_of first.0.0 first.0.1) (with_kind (after_heading s)) h first.2 in
    let t : State = after_heading s in
    let second = next_ok (in_fault (heading_number t)) (λ m. reading.next (field_of known.0 m.0 m.1) (with_field (after_heading t))) h known.2 in
    let field = next_ok (field_of known.0 second.0.0 second.0.1) (with_field (after_heading t)) h second.2 in
    let A : Arithmetic = field.0 in
    let u : State = after_heading t in
    let third = next_ok (in_fault (heading_number u)) (λ n. reading.next (laid_with (judge_lay n.0) n.1) (λ _. Ok (record { arithmetic = A; variables = n.0; state = begun n.0 (after_heading u) }))) h field.2 in
    let n = third.0.0 in
    let laid-well = next_ok (laid_with (judge_lay n) third.0.1) (λ _. Ok (record { arithmetic = A; variables = n; state = begun n (after_heading u) })) h third.2 in
    let is : record { arithmetic = A; variables = n; state = begun n (after_heading u) } ≡ h = cc laid-well.2 in
    subst Good is (record { lawful = named_lawful known.0 second.0.0 second.0.1 A field.1; kept = laid_kept A n third.0.1 laid-well.1 })

pub reported : (bytes : List ℕ) → HeadingTells (headed bytes) (length bytes) (report_lines bytes)
reported bytes = go (headed bytes) refl
  where
    go : (r : Result Headed Fault) → headed bytes ≡ r → HeadingTells r (length bytes) (told r (length bytes))
    go (Ok h) e = let good = headed_good bytes h e in (good.lawful, tells h.arithmetic good.lawful (laid h.variables) good.kept (items (length bytes) h.state))
    go (Err f) e = refl
