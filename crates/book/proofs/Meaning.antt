-- What check, form and cofactors promise in terms of the ideal. Assumes nothing.
use Rattle.std.proofs.Common.{◌≡◌, ℕ, zero, suc, ◌+◌, ◌-◌, ◌*◌, ◌<◌, ◌≤◌, Bool, true, false, cond, not, eqb, List, [], ◌∷◌, length, get_or, take, drop, replicate, Some, None, Option, sym, refl, ap, ◌∙◌, subst, mul-suc, mul-add, arith, length-append}
use lib.ListN.{length-replicate}
use Rattle.std.proofs.lemmas.List.{take_at}
use Rattle.std.proofs.lemmas.Bool.{both_ways, and_parts, eqb-true}
use Rattle.field.specs.Arithmetic.{Ring, CommutativeRing}
use Rattle.algebra.specs.Term.{Term, degree, word_from, word, times, place, in_variables, zero_past, next_place, spelled}
use Rattle.algebra.specs.Polynomial.{Polynomial, Over}
use Rattle.algebra.specs.Border.{Row, System, borders, LawfulSystem}
use Rattle.algebra.specs.Walk.{entry_at, step_entries, entries, mapped, at_one, normal_form, cofactors, all_zero}
use Rattle.algebra.specs.Clash.{Commute, commutator, first_clash}
use Rattle.algebra.specs.Theorems.{Independent}
use Rattle.algebra.specs.declared.Clash.{Clash}
use Rattle.algebra.specs.declared.Entry.{Entry}
use Rattle.algebra.proofs.Borders.{get_or_has}
use Rattle.algebra.proofs.Accounts.{forms_account}
use Rattle.algebra.proofs.Basis.{equal_forms}
use Rattle.algebra.proofs.Clashes.{first_clash_is, no_clash, clash_dependence, walks_account_always, border_basis_theorem, normal_form_theorem}
use Rattle.term.specs.Search.{first_place}
use Rattle.book.proofs.Searching.{next_zero}
use Rattle.book.specs.Judge.{past_variables, degrees}
use Rattle.book.specs.Effects.{written, clash_row, clash_entries, clash_term, verdict}
use Rattle.book.specs.Promise.{Accounted, VerdictMeans, FormMeans, Accounts}

pub take_written : (es slots : List Entry) → take (length es) (written es slots) ≡ es
take_written es slots = take_at es (drop (length es) slots) (length es) refl

-- every pair that passes is in the variables
pub over_from : (n : ℕ) (p : Polynomial) → first_place (past_variables n) p ≡ 0 → Over n p
over_from n [] h = tt
over_from n (x ∷ p) h = go (in_variables n x.1) refl h (over_from n p)
  where
    go : (b : Bool) → in_variables n x.1 ≡ b → cond (not b) 1 (next_place (first_place (past_variables n) p)) ≡ 0 → (first_place (past_variables n) p ≡ 0 → Over n p) → Over n (x ∷ p)
    go true e z rest = let q = and_parts (eqb (length x.1) 8) (zero_past n x.1) e in ((eqb-true _ 8 q.0, q.1), rest (next_zero _ z))
    go false e z rest = absurd (omega arith)

-- how many entries there can be: at most one for each term in each step
entry_few : (c : ℕ) (m : Term) (k : ℕ) → length (entry_at c m k) ≤ 1
entry_few c m zero = omega arith
entry_few c m (suc k) = omega arith

step_few : (B : System) (i : ℕ) (m : Term) (v : Row) (ts : List Term) → length (step_entries B i m v ts) ≤ length ts
step_few B i m [] ts = omega arith
step_few B i m (c ∷ v) [] = omega arith
step_few B i m (c ∷ v) (t ∷ ts) =
    let es = cond (eqb c 0) [] (entry_at c m (place (times i t) (borders B))) in
    omega (arith, length-append es (step_entries B i m v ts), step_few B i m v ts, go (eqb c 0))
  where
    go : (b : Bool) → length (cond b [] (entry_at c m (place (times i t) (borders B)))) ≤ 1
    go true = omega arith
    go false = entry_few c m (place (times i t) (borders B))

entries_few : (R : Ring) (B : System) (v : Row) (w : List ℕ) → length (entries R B v w) ≤ length B.terms * length w
entries_few R B v [] = omega arith
entries_few R B v (i ∷ w) =
    omega (
      arith,
      length-append (step_entries B i (spelled w) v B.terms) (entries R B (mapped R B i v) w),
      step_few B i (spelled w) v B.terms,
      entries_few R B (mapped R B i v) w,
      mul-suc (length B.terms) (length w),
    )

word_long : (i : ℕ) (t : Term) → length (word_from i t) ≡ degree t
word_long i [] = refl
word_long i (e ∷ t) = length-append (replicate e i) (word_from (suc i) t) ∙ (λ j. length-replicate e i j + word_long (suc i) t j)

pub cofactors_few : (R : Ring) (B : System) (p : Polynomial) → length (cofactors R B p) ≤ length B.terms * degrees p
cofactors_few R B [] = omega arith
cofactors_few R B (x ∷ p) =
    let es = entries R B (at_one x.0 B.terms) (word x.1) in
    let few : length es ≤ length B.terms * degree x.1 = subst (λ (n : ℕ). length es ≤ length B.terms * n) (word_long 0 x.1) (entries_few R B (at_one x.0 B.terms) (word x.1)) in
    omega (arith, length-append es (cofactors R B p), few, cofactors_few R B p, mul-add (length B.terms) (degree x.1) (degrees p))

module _ {R : Ring} (laws : CommutativeRing R) (B : System) (good : LawfulSystem B) where
  -- where no combination of S but zero lies in the ideal, the maps commute
  pub independent_commutes : Independent R B → Commute R B
  independent_commutes alone = go (first_clash R B) refl
    where
      go : (o : Option Clash) → first_clash R B ≡ o → Commute R B
      go None e = no_clash laws B good e
      go (Some x) e =
          let c = first_clash_is R B x e in
          let p = c.ordered in
          let q = c.variable in
          let d = clash_dependence laws B good (get_or B.terms (x.term - 0) []) x.a x.b (get_or_has B.terms (x.term - 0) c.within) (omega arith) q c.nonzero in
          absurd (both_ways _ d.nonzero (alone _ d.is_row d.in_ideal))

  pub verdict_means : (o : Option Clash) → first_clash R B ≡ o → (slots : List Entry) → VerdictMeans R B (verdict R B o) (clash_row R B o) (written (clash_entries R B o) slots)
  verdict_means None e slots = (border_basis_theorem R laws B good).independent (no_clash laws B good e)
  verdict_means (Some x) e slots =
      let c = first_clash_is R B x e in
      let p = c.ordered in
      let q = c.variable in
      let z : x.term - 0 ≡ x.term = omega arith in
      let t = clash_term B x in
      let within : x.term < length B.terms = omega (arith, c.within) in
      let non : all_zero (commutator R B x.a x.b t) ≡ false =
      ap (λ (j : ℕ). all_zero (commutator R B x.a x.b (get_or B.terms j []))) (sym z) ∙ c.nonzero in
      subst (Accounted R B (clash_row R B (Some x))) (sym (take_written (clash_entries R B (Some x)) slots))
      (record {
        dependence = clash_dependence laws B good t x.a x.b (get_or_has B.terms x.term within) (omega arith) q non;
        adds_up = (walks_account_always R laws B good).of_a_commutator x.a x.b t (omega arith) q;
      })

  pub form_means : (p : Polynomial) → Over B.variables p → FormMeans R B p (normal_form R B p) (all_zero (normal_form R B p))
  form_means p over =
      let n = normal_form_theorem R laws B good in
      record {
        over = over;
        equal_forms = λ q hq e. equal_forms laws B good p q over hq e;
        equal_classes = λ alone q hq u. n.equal_classes (independent_commutes alone) p q over hq u;
        member = n.zero_form p over;
        other = λ alone u. n.member (independent_commutes alone) p over u;
      }

  pub cofactors_mean : (p : Polynomial) → Over B.variables p → (slots : List Entry) → Accounts R B p (normal_form R B p) (take (length (cofactors R B p)) (written (cofactors R B p) slots))
  cofactors_mean p over slots = subst (Accounts R B p (normal_form R B p)) (sym (take_written (cofactors R B p) slots)) (forms_account laws B good p over)
