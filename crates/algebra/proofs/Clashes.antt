-- The first clash: there is none exactly when the maps commute. Assumes nothing.
use Rattle.std.proofs.Common.{◌≡◌, ℕ, zero, suc, ◌+◌, ◌-◌, ◌<◌, ◌≤◌, Bool, true, false, cond, ◌⊎◌, List, [], ◌∷◌, ◌++◌, length, get_or, Some, None, Option, sym, refl, ap, ◌∙◌, subst, inl, inr, ⊎_elim, arith}
use Rattle.std.proofs.lemmas.Bool.{cases_order, both_ways}
use Rattle.field.specs.Arithmetic.{Ring, CommutativeRing}
use Rattle.algebra.specs.Term.{Term, has}
use Rattle.algebra.specs.Border.{Row, System, LawfulSystem}
use Rattle.algebra.specs.Walk.{mapped, unit, all_zero}
use Rattle.algebra.specs.declared.Clash.{Clash}
use Rattle.algebra.specs.Clash.{Commute, twice, commutator, pairs_with, pairs_from, pairs, clash_at, clash_or, clash_from, first_clash}
use Rattle.algebra.specs.Theorems.{Dependence, WalksAccountAlways, BorderBasisTheorem, NormalFormTheorem}
use Rattle.algebra.proofs.Terms.{has_cases}
use Rattle.algebra.proofs.Borders.{get_or_has}
use Rattle.algebra.proofs.Totals.{equal_from_totals}
use Rattle.algebra.proofs.Rows.{difference_zero}
use Rattle.algebra.proofs.Accounts.{walks_account, forms_account, commutator_account}
use Rattle.algebra.proofs.Basis.{mapped_row, commutator_row, commutator_in_ideal, zero_form_in_ideal, equal_forms, independent, member_form, equal_classes, written_alike}

abbrev Among : ℕ × ℕ → List (ℕ × ℕ) → Type 0
Among x [] = ⊥
Among x (y ∷ ys) = (x ≡ y) ⊎ Among x ys

among_left : (x : ℕ × ℕ) (xs ys : List (ℕ × ℕ)) → Among x xs → Among x (xs ++ ys)
among_left x [] ys h = absurd h
among_left x (y ∷ xs) ys (inl e) = inl e
among_left x (y ∷ xs) ys (inr h) = inr (among_left x xs ys h)

among_right : (x : ℕ × ℕ) (xs ys : List (ℕ × ℕ)) → Among x ys → Among x (xs ++ ys)
among_right x [] ys h = h
among_right x (y ∷ xs) ys h = inr (among_right x xs ys h)

in_pairs_with : (a b n j : ℕ) → j < n → Among (a, b + j) (pairs_with a b n)
in_pairs_with a b zero j h = absurd (omega arith)
in_pairs_with a b (suc n) zero h = let e : b + 0 ≡ b = omega arith in inl (λ i. (a, e i))
in_pairs_with a b (suc n) (suc j) h =
    let e : suc b + j ≡ b + suc j = omega arith in inr (subst (λ (k : ℕ). Among (a, k) (pairs_with a (suc b) n)) e (in_pairs_with a (suc b) n j (omega arith)))

in_pairs_from : (n s i j : ℕ) → i < j → j < n → Among (s + i, s + j) (pairs_from s n)
in_pairs_from zero s i j h k = absurd (omega arith)
in_pairs_from (suc n) s zero j h k =
    let e : suc s + (j - 1) ≡ s + j = omega arith in
    let z : s ≡ s + 0 = omega arith in
    among_left _ (pairs_with s (suc s) n) (pairs_from (suc s) n)
    (subst (λ (x : ℕ). Among (x, s + j) (pairs_with s (suc s) n)) z (subst (λ (x : ℕ). Among (s, x) (pairs_with s (suc s) n)) e (in_pairs_with s (suc s) n (j - 1) (omega arith))))
in_pairs_from (suc n) s (suc i) zero h k = absurd (omega arith)
in_pairs_from (suc n) s (suc i) (suc j) h k =
    let e : suc s + i ≡ s + suc i = omega arith in
    let f : suc s + j ≡ s + suc j = omega arith in
    among_right _ (pairs_with s (suc s) n) (pairs_from (suc s) n)
    (subst (λ (x : ℕ). Among (x, s + suc j) (pairs_from (suc s) n)) e (subst (λ (x : ℕ). Among (suc s + i, x) (pairs_from (suc s) n)) f (in_pairs_from n (suc s) i j (omega arith) (omega arith))))

in_pairs : (n a b : ℕ) → a < b → b < n → Among (a, b) (pairs n)
in_pairs n a b h k =
    let e : 0 + a ≡ a = omega arith in
    let f : 0 + b ≡ b = omega arith in
    subst (λ (x : ℕ). Among (x, b) (pairs n)) e (subst (λ (x : ℕ). Among (0 + a, x) (pairs n)) f (in_pairs_from n 0 a b h k))

-- the pairs are of different variables below n
from_pairs_with : (a b n : ℕ) (x : ℕ × ℕ) → Among x (pairs_with a b n) → (x.0 ≡ a) × (b ≤ x.1) × (x.1 < b + n)
from_pairs_with a b zero x h = absurd h
from_pairs_with a b (suc n) x (inl e) = let p : x.0 ≡ a = ap (λ (y : ℕ × ℕ). y.0) e in let q : x.1 ≡ b = ap (λ (y : ℕ × ℕ). y.1) e in (p, omega arith, omega arith)
from_pairs_with a b (suc n) x (inr h) = let r = from_pairs_with a (suc b) n x h in (r.0, omega (arith, r.1), omega (arith, r.2))

among_cases : (x : ℕ × ℕ) (xs ys : List (ℕ × ℕ)) → Among x (xs ++ ys) → Among x xs ⊎ Among x ys
among_cases x [] ys h = inr h
among_cases x (y ∷ xs) ys (inl e) = inl (inl e)
among_cases x (y ∷ xs) ys (inr h) = ⊎_elim (λ k. inl (inr k)) inr (among_cases x xs ys h)

from_pairs_from : (n s : ℕ) (x : ℕ × ℕ) → Among x (pairs_from s n) → (x.0 < x.1) × (x.1 < s + n)
from_pairs_from zero s x h = absurd h
from_pairs_from (suc n) s x h =
    ⊎_elim (λ k. let r = from_pairs_with s (suc s) n x k in (omega (arith, r.0, r.1), omega (arith, r.2)))
    (λ k. let r = from_pairs_from n (suc s) x k in (r.0, omega (arith, r.1)))
    (among_cases x (pairs_with s (suc s) n) (pairs_from (suc s) n) h)

pub from_pairs : (n : ℕ) (x : ℕ × ℕ) → Among x (pairs n) → (x.0 < x.1) × (x.1 < n)
from_pairs n x h = let r = from_pairs_from n 0 x h in (r.0, omega (arith, r.1))

none_zero : (R : Ring) (B : System) (t : Term) (xs : List (ℕ × ℕ)) → clash_at R B t xs ≡ None → (x : ℕ × ℕ) → Among x xs → all_zero (commutator R B x.0 x.1 t) ≡ true
none_zero R B t [] e x h = absurd h
none_zero R B t (y ∷ xs) e x h = go (all_zero (commutator R B y.0 y.1 t)) refl e h (none_zero R B t xs)
  where
    go : (b : Bool) → all_zero (commutator R B y.0 y.1 t) ≡ b → cond b (clash_at R B t xs) (Some y) ≡ None → (x ≡ y) ⊎ Among x xs → (clash_at R B t xs ≡ None → (z : ℕ × ℕ) → Among z xs → all_zero (commutator R B z.0 z.1 t) ≡ true) → all_zero (commutator R B x.0 x.1 t) ≡ true
    go true z n (inl p) rest = ap (λ (w : ℕ × ℕ). all_zero (commutator R B w.0 w.1 t)) p ∙ z
    go true z n (inr k) rest = rest n x k
    go false z n w rest = let q : ◌≡◌ {A = ℕ} 0 1 = cc in absurd (omega arith)

-- what a clash at a term is
some_nonzero : (R : Ring) (B : System) (t : Term) (xs : List (ℕ × ℕ)) (x : ℕ × ℕ) → clash_at R B t xs ≡ Some x → Among x xs × (all_zero (commutator R B x.0 x.1 t) ≡ false)
some_nonzero R B t [] x e = let q : ◌≡◌ {A = ℕ} 0 1 = cc in absurd (omega arith)
some_nonzero R B t (y ∷ xs) x e = go (all_zero (commutator R B y.0 y.1 t)) refl e (some_nonzero R B t xs x)
  where
    go : (b : Bool) → all_zero (commutator R B y.0 y.1 t) ≡ b → cond b (clash_at R B t xs) (Some y) ≡ Some x → (clash_at R B t xs ≡ Some x → Among x xs × (all_zero (commutator R B x.0 x.1 t) ≡ false)) → Among x (y ∷ xs) × (all_zero (commutator R B x.0 x.1 t) ≡ false)
    go true z n rest = let r = rest n in (inr r.0, r.1)
    go false z n rest = let p : x ≡ y = cc in (inl p, ap (λ (w : ℕ × ℕ). all_zero (commutator R B w.0 w.1 t)) p ∙ z)

none_later : (R : Ring) (B : System) (k : ℕ) (ts : List Term) → clash_from R B k ts ≡ None → (t : Term) → has t ts ≡ true → clash_at R B t (pairs B.variables) ≡ None
none_later R B k [] e t h = absurd (both_ways false refl h)
none_later R B k (u ∷ ts) e t h = go (clash_at R B u (pairs B.variables)) refl e (none_later R B (suc k) ts)
  where
    go : (o : Option (ℕ × ℕ)) → clash_at R B u (pairs B.variables) ≡ o → clash_or k o (clash_from R B (suc k) ts) ≡ None → (clash_from R B (suc k) ts ≡ None → (s : Term) → has s ts ≡ true → clash_at R B s (pairs B.variables) ≡ None) → clash_at R B t (pairs B.variables) ≡ None
    go None c n rest = ⊎_elim (λ p. ap (λ (s : Term). clash_at R B s (pairs B.variables)) p ∙ c) (rest n t) (has_cases t u ts h)
    go (Some x) c n rest = let q : ◌≡◌ {A = ℕ} 0 1 = cc in absurd (omega arith)

-- where the first clash is
pub record Clashes (R : Ring) (B : System) (from : ℕ) (ts : List Term) (x : Clash) : Type 0 where
  pub at_least : from ≤ x.term
  pub within : x.term - from < length ts
  pub ordered : x.a < x.b
  pub variable : x.b < B.variables
  pub nonzero : all_zero (commutator R B x.a x.b (get_or ts (x.term - from) [])) ≡ false

clash_is : (R : Ring) (B : System) (k : ℕ) (ts : List Term) (x : Clash) → clash_from R B k ts ≡ Some x → Clashes R B k ts x
clash_is R B k [] x e = let q : ◌≡◌ {A = ℕ} 0 1 = cc in absurd (omega arith)
clash_is R B k (u ∷ ts) x e = go (clash_at R B u (pairs B.variables)) refl e (clash_is R B (suc k) ts x)
  where
    go : (o : Option (ℕ × ℕ)) → clash_at R B u (pairs B.variables) ≡ o → clash_or k o (clash_from R B (suc k) ts) ≡ Some x → (clash_from R B (suc k) ts ≡ Some x → Clashes R B (suc k) ts x) → Clashes R B k (u ∷ ts) x
    go None c n rest =
        let r = rest n in
        let at : x.term - k ≡ suc (x.term - suc k) = omega (arith, r.at_least) in
        record {
          at_least = omega (arith, r.at_least);
          within = omega (arith, r.within, at);
          ordered = r.ordered;
          variable = r.variable;
          nonzero = ap (λ (j : ℕ). all_zero (commutator R B x.a x.b (get_or (u ∷ ts) j []))) at ∙ r.nonzero;
        }
    go (Some y) c n rest =
        let s = some_nonzero R B u (pairs B.variables) y c in
        let q = from_pairs B.variables y s.0 in
        let p : record { term = k; a = y.0; b = y.1 } ≡ x = cc in
        subst (Clashes R B k (u ∷ ts)) p
        (let z : k - k ≡ 0 = omega arith in
        record { at_least = omega arith; within = omega arith; ordered = q.0; variable = q.1; nonzero = ap (λ (j : ℕ). all_zero (commutator R B y.0 y.1 (get_or (u ∷ ts) j []))) z ∙ s.1 })

pub first_clash_is : (R : Ring) (B : System) (x : Clash) → first_clash R B ≡ Some x → Clashes R B 0 B.terms x
first_clash_is R B x e = clash_is R B 0 B.terms x e

module _ {R : Ring} (laws : CommutativeRing R) (B : System) (good : LawfulSystem B) where
  commutes_at : first_clash R B ≡ None → (t : Term) → has t B.terms ≡ true → (a b : ℕ) → a < b → b < B.variables → twice R B a b t ≡ twice R B b a t
  commutes_at e t h a b less k =
      let z = none_zero R B t (pairs B.variables) (none_later R B 0 B.terms e t h) (a, b) (in_pairs B.variables a b less k) in
      let p = mapped_row laws B good a (omega arith) (mapped R B b (unit B.terms t)) in
      let q = mapped_row laws B good b k (mapped R B a (unit B.terms t)) in
      difference_zero laws (twice R B a b t) (twice R B b a t) (p.0 ∙ sym q.0) p.1 q.1 z

  pub no_clash : first_clash R B ≡ None → Commute R B
  no_clash e t h a b ha hb =
      ⊎_elim (λ same. λ i. twice R B (same i) (sym same i) t)
      (⊎_elim (λ less. commutes_at e t h a b less hb) (λ more. sym (commutes_at e t h b a more ha)))
      (cases_order a b)

  pub clash_dependence : (t : Term) (a b : ℕ) → has t B.terms ≡ true → a < B.variables → b < B.variables → all_zero (commutator R B a b t) ≡ false → Dependence R B (commutator R B a b t)
  clash_dependence t a b h ha hb n =
      record { is_row = commutator_row laws B good a b t ha hb; nonzero = n; in_ideal = commutator_in_ideal laws B good a b t ha hb }

  dependent : (Commute R B → ⊥) → (r : Row) × Dependence R B r
  dependent never = go (first_clash R B) refl
    where
      go : (o : Option Clash) → first_clash R B ≡ o → (r : Row) × Dependence R B r
      go None e = absurd (never (no_clash e))
      go (Some x) e =
          let c = first_clash_is R B x e in
          let t = get_or B.terms (x.term - 0) [] in
          let p = c.ordered in
          let q = c.variable in
          (commutator R B x.a x.b t, clash_dependence t x.a x.b (get_or_has B.terms (x.term - 0) c.within) (omega arith) q c.nonzero)

pub walks_account_always : WalksAccountAlways
walks_account_always R laws B good = record {
  of_a_row = walks_account laws B good;
  of_a_polynomial = forms_account laws B good;
  of_a_commutator = λ a b t ha hb. equal_from_totals laws _ _ (λ f. commutator_account laws B good f a b t ha hb);
}

pub border_basis_theorem : BorderBasisTheorem
border_basis_theorem R laws B good = record {
  independent = independent laws B good;
  dependent = dependent laws B good;
  no_clash = no_clash laws B good;
  clash = clash_dependence laws B good;
}

pub normal_form_theorem : NormalFormTheorem
normal_form_theorem R laws B good = record {
  equal_forms = λ _. equal_forms laws B good;
  equal_classes = equal_classes laws B good;
  written_alike = written_alike laws B good;
  member = member_form laws B good;
  zero_form = zero_form_in_ideal laws B good;
}
