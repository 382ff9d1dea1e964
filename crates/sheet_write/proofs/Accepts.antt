-- What a record that is written meets. Assumes nothing.
use Rattle.std.proofs.Common.{◌≡◌, ℕ, ◌≤◌, Bool, true, false, cond, ◌&&◌, eqb, leb, List, length, Some, None, Ok, Option, sym, refl, ap, ◌∙◌, arith}
use Rattle.std.proofs.lemmas.Bool.{leb-true, le-leb, eqb-true, cond-true, cond_both, and_parts, and_from}
use Rattle.sheet.specs.declared.kind.Kind.{Kind}
use Rattle.sheet.specs.declared.kind.Kind.TheVariants.{Term, Close, Rule, Check, Question, Strike}
use Rattle.sheet.specs.Fault.{next}
use Rattle.sheet.specs.Body.{kind_of, kind_number}
use Rattle.sheet.specs.Record.{known}
use Rattle.sheet.proofs.Heads.{next_ok, taken}
use Rattle.sheet_write.specs.Writing.{flat, right_count, allowed, body_size, fitting, counted, accepted}

pub record Accepted (n k : ℕ) (xs : List ℕ) (size : ℕ) : Type 0 where
  pub kind : Kind
  pub is_kind : kind_of k ≡ Some kind
  pub low : 1 ≤ n
  pub high : n ≤ 8
  pub right : right_count kind n xs ≡ true
  pub limits : allowed kind n 0 xs ≡ true
  pub is : size ≡ length (flat xs)
  pub short : size ≤ 65520

-- the way that led to an answer
some_taken : {A : Type 0} (b : Bool) (y x : A) → cond b (Some y) None ≡ Some x → (b ≡ true) × (y ≡ x)
some_taken true y x e = (refl, cc e)
some_taken false y x e = let z : ◌≡◌ {A = ℕ} 0 1 = cc in absurd (omega arith)

pub known_kind : (start count : ℕ) (o : Option Kind) (kind : Kind) → known start count o ≡ Ok kind → o ≡ Some kind
known_kind start count (Some k) kind e = cc
known_kind start count None kind e = let z : ◌≡◌ {A = ℕ} 0 1 = cc in absurd (omega arith)

fitted : (o : Option ℕ) (size : ℕ) → fitting o ≡ Ok size → o ≡ Some size
fitted (Some s) size e = cc
fitted None size e = let z : ◌≡◌ {A = ℕ} 0 1 = cc in absurd (omega arith)

pub accepted_parts : (n k : ℕ) (xs : List ℕ) (size : ℕ) → accepted n k xs ≡ Ok size → Accepted n k xs size
accepted_parts n k xs size h =
    let range = taken (leb 1 n && leb n 8) _ _ size h in
    let ends = and_parts (leb 1 n) (leb n 8) range.0 in
    let found = next_ok (known 0 0 (kind_of k)) (λ kind. counted kind n xs) size range.1 in
    let kind = found.0 in
    let count = taken (right_count kind n xs) (fitting (body_size kind n xs)) _ size found.2 in
    let body = some_taken (allowed kind n 0 xs && leb (length (flat xs)) 65520) (length (flat xs)) size (fitted (body_size kind n xs) size count.1) in
    let limits = and_parts (allowed kind n 0 xs) (leb (length (flat xs)) 65520) body.0 in
    let short = leb-true (length (flat xs)) 65520 limits.1 in
    record {
      kind = kind;
      is_kind = known_kind 0 0 (kind_of k) kind found.1;
      low = leb-true 1 n ends.0;
      high = leb-true n 8 ends.1;
      right = count.0;
      limits = limits.0;
      is = sym body.1;
      short = omega (arith, body.1);
    }

pub accepted_from : (n k : ℕ) (xs : List ℕ) (size : ℕ) → Accepted n k xs size → accepted n k xs ≡ Ok size
accepted_from n k xs size a =
    let kind = a.kind in
    let body : body_size kind n xs ≡ Some size =
    cond-true _ _ _ (and_from (allowed kind n 0 xs) (leb (length (flat xs)) 65520) a.limits (le-leb (length (flat xs)) 65520 (omega (arith, a.is, a.short)))) ∙ ap Some (sym a.is) in
    cond-true _ _ _ (and_from (leb 1 n) (leb n 8) (le-leb 1 n a.low) (le-leb n 8 a.high))
    ∙ ap (λ o. next (known 0 0 o) (λ x. counted x n xs)) a.is_kind
    ∙ cond-true _ _ _ a.right
    ∙ ap fitting body

-- a kind has one number
pub kind_is : (k : ℕ) (kind : Kind) → kind_of k ≡ Some kind → k ≡ kind_number kind
kind_is k kind =
    let P : Option Kind → Type 0 = λ o. o ≡ Some kind → k ≡ kind_number kind in
    cond_both (eqb k 1) _ _ P (λ e h. eqb-true k 1 e ∙ ap kind_number (only Term h)) (λ _.
    cond_both (eqb k 2) _ _ P (λ e h. eqb-true k 2 e ∙ ap kind_number (only Close h)) (λ _.
    cond_both (eqb k 3) _ _ P (λ e h. eqb-true k 3 e ∙ ap kind_number (only Rule h)) (λ _.
    cond_both (eqb k 4) _ _ P (λ e h. eqb-true k 4 e ∙ ap kind_number (only Check h)) (λ _.
    cond_both (eqb k 5) _ _ P (λ e h. eqb-true k 5 e ∙ ap kind_number (only Question h)) (λ _.
    cond_both (eqb k 6) _ _ P (λ e h. eqb-true k 6 e ∙ ap kind_number (only Strike h)) (λ _ h. let z : ◌≡◌ {A = ℕ} 0 1 = cc in absurd (omega arith)))))))
  where
    only : (x : Kind) → Some x ≡ Some kind → x ≡ kind
    only x e = cc

pub kind_back : (kind : Kind) → kind_of (kind_number kind) ≡ Some kind
kind_back Term = refl
kind_back Close = refl
kind_back Rule = refl
kind_back Check = refl
kind_back Question = refl
kind_back Strike = refl

pub kind_low : (kind : Kind) → kind_number kind ≤ 6
kind_low Term = omega arith
kind_low Close = omega arith
kind_low Rule = omega arith
kind_low Check = omega arith
kind_low Question = omega arith
kind_low Strike = omega arith
