-- Numbers that come out one by one are held against a list. Assumes nothing.
use Rattle.std.proofs.Common.{◌≡◌, ℕ, Bool, true, false, ◌&&◌, eqb, List, [], ◌∷◌, Some, None, Ok, Err, Option, MatchOption, sym, refl, ap, ◌∙◌, subst, arith}
use Rattle.std.specs.Iterator.{AlwaysYields, YieldsThen, ComparesItemsByEq}
use Rattle.std.specs.List.{AllZip}
use Rattle.std.specs.Option.{IfSome}
use Rattle.std.specs.Str.{bytes_eq}
use Rattle.std.proofs.lemmas.Bool.{eq-eqb, and_from}
use Rattle.std.proofs.lemmas.Iterator.{YieldsList}
use Rattle.sheet.specs.declared.fault.SheetFault.{SheetFault}
use Rattle.sheet.specs.declared.record.Extent.{Extent}
use Rattle.sheet.specs.Fault.{in_sheet}
use Rattle.sheet.specs.Body.{kind_number}
use Rattle.sheet.specs.Numbers.{numbers_of}
use Rattle.sheet.specs.Record.{read_record, body_of}
use Rattle.sheet_write.specs.Laws.{ReadsAs}
use Rattle.sheet_write.proofs.Accepts.{kind_is}

-- two iterators that are held against each other by `eq`
module _ {S T : Type 0} (steps : S → Option ℕ → S → Type 0) (others : T → Option ℕ → T → Type 0) (r : Bool) where
  abbrev Last : Option ℕ → Option ℕ → Type 0
  Last o p = MatchOption o (MatchOption p (r ≡ true) (λ _. r ≡ false)) (λ x. (r ≡ false) × IfSome p (λ y. eqb x y ≡ false))

  at_last : (o p : Option ℕ) (xs ys : List ℕ) (s u : S) (t w : T) → AlwaysYields steps (λ x. x) s xs → AlwaysYields others (λ x. x) t ys → steps s o u → others t p w → Last o p → r ≡ bytes_eq xs ys
  at_last None p (x ∷ xs) ys s u t w e f a b h = absurd (e.0 u a)
  at_last (Some x) p [] ys s u t w e f a b h = absurd (e x u a)
  at_last None None [] (y ∷ ys) s u t w e f a b h = absurd (f.0 w b)
  at_last None (Some y) [] [] s u t w e f a b h = absurd (f y w b)
  at_last (Some x) None (z ∷ xs) (y ∷ ys) s u t w e f a b h = absurd (f.0 w b)
  at_last (Some x) (Some y) (z ∷ xs) [] s u t w e f a b h = absurd (f y w b)
  at_last None None [] [] s u t w e f a b h = h
  at_last None (Some y) [] (z ∷ ys) s u t w e f a b h = h
  at_last (Some x) None (z ∷ xs) [] s u t w e f a b h = h.0
  at_last (Some x) (Some y) (z ∷ xs) (q ∷ ys) s u t w e f a b h =
      let differ : eqb z q ≡ false = (λ i. eqb (sym (e.1 x u a).0 i) (sym (f.1 y w b).0 i)) ∙ h.1 in
      h.0 ∙ sym (ap (λ c. c && bytes_eq xs ys) differ)

  along : (cs bs : List ℕ) (o p : Option ℕ) (xs ys : List ℕ) (s u : S) (t w : T) → AlwaysYields steps (λ x. x) s xs → AlwaysYields others (λ x. x) t ys → YieldsThen steps s cs o u → YieldsThen others t bs p w → AllZip (λ x y. eqb x y ≡ true) cs bs → Last o p → r ≡ bytes_eq xs ys
  along [] [] o p xs ys s u t w e f a b z h = at_last o p xs ys s u t w e f (subst (λ j. steps j o u) (sym a.1) a.2) (subst (λ j. others j p w) (sym b.1) b.2) h
  along [] (y ∷ bs) o p xs ys s u t w e f a b z h = absurd z
  along (x ∷ cs) [] o p xs ys s u t w e f a b z h = absurd z
  along (x ∷ cs) (y ∷ bs) o p [] ys s u t w e f a b z h = absurd (e x a.1.0 a.1.1)
  along (x ∷ cs) (y ∷ bs) o p (v ∷ xs) [] s u t w e f a b z h = absurd (f y b.1.0 b.1.1)
  along (x ∷ cs) (y ∷ bs) o p (v ∷ xs) (q ∷ ys) s u t w e f a b z h =
      let m = e.1 x a.1.0 a.1.1 in
      let n = f.1 y b.1.0 b.1.1 in
      let tie : eqb v q ≡ true = (λ i. eqb (sym m.0 i) (sym n.0 i)) ∙ z.0 in
      along cs bs o p xs ys a.1.0 u b.1.0 w m.1 n.1 (a.0, a.1.2, a.2) (b.0, b.1.2, b.2) z.1 h ∙ sym (ap (λ c. c && bytes_eq xs ys) tie)

-- `eq` answers whether their lists are equal
pub eq_from_yields_List : {S T U : Type 0} {steps : S → Option ℕ → S → Type 0} {others : T → Option ℕ → T → Type 0} {s : S} {xs ys : List ℕ} (becomes : U → T → Type 0) (other : U) (r : Bool) → ComparesItemsByEq steps becomes others s other eqb r → YieldsList steps (λ x. x) s xs → ((it : T) → becomes other it → YieldsList others (λ x. x) it ys) → r ≡ bytes_eq xs ys
eq_from_yields_List {steps = steps} {others = others} {s = s} {xs = xs} {ys = ys} becomes other r d e f =
    along steps others r d.1 d.2 d.3 d.4 xs ys s d.5 d.0 d.6 e.runs (f d.0 d.7).runs d.8 d.9 d.10 d.11

pub same_self : (xs : List ℕ) → bytes_eq xs xs ≡ true
same_self [] = refl
same_self (x ∷ xs) = and_from (eqb x x) (bytes_eq xs xs) (eq-eqb x x refl) (same_self xs)

-- what reading a written record answers
module _ (n k : ℕ) (xs whole : List ℕ) (size : ℕ) (reads : ReadsAs n k xs whole 0 1 size) where
  pub no_fault : (f : SheetFault) → Err f ≡ in_sheet (read_record n whole 0 1) → ⊥
  no_fault f e = let h : Err f ≡ Ok reads.extent = e ∙ ap in_sheet reads.reads in let z : ◌≡◌ {A = ℕ} 0 1 = cc in omega arith

  module _ (e : Extent) (found : Ok e ≡ in_sheet (read_record n whole 0 1)) where
    same_extent : reads.extent ≡ e
    same_extent = let h : Ok e ≡ Ok reads.extent = found ∙ ap in_sheet reads.reads in cc

    pub kind_same : kind_number e.kind ≡ k
    kind_same = ap (λ (x : Extent). kind_number x.kind) (sym same_extent) ∙ sym (kind_is k reads.extent.kind reads.kind)

    pub ends_same : e.to ≡ size
    ends_same = ap (λ (x : Extent). x.to) (sym same_extent) ∙ reads.ends

    pub numbers_same : numbers_of (body_of whole e) ≡ xs
    numbers_same = ap (λ x. numbers_of (body_of whole x)) (sym same_extent) ∙ reads.numbers
