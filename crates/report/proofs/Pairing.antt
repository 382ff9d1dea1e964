-- The numbers of a record taken one after another. Assumes nothing.
use Rattle.std.proofs.Common.{◌≡◌, ℕ, suc, List, [], ◌∷◌, ◌++◌, get_or, drop, unwrap_or, sym, ap, ◌∙◌, append_assoc, append-nil}
use Rattle.algebra.specs.Term.{Term}
use Rattle.algebra.specs.Polynomial.{Polynomial}
use Rattle.sheet.specs.Numbers.{first, exponents_of}
use Rattle.sheet.proofs.Copies.{first_or}
use Rattle.report.specs.Calls.{pairs_from}

-- one more pair is pushed
pub pairs_step : (n m left : ℕ) (all was now : Polynomial) (xs ys zs : List ℕ) (x : ℕ) (t : Term) → left ≡ suc m → was ++ pairs_from n left xs ≡ all → x ≡ unwrap_or (first xs) 0 → ys ≡ drop 1 xs → t ≡ exponents_of n ys → zs ≡ drop n ys → now ≡ was ++ (x, t) ∷ [] → now ++ pairs_from n m zs ≡ all
pairs_step n m left all was now xs ys zs x t more inv code one term rest push =
    let pair : (x, t) ≡ (get_or xs 0 0, exponents_of n (drop 1 xs)) = λ i. ((code ∙ first_or xs) i, (term ∙ ap (exponents_of n) one) i) in
    let tail : zs ≡ drop n (drop 1 xs) = rest ∙ ap (drop n) one in
    ap (λ (q : Polynomial). q ++ pairs_from n m zs) push
    ∙ append_assoc was ((x, t) ∷ []) (pairs_from n m zs)
    ∙ (λ i. was ++ (pair i ∷ pairs_from n m (tail i)))
    ∙ ap (λ k. was ++ pairs_from n k xs) (sym more)
    ∙ inv

pub pairs_end : (n left : ℕ) (all was : Polynomial) (xs : List ℕ) → left ≡ 0 → was ++ pairs_from n left xs ≡ all → was ≡ all
pairs_end n left all was xs z inv = sym (append-nil was) ∙ ap (λ k. was ++ pairs_from n k xs) (sym z) ∙ inv
