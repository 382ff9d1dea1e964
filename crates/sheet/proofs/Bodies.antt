-- How a body's numbers are checked one by one. Assumes nothing.
use Rattle.std.proofs.Common.{◌≡◌, ℕ, zero, suc, ◌+◌, ◌<◌, true, false, List, [], ◌∷◌, length, drop, Err, Result, sym, refl, ap, ◌∙◌, arith}
use Rattle.std.proofs.lemmas.Bool.{cond-true, cond-false}
use Rattle.sheet.specs.declared.fault.NumberFault.{NumberFault}
use Rattle.sheet.specs.declared.fault.RecordFault.{RecordFault}
use Rattle.sheet.specs.declared.fault.RecordFault.TheVariants.{WrongBody}
use Rattle.sheet.specs.declared.kind.Kind.{Kind}
use Rattle.sheet.specs.Fault.{in_record, next}
use Rattle.sheet.specs.Body.{limit_at, is_full, whole_after, number_at, check_numbers}

module _ (kind : Kind) (n start count : ℕ) where
  -- the numbers that come after one
  abbrev pub onward : ℕ → ℕ → ℕ → ℕ → List ℕ → (ℕ × ℕ) → Result (Unit {0}) RecordFault
  onward turns j whole byte bytes p = check_numbers kind n start count turns (j + 1) (whole_after kind n j p.0 whole) (byte + p.1) (drop p.1 bytes)

  -- bytes stand where no number is to come
  pub full_here : (turns j whole byte : ℕ) (bytes : List ℕ) → 0 < length bytes → true ≡ is_full kind j whole → Err (WrongBody start count) ≡ check_numbers kind n start count turns j whole byte bytes
  full_here turns j whole byte [] some full = absurd (omega arith)
  full_here zero j whole byte (b ∷ bs) some full = refl
  full_here (suc turns) j whole byte (b ∷ bs) some full = sym (cond-true (is_full kind j whole) _ _ (sym full))

  one_more : (turns j whole byte : ℕ) (bytes : List ℕ) (r : Result (ℕ × ℕ) NumberFault) → 0 < length bytes → false ≡ is_full kind j whole → r ≡ number_at (limit_at kind n j) bytes byte count → check_numbers kind n start count (suc turns) j whole byte bytes ≡ next (in_record r) (onward turns j whole byte bytes)
  one_more turns j whole byte [] r some free e = absurd (omega arith)
  one_more turns j whole byte (b ∷ bs) r some free e =
      cond-false (is_full kind j whole) _ _ (sym free) ∙ ap (λ (x : Result (ℕ × ℕ) NumberFault). next (in_record x) (onward turns j whole byte (b ∷ bs))) (sym e)

  -- one number is read, well or not
  pub number_here : (turns after j whole byte : ℕ) (bytes : List ℕ) (r : Result (ℕ × ℕ) NumberFault) → turns ≡ suc after → 0 < length bytes → false ≡ is_full kind j whole → r ≡ number_at (limit_at kind n j) bytes byte count → check_numbers kind n start count turns j whole byte bytes ≡ next (in_record r) (onward after j whole byte bytes)
  number_here turns after j whole byte bytes r left some free e =
      ap (λ t. check_numbers kind n start count t j whole byte bytes) left ∙ one_more after j whole byte bytes r some free e
