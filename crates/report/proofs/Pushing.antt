-- A line that was written is pushed. Assumes nothing.
use Rattle.std.proofs.Common.{◌≡◌, ℕ, Bool, true, false, cond, leb, List, ◌++◌, length, take, drop, is_ok, IfOk, Ok, Err, Result, refl, ap, ◌∙◌, arith}
use Rattle.std.proofs.lemmas.List.{take_at}
use Rattle.sheet.specs.declared.fault.RecordFault.TheVariants.{ShortOutput}
use Rattle.sheet_write.specs.Writing.{answer, held, with_room}

-- what was written stands at the front
pub front_written : (memory bytes now : List ℕ) (size : ℕ) → Ok size ≡ answer (with_room memory bytes) → now ≡ held (with_room memory bytes) memory → take size now ≡ bytes
front_written memory bytes now size said after = go (leb (length bytes) (length memory)) said after
  where
    go : (b : Bool) → Ok size ≡ answer (cond b (Ok bytes) (Err ShortOutput)) → now ≡ held (cond b (Ok bytes) (Err ShortOutput)) memory → take size now ≡ bytes
    go true e d =
        let long : size ≡ length bytes = cc in
        (λ i. take (long i) (d i)) ∙ take_at bytes (drop (length bytes) memory) (length bytes) refl
    go false e d = let z : ◌≡◌ {A = ℕ} 0 1 = cc in absurd (omega arith)

pub made_pushed : {E : Type 0} (r : Result (Unit {0}) E) (was now xs : List ℕ) {ys : List ℕ} → xs ≡ ys → now ≡ cond (is_ok r) (was ++ xs) was → IfOk r (λ _. now ≡ was ++ ys)
made_pushed (Ok u) was now xs same e = e ∙ ap (λ bs. was ++ bs) same
made_pushed (Err d) was now xs same e = tt
