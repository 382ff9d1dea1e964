-- The two sinks: one that counts, and one that fills an output from one place on. Assumes nothing.
use Rattle.std.specs.Prelude.{◌≡◌, ℕ, ◌+◌, ◌-◌, ◌^◌, ◌<◌, ◌≤◌, List, length, min, refl}
use Rattle.std.proofs.Common.{ap, ◌∙◌, arith, length-append}
use Rattle.sheet_write.specs.Writing.{pasted}
use Rattle.sheet_write.proofs.Pastes.{pasted_none, pasted_more, pasted_length}
use Rattle.lines.specs.declared.sink.Count.{Count}
use Rattle.lines.specs.declared.sink.Front.{Front}
use Rattle.lines.specs.Sink.{SinkLaws}

-- a count takes any bytes, and stops at the largest number that it holds
abbrev pub count_fits : Count → ℕ → Type 0
count_fits s n = s.0 < 2 ^ 128

abbrev pub counted : Count → List ℕ → Count → Type 0
counted s xs t = t.0 ≡ min (s.0 + length xs) (2 ^ 128 - 1)

pub count_laws : SinkLaws count_fits counted
count_laws = record {
  fewer = λ s m n h f. f;
  nothing = λ s f. omega arith;
  rest = λ s t xs n f h. omega arith;
  joined = λ s t u xs ys f h k. omega (arith, length-append xs ys);
}

abbrev pub front_fits : Front → ℕ → Type 0
front_fits s n = s.at + n ≤ length s.out.now

-- the bytes stand in the same output, and it goes on after them
pub record Filled (s : Front) (xs : List ℕ) (t : Front) : Type 0 where
  pub same_reference : t.out.ghost_name ≡ s.out.ghost_name
  pub out : t.out.now ≡ pasted s.at xs s.out.now
  pub at : t.at ≡ s.at + length xs

pub front_laws : SinkLaws front_fits Filled
front_laws = record {
  fewer = λ s m n h f. omega arith;
  nothing = λ s f. record { same_reference = refl; out = pasted_none s.at s.out.now (omega arith); at = omega arith };
  rest = λ s t xs n f h. omega (arith, ap length h.out ∙ pasted_length xs s.out.now s.at (omega arith), h.at);
  joined = λ s t u xs ys f h k. record {
    same_reference = k.same_reference ∙ h.same_reference;
    out = k.out ∙ (λ i. pasted (h.at i) ys (h.out i)) ∙ pasted_more xs ys s.out.now s.at (omega arith);
    at = omega (arith, h.at, k.at, length-append xs ys);
  };
}
