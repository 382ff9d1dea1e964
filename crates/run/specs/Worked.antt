-- Worked runs of calls on a new book over the field of order 3. Assumes nothing.
use Rattle.std.specs.Prelude.{◌≡◌, ℕ, true, false, List, [], ◌∷◌, ◌++◌, map, take, drop, Ok, Err, Result}
use Rattle.field.specs.Supplied.{modulo}
use Rattle.algebra.specs.Term.{one}
use Rattle.algebra.specs.Border.{Row}
use Rattle.algebra.specs.Worked.{xy, square}
use Rattle.algebra.specs.declared.Entry.{Entry}
use Rattle.book.specs.declared.refusal.Refusal.{Refusal}
use Rattle.book.specs.declared.refusal.Refusal.TheVariants.{WrongPhase, RuleMissing}
use Rattle.book.specs.declared.verdict.Verdict.TheVariants.{Consistent, Clashes}
use Rattle.book.specs.Ledger.{new_ledger}
use Rattle.run.specs.declared.call.Answer.{Answer}
use Rattle.run.specs.declared.call.Answer.TheVariants.{Done, Border, Checked, Formed, Counted}
use Rattle.run.specs.Calls.{Step, lay, term, close, rule, strike, check, form, cofactor}
use Rattle.run.specs.Runs.{Ran, run}

-- a slot that no call here writes
abbrev pub blank : Entry
blank = record { code = 7; multiplier = one; place = 7 }

abbrev pub ten : List Entry
ten = blank ∷ blank ∷ blank ∷ blank ∷ blank ∷ blank ∷ blank ∷ blank ∷ blank ∷ blank ∷ []

abbrev pub eight : List Entry
eight = blank ∷ blank ∷ blank ∷ blank ∷ blank ∷ blank ∷ blank ∷ blank ∷ []

-- S = 1, x1, x2, x1x2 with x1² = 1, x2² = x2, x1²x2 = x2 and the given row for x1x2², then the given calls
abbrev pub square_with : Row → List Step → List Step
square_with r ss =
    lay 2 ∷ (map term square ++
    (close ∷ rule (xy 2 0) 1 (1 ∷ 0 ∷ 0 ∷ 0 ∷ []) ∷ rule (xy 0 2) 1 (0 ∷ 0 ∷ 1 ∷ 0 ∷ []) ∷ rule (xy 2 1) 1 (0 ∷ 0 ∷ 1 ∷ 0 ∷ []) ∷ rule (xy 1 2) 1 r ∷ ss))

abbrev pub said : List Ran → List (Result Answer Refusal)
said xs = map (λ (x : Ran). x.1) xs

-- S = 1, x1, x1x2 with x2 = x1x2, x1² = x1, x1²x2 = x1x2, x1x2² = x1x2
abbrev pub chain : List Step → List Step
chain ss =
    lay 2 ∷ term (xy 0 0) ∷ term (xy 1 0) ∷ term (xy 1 1) ∷ close ∷ rule (xy 0 1) 1 (0 ∷ 0 ∷ 1 ∷ []) ∷ rule (xy 2 0) 1 (0 ∷ 1 ∷ 0 ∷ []) ∷ rule (xy 2 1) 1 (0 ∷ 0 ∷ 1 ∷ []) ∷ rule (xy 1 2) 1 (0 ∷ 0 ∷ 1 ∷ []) ∷ ss

-- S = 1, x1 with x2 = 1, x1² = 0, x1x2 = 0
abbrev pub short : List Step → List Step
short ss = lay 2 ∷ term (xy 0 0) ∷ term (xy 1 0) ∷ close ∷ rule (xy 0 1) 1 (1 ∷ 0 ∷ []) ∷ rule (xy 2 0) 1 (0 ∷ 0 ∷ []) ∷ rule (xy 1 1) 1 (0 ∷ 0 ∷ []) ∷ ss

abbrev pub fours : Row
fours = 7 ∷ 7 ∷ 7 ∷ 7 ∷ []

-- the runs of the calls after the first k
abbrev pub from : ℕ → List Step → List Ran
from k ss = drop k (run (modulo 3) new_ledger ss)

pub record WorkedRuns : Type 0 where
  pub square_border : said (take 6 (run (modulo 3) new_ledger (square_with (0 ∷ 0 ∷ 1 ∷ 0 ∷ []) []))) ≡ Ok Done ∷ Ok Done ∷ Ok Done ∷ Ok Done ∷ Ok Done ∷ Ok (Border 4) ∷ []
  pub square_clashes : from 10 (square_with (0 ∷ 0 ∷ 1 ∷ 0 ∷ []) (check fours ten ∷ form [] fours ∷ [])) ≡
      (check (0 ∷ 0 ∷ 2 ∷ 1 ∷ []) (record { code = 1; multiplier = one; place = 4 } ∷ record { code = 2; multiplier = xy 1 0; place = 2 } ∷ eight), Ok (Checked (Clashes 3 1 2 2))) ∷ (form [] fours, Err WrongPhase) ∷ []
  pub square_sound : from 10 (square_with (0 ∷ 0 ∷ 0 ∷ 1 ∷ []) (check fours ten ∷ form [] fours ∷ cofactor [] fours [] ∷ [])) ≡
      (check (0 ∷ 0 ∷ 0 ∷ 0 ∷ []) ten, Ok (Checked Consistent)) ∷ (form [] (0 ∷ 0 ∷ 0 ∷ 0 ∷ []), Ok (Formed true)) ∷ (cofactor [] (0 ∷ 0 ∷ 0 ∷ 0 ∷ []) [], Ok (Counted 0 1)) ∷ []
  pub verdict_ends : from 10 (square_with (0 ∷ 0 ∷ 0 ∷ 1 ∷ []) (check fours ten ∷ rule (xy 1 2) 1 (0 ∷ 0 ∷ 0 ∷ 1 ∷ []) ∷ form [] fours ∷ strike (xy 0 2) ∷ check fours ten ∷ [])) ≡
      (check (0 ∷ 0 ∷ 0 ∷ 0 ∷ []) ten, Ok (Checked Consistent)) ∷ (rule (xy 1 2) 1 (0 ∷ 0 ∷ 0 ∷ 1 ∷ []), Ok Done) ∷ (form [] fours, Err WrongPhase) ∷ (strike (xy 0 2), Ok Done) ∷ (check fours ten, Err (RuleMissing 2)) ∷ []
  pub chain_sound : from 9 (chain (check (7 ∷ 7 ∷ 7 ∷ []) eight ∷ form ((1, xy 0 2) ∷ []) (7 ∷ 7 ∷ 7 ∷ []) ∷ [])) ≡
      (check (0 ∷ 0 ∷ 0 ∷ []) eight, Ok (Checked Consistent)) ∷ (form ((1, xy 0 2) ∷ []) (0 ∷ 0 ∷ 1 ∷ []), Ok (Formed false)) ∷ []
  pub short_clashes : said (from 7 (short (check (7 ∷ 7 ∷ []) eight ∷ []))) ≡ Ok (Checked (Clashes 1 1 2 2)) ∷ []
