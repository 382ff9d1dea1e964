-- The lines that a replay is given and leaves. Assumes nothing.
use Rattle.std.specs.Prelude.{◌≡◌, false, List, [], ◌∷◌, Some, Option, Result}
use Rattle.field.specs.Arithmetic.{Arithmetic}
use Rattle.book.specs.declared.refusal.Refusal.{Refusal}
use Rattle.book.specs.Ledger.{new_ledger}
use Rattle.run.specs.declared.call.Answer.{Answer}
use Rattle.run.specs.declared.call.Line.{Line}
use Rattle.run.specs.Calls.{Step, step_of}
use Rattle.run.specs.Runs.{Ran, RunLaw}
use Rattle.run.specs.Further.{RunTells}

abbrev pub steps_of : List Line → List Step
steps_of [] = []
steps_of (l ∷ ls) = step_of l.call ∷ steps_of ls

-- the calls with their slices as they stand, and the answers noted beside them
abbrev pub noted : List Line → List (Step × Option (Result Answer Refusal))
noted [] = []
noted (l ∷ ls) = (step_of l.call, l.answer) ∷ noted ls

abbrev pub listed : List Ran → List (Step × Option (Result Answer Refusal))
listed [] = []
listed (x ∷ xs) = (x.0, Some x.1) ∷ listed xs

-- what the lines hold afterwards is a run of their calls on a new book, and every call of that run keeps the law
pub record Replayed (A : Arithmetic) (before after : List Line) : Type 0 where
  pub ran : List Ran
  pub lines : noted after ≡ listed ran
  pub keeps_law : RunLaw A false new_ledger (steps_of before) ran

-- what the lines hold afterwards is a run of their calls on a new book, and every call of that run tells what is promised beside the law
pub record Told (A : Arithmetic) (before after : List Line) : Type 0 where
  pub ran : List Ran
  pub lines : noted after ≡ listed ran
  pub tells : RunTells A false new_ledger (steps_of before) ran
