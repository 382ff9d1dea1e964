-- What a sink of bytes keeps: its bytes come one after another, and its room is used up by them alone. Assumes nothing.
use Rattle.std.specs.Prelude.{ℕ, ◌+◌, ◌≤◌, List, [], ◌++◌, length}

pub record SinkLaws {S : Type 0} (fits : S → ℕ → Type 0) (took : S → List ℕ → S → Type 0) : Type 0 where
  pub fewer : (s : S) (m n : ℕ) → m ≤ n → fits s n → fits s m
  pub nothing : (s : S) → fits s 0 → took s [] s
  pub rest : (s t : S) (xs : List ℕ) (n : ℕ) → fits s (length xs + n) → took s xs t → fits t n
  pub joined : (s t u : S) (xs ys : List ℕ) → fits s (length xs + length ys) → took s xs t → took t ys u → took s (xs ++ ys) u
