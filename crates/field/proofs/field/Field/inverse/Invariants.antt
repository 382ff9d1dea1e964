use Rattle.std.proofs.Common.{◌≡◌, ℕ, ◌<◌}
use Rattle.field.proofs.field.Field.inverse.Given as goal

abbrev pub invariant-loop-b : goal.invariant-loop-b
invariant-loop-b g l = (k : ℕ) → k < l.b → (g.Self.Field.meaning l.self).product l.a k ≡ 1 → ⊥
