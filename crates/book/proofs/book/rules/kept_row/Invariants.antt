use Rattle.std.proofs.Common.{◌≡◌, ℕ, ◌++◌, map, take, drop}
use Rattle.book.proofs.book.rules.kept_row.Given as goal

abbrev pub invariant-loop-code : goal.invariant-loop-code
invariant-loop-code g l =
    l.kept ≡ map (λ (c : ℕ). (g.F.Field.meaning l.f).product c l.inverse) (take l.code-index l.row) ++ drop l.code-index l.row
