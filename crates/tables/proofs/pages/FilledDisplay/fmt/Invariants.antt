use Rattle.std.specs.Fmt.{HasWritten, IsPlainFormatter}
use Rattle.tables.specs.Page.{cell, in_turn, entry}
use Rattle.tables.proofs.pages.FilledDisplay.fmt.Given as goal

abbrev pub invariant-loop-b : goal.invariant-loop-b
invariant-loop-b g l =
    IsPlainFormatter l.initial.f → HasWritten g.W.Write.write_str_gives l.initial.f (in_turn (λ b. cell (entry l.line (g.F.Field.meaning l.field) b)) l.b) l.f
