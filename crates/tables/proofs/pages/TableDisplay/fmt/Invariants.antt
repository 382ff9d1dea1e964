use Rattle.std.specs.Fmt.{HasWritten, IsPlainFormatter}
use Rattle.tables.specs.declared.pages.Line.TheVariants.{Row}
use Rattle.tables.specs.Page.{in_turn, line}
use Rattle.tables.proofs.pages.TableDisplay.fmt.Given as goal

abbrev pub invariant-loop-a : goal.invariant-loop-a
invariant-loop-a g l =
    IsPlainFormatter l.initial.f → HasWritten g.W.Write.write_str_gives l.initial.f (in_turn (λ a. line (Row l.operation a) (g.F.Field.meaning l.field)) l.a) l.f
