use Rattle.std.proofs.Common.{length, sym, ap, ◌∙◌, arith, length-drop}
use Rattle.sheet.specs.Numbers.{left}
use Rattle.sheet.proofs.Copies.{copy_step}
use Rattle.sheet.proofs.numbers.Numbers.copy_into.Goals as goal

pub returns-in-None-clause-value : goal.returns-in-None-clause-value
returns-in-None-clause-value c =
    omega (arith, c.loop-k.invariant.0, ap length (sym c.loop-k.invariant.2 ∙ c.in-None.ensures.steps.0), length-drop c.loop-k.k (left c.args.self.now))

pub loop-k-preserved : goal.loop-k-preserved
loop-k-preserved c =
    copy_step (left c.args.self.now) (left c.next.new.self) c.loop-k.out c.args.out.now c.loop-k.k c.in-Some.x c.loop-k.invariant.1 (sym c.loop-k.invariant.2 ∙ c.in-Some.ensures.steps) (omega arith)
