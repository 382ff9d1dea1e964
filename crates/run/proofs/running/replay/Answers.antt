use Rattle.std.proofs.Common.{ap, ◌∙◌}
use Rattle.field.specs.Arithmetic.{Arithmetic}
use Rattle.book.specs.Kept.{ledger}
use Rattle.book.specs.Ledger.{new_ledger}
use Rattle.run.specs.Runs.{run}
use Rattle.run.specs.Lines.{steps_of, listed}
use Rattle.run.proofs.Law.{run_law, run_tells}
use Rattle.run.proofs.Replaying.{replaying_more, replaying_all}
use Rattle.run.proofs.running.replay.Goals as goal

pub loop-line-preserved : goal.loop-line-preserved
loop-line-preserved g c = (
  c.perform.ensures.field ∙ c.loop-line.invariant.0,
  replaying_more (g.F.Field.meaning c.new-book.result.field) (g.F.Field.meaning c.loop-line.book.field) c.args.lines.now c.loop-line.lines c.loop-line.line-index _ c.perform.new.call c.perform.result (ledger c.loop-line.book.contents) (ledger c.perform.new.book.contents)
      c.loop-line-test.true c.loop-line.auto.lines (ap g.F.Field.meaning c.loop-line.invariant.0) c.loop-line.invariant.1 c.perform.ensures.answer c.perform.ensures.after c.perform.ensures.finish,
)

pub returns : goal.returns
returns g c =
    let A = g.F.Field.meaning c.args.field in
    let ss = steps_of c.args.lines.now in
    let ran = replaying_all (g.F.Field.meaning c.new-book.result.field) c.args.lines.now c.loop-line.lines c.loop-line.line-index (ledger c.loop-line.book.contents) c.loop-line-test.false c.loop-line.auto.lines c.loop-line.invariant.1
    ∙ ap (λ (B : Arithmetic). listed (run B new_ledger ss)) (ap g.F.Field.meaning c.new-book.ensures.field) in
    record { run = ran; law = record { ran = run A new_ledger ss; lines = ran; keeps_law = run_law A (g.met.F.Field.lawful c.args.field) ss }; told = record { ran = run A new_ledger ss; lines = ran; tells = run_tells A (g.met.F.Field.lawful c.args.field) ss } }
