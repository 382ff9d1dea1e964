use Rattle.tables.proofs.Pushes.{appended}
use Rattle.tables.proofs.text.push_text.Goals as goal

pub returns-in-Ok : goal.returns-in-Ok
returns-in-Ok g c = appended (g.D.Display.output c.args.value) c.args.out.now c.write.new.self c.in-Ok.ensures.writes
