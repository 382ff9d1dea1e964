use Rattle.std.proofs.Common.{codes}
use Rattle.lines.specs.Line.{three, clash, text}
use Rattle.lines.proofs.Says.{begun, piece, left_fits, last_piece}
use Rattle.lines.proofs.line.say_clash.Goals as goal

pub say_three-requires : goal.say_three-requires
say_three-requires g c =
    let laws = g.met.S.Sink.laws in
    let numbers = three c.args.term c.args.a c.args.b in
    left_fits laws numbers (piece laws (codes "check clash") numbers c.put.new.self (begun laws c.args.sink.now (text (clash c.args.term c.args.a c.args.b)) c.requires) c.put.ensures)

pub returns-clause-bytes : goal.returns-clause-bytes
returns-clause-bytes g c =
    let laws = g.met.S.Sink.laws in
    let numbers = three c.args.term c.args.a c.args.b in
    last_piece laws numbers c.say_three.new.sink (piece laws (codes "check clash") numbers c.put.new.self (begun laws c.args.sink.now (text (clash c.args.term c.args.a c.args.b)) c.requires) c.put.ensures) c.say_three.ensures.bytes
