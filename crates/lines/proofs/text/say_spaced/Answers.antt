use Rattle.std.proofs.Common.{[], ◌∷◌, decimal}
use Rattle.lines.specs.Line.{spaced}
use Rattle.lines.proofs.Says.{begun, piece, left_fits, last_piece}
use Rattle.lines.proofs.text.say_spaced.Goals as goal

pub say_decimal-requires : goal.say_decimal-requires
say_decimal-requires g c =
    let laws = g.met.S.Sink.laws in
    left_fits laws (decimal c.args.n) (piece laws (32 ∷ []) (decimal c.args.n) c.put.new.self (begun laws c.args.sink.now (spaced c.args.n) c.requires) c.put.ensures)

pub returns-clause-bytes : goal.returns-clause-bytes
returns-clause-bytes g c =
    let laws = g.met.S.Sink.laws in
    last_piece laws (decimal c.args.n) c.say_decimal.new.sink (piece laws (32 ∷ []) (decimal c.args.n) c.put.new.self (begun laws c.args.sink.now (spaced c.args.n) c.requires) c.put.ensures) c.say_decimal.ensures.bytes
