use Rattle.std.proofs.Common.{◌++◌, [], ◌∷◌}
use Rattle.lines.specs.Line.{spaced, three}
use Rattle.lines.proofs.Says.{begun, piece, piece_fits, left_fits, last_piece}
use Rattle.lines.proofs.text.say_three.Goals as goal

pub say_spaced-requires-2 : goal.say_spaced-requires-2
say_spaced-requires-2 g c =
    let laws = g.met.S.Sink.laws in
    let one = piece laws (spaced c.args.a) (spaced c.args.b ++ (spaced c.args.c ++ 10 ∷ [])) c.say_spaced.new.sink (begun laws c.args.sink.now (three c.args.a c.args.b c.args.c) c.requires) c.say_spaced.ensures.bytes in
    piece_fits laws (spaced c.args.b) (spaced c.args.c ++ 10 ∷ []) one

pub say_spaced-requires-3 : goal.say_spaced-requires-3
say_spaced-requires-3 g c =
    let laws = g.met.S.Sink.laws in
    let one = piece laws (spaced c.args.a) (spaced c.args.b ++ (spaced c.args.c ++ 10 ∷ [])) c.say_spaced.new.sink (begun laws c.args.sink.now (three c.args.a c.args.b c.args.c) c.requires) c.say_spaced.ensures.bytes in
    let two = piece laws (spaced c.args.b) (spaced c.args.c ++ 10 ∷ []) c.say_spaced-2.new.sink one c.say_spaced-2.ensures.bytes in
    piece_fits laws (spaced c.args.c) (10 ∷ []) two

pub put-requires : goal.put-requires
put-requires g c =
    let laws = g.met.S.Sink.laws in
    let one = piece laws (spaced c.args.a) (spaced c.args.b ++ (spaced c.args.c ++ 10 ∷ [])) c.say_spaced.new.sink (begun laws c.args.sink.now (three c.args.a c.args.b c.args.c) c.requires) c.say_spaced.ensures.bytes in
    let two = piece laws (spaced c.args.b) (spaced c.args.c ++ 10 ∷ []) c.say_spaced-2.new.sink one c.say_spaced-2.ensures.bytes in
    let all = piece laws (spaced c.args.c) (10 ∷ []) c.say_spaced-3.new.sink two c.say_spaced-3.ensures.bytes in
    left_fits laws (10 ∷ []) all

pub returns-clause-bytes : goal.returns-clause-bytes
returns-clause-bytes g c =
    let laws = g.met.S.Sink.laws in
    let one = piece laws (spaced c.args.a) (spaced c.args.b ++ (spaced c.args.c ++ 10 ∷ [])) c.say_spaced.new.sink (begun laws c.args.sink.now (three c.args.a c.args.b c.args.c) c.requires) c.say_spaced.ensures.bytes in
    let two = piece laws (spaced c.args.b) (spaced c.args.c ++ 10 ∷ []) c.say_spaced-2.new.sink one c.say_spaced-2.ensures.bytes in
    let all = piece laws (spaced c.args.c) (10 ∷ []) c.say_spaced-3.new.sink two c.say_spaced-3.ensures.bytes in
    last_piece laws (10 ∷ []) c.put.new.self all c.put.ensures
