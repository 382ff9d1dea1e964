use Rattle.std.proofs.Common.{◌≡◌, ◌++◌, length, codes, subst, ap, ◌∙◌, sym}
use Rattle.lines.specs.Fault.{number_of, byte_of, record_of, layer_of}
use Rattle.lines.specs.Line.{three, name, fault, text}
use Rattle.lines.proofs.Says.{begun, piece, piece_fits, left_fits, last_piece}
use Rattle.lines.proofs.line.say_fault.Goals as goal

pub put-requires-2 : goal.put-requires-2
put-requires-2 g c =
    let laws = g.met.S.Sink.laws in
    let f = c.args.fault in
    let layer = name (layer_of f) in
    let numbers = three (number_of f) (byte_of f) (record_of f) in
    let word : c.as_bytes.result.now ≡ layer = c.as_bytes.ensures.value ∙ c.name.ensures ∙ ap name c.layer.ensures in
    let one = piece laws (codes "fault ") (layer ++ numbers) c.put.new.self (begun laws c.args.sink.now (text (fault f)) c.requires) c.put.ensures in
    subst (λ bs. g.S.Sink.fits c.put.new.self (length bs)) (sym word) (piece_fits laws layer numbers one)

pub say_three-requires : goal.say_three-requires
say_three-requires g c =
    let laws = g.met.S.Sink.laws in
    let f = c.args.fault in
    let layer = name (layer_of f) in
    let numbers = three (number_of f) (byte_of f) (record_of f) in
    let word : c.as_bytes.result.now ≡ layer = c.as_bytes.ensures.value ∙ c.name.ensures ∙ ap name c.layer.ensures in
    let are : three c.number.result c.byte.result c.record.result ≡ numbers = λ i. three (c.number.ensures i) (c.byte.ensures i) (c.record.ensures i) in
    let one = piece laws (codes "fault ") (layer ++ numbers) c.put.new.self (begun laws c.args.sink.now (text (fault f)) c.requires) c.put.ensures in
    let two = piece laws layer numbers c.put-2.new.self one (subst (λ bs. g.S.Sink.took c.put.new.self bs c.put-2.new.self) word c.put-2.ensures) in
    subst (λ bs. g.S.Sink.fits c.put-2.new.self (length bs)) (sym are) (left_fits laws numbers two)

pub returns-clause-bytes : goal.returns-clause-bytes
returns-clause-bytes g c =
    let laws = g.met.S.Sink.laws in
    let f = c.args.fault in
    let layer = name (layer_of f) in
    let numbers = three (number_of f) (byte_of f) (record_of f) in
    let word : c.as_bytes.result.now ≡ layer = c.as_bytes.ensures.value ∙ c.name.ensures ∙ ap name c.layer.ensures in
    let are : three c.number.result c.byte.result c.record.result ≡ numbers = λ i. three (c.number.ensures i) (c.byte.ensures i) (c.record.ensures i) in
    let one = piece laws (codes "fault ") (layer ++ numbers) c.put.new.self (begun laws c.args.sink.now (text (fault f)) c.requires) c.put.ensures in
    let two = piece laws layer numbers c.put-2.new.self one (subst (λ bs. g.S.Sink.took c.put.new.self bs c.put-2.new.self) word c.put-2.ensures) in
    last_piece laws numbers c.say_three.new.sink two (subst (λ bs. g.S.Sink.took c.put-2.new.self bs c.say_three.new.sink) are c.say_three.ensures.bytes)
