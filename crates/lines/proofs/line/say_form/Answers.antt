use Rattle.std.proofs.Common.{◌++◌, [], ◌∷◌, length, codes, subst, sym}
use Rattle.lines.specs.Line.{all_spaced, spaced, member_word, form, text}
use Rattle.lines.proofs.Says.{begun, piece, piece_fits, left_fits, last_piece}
use Rattle.lines.proofs.line.say_form.Goals as goal

pub say_codes-requires : goal.say_codes-requires
say_codes-requires g c =
    let laws = g.met.S.Sink.laws in
    let v = all_spaced c.args.codes.now in
    let w = member_word c.args.member in
    let n = spaced c.args.count in
    let one = piece laws (codes "form") (v ++ (w ++ (n ++ 10 ∷ []))) c.put.new.self (begun laws c.args.sink.now (text (form c.args.codes.now c.args.member c.args.count)) c.requires) c.put.ensures in
    piece_fits laws v (w ++ (n ++ 10 ∷ [])) one

pub put-requires-2 : goal.put-requires-2
put-requires-2 g c =
    let laws = g.met.S.Sink.laws in
    let v = all_spaced c.args.codes.now in
    let w = member_word c.args.member in
    let n = spaced c.args.count in
    let one = piece laws (codes "form") (v ++ (w ++ (n ++ 10 ∷ []))) c.put.new.self (begun laws c.args.sink.now (text (form c.args.codes.now c.args.member c.args.count)) c.requires) c.put.ensures in
    let two = piece laws v (w ++ (n ++ 10 ∷ [])) c.say_codes.new.sink one c.say_codes.ensures.bytes in
    subst (λ bs. g.S.Sink.fits c.say_codes.new.sink (length bs)) (sym c.member_word.ensures) (piece_fits laws w (n ++ 10 ∷ []) two)

pub say_spaced-requires : goal.say_spaced-requires
say_spaced-requires g c =
    let laws = g.met.S.Sink.laws in
    let v = all_spaced c.args.codes.now in
    let w = member_word c.args.member in
    let n = spaced c.args.count in
    let one = piece laws (codes "form") (v ++ (w ++ (n ++ 10 ∷ []))) c.put.new.self (begun laws c.args.sink.now (text (form c.args.codes.now c.args.member c.args.count)) c.requires) c.put.ensures in
    let two = piece laws v (w ++ (n ++ 10 ∷ [])) c.say_codes.new.sink one c.say_codes.ensures.bytes in
    let three = piece laws w (n ++ 10 ∷ []) c.put-2.new.self two (subst (λ bs. g.S.Sink.took c.say_codes.new.sink bs c.put-2.new.self) c.member_word.ensures c.put-2.ensures) in
    piece_fits laws n (10 ∷ []) three

pub put-requires-3 : goal.put-requires-3
put-requires-3 g c =
    let laws = g.met.S.Sink.laws in
    let v = all_spaced c.args.codes.now in
    let w = member_word c.args.member in
    let n = spaced c.args.count in
    let one = piece laws (codes "form") (v ++ (w ++ (n ++ 10 ∷ []))) c.put.new.self (begun laws c.args.sink.now (text (form c.args.codes.now c.args.member c.args.count)) c.requires) c.put.ensures in
    let two = piece laws v (w ++ (n ++ 10 ∷ [])) c.say_codes.new.sink one c.say_codes.ensures.bytes in
    let three = piece laws w (n ++ 10 ∷ []) c.put-2.new.self two (subst (λ bs. g.S.Sink.took c.say_codes.new.sink bs c.put-2.new.self) c.member_word.ensures c.put-2.ensures) in
    let four = piece laws n (10 ∷ []) c.say_spaced.new.sink three c.say_spaced.ensures.bytes in
    left_fits laws (10 ∷ []) four

pub returns-clause-bytes : goal.returns-clause-bytes
returns-clause-bytes g c =
    let laws = g.met.S.Sink.laws in
    let v = all_spaced c.args.codes.now in
    let w = member_word c.args.member in
    let n = spaced c.args.count in
    let one = piece laws (codes "form") (v ++ (w ++ (n ++ 10 ∷ []))) c.put.new.self (begun laws c.args.sink.now (text (form c.args.codes.now c.args.member c.args.count)) c.requires) c.put.ensures in
    let two = piece laws v (w ++ (n ++ 10 ∷ [])) c.say_codes.new.sink one c.say_codes.ensures.bytes in
    let three = piece laws w (n ++ 10 ∷ []) c.put-2.new.self two (subst (λ bs. g.S.Sink.took c.say_codes.new.sink bs c.put-2.new.self) c.member_word.ensures c.put-2.ensures) in
    let four = piece laws n (10 ∷ []) c.say_spaced.new.sink three c.say_spaced.ensures.bytes in
    last_piece laws (10 ∷ []) c.put-3.new.self four c.put-3.ensures
