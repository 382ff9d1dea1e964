use Rattle.std.proofs.Common.{◌+◌, ◌/◌, ◌%◌, [], ◌∷◌, length, decimal, subst, sym, arith}
use Rattle.std.proofs.lemmas.Fmt.{decimal_step, length-decimal-le}
use Rattle.lines.proofs.Says.{begun, piece_fits, piece, left_fits, last_piece, only_digit}
use Rattle.lines.proofs.text.+say_decimal.Goals as goal

pub put-requires : goal.put-requires
put-requires g t c = subst (λ bs. g.S.Sink.fits c.args.sink.now (length bs)) (only_digit c.args.n c.if-n-lt10.true) c.requires

pub say_decimal-requires : goal.say_decimal-requires
say_decimal-requires g t c κs within =
    let step = decimal_step c.args.n c.if-n-lt10.false (omega arith) in
    let room = subst (λ bs. g.S.Sink.fits c.args.sink.now (length bs)) step c.requires in
    (omega arith, (within, piece_fits g.met.S.Sink.laws (decimal (c.args.n / 10)) ((48 + c.args.n % 10) ∷ []) (begun g.met.S.Sink.laws c.args.sink.now _ room)))

pub put-requires-else-n-lt10 : goal.put-requires-else-n-lt10
put-requires-else-n-lt10 g t c =
    let step = decimal_step c.args.n c.if-n-lt10.false (omega arith) in
    let laws = g.met.S.Sink.laws in
    let digit = (48 + c.args.n % 10) ∷ [] in
    let room = subst (λ bs. g.S.Sink.fits c.args.sink.now (length bs)) step c.requires in
    left_fits laws digit (piece laws (decimal (c.args.n / 10)) digit c.say_decimal.new.sink (begun laws c.args.sink.now _ room) c.say_decimal.ensures.bytes)

pub returns-then-n-lt10-clause-bytes : goal.returns-then-n-lt10-clause-bytes
returns-then-n-lt10-clause-bytes g t c = subst (λ bs. g.S.Sink.took c.args.sink.now bs c.put.new.self) (sym (only_digit c.args.n c.if-n-lt10.true)) c.put.ensures

pub returns-else-n-lt10-clause-bytes : goal.returns-else-n-lt10-clause-bytes
returns-else-n-lt10-clause-bytes g t c =
    let step = decimal_step c.args.n c.if-n-lt10.false (omega arith) in
    let laws = g.met.S.Sink.laws in
    let digit = (48 + c.args.n % 10) ∷ [] in
    let room = subst (λ bs. g.S.Sink.fits c.args.sink.now (length bs)) step c.requires in
    let others = piece laws (decimal (c.args.n / 10)) digit c.say_decimal.new.sink (begun laws c.args.sink.now _ room) c.say_decimal.ensures.bytes in
    subst (λ bs. g.S.Sink.took c.args.sink.now bs c.put-else-n-lt10.new.self) (sym step) (last_piece laws digit c.put-else-n-lt10.new.self others c.put-else-n-lt10.ensures)

pub returns-then-n-lt10-clause-few : goal.returns-then-n-lt10-clause-few
returns-then-n-lt10-clause-few g t c = length-decimal-le 20 c.args.n (omega arith) (omega arith) (omega arith)

pub returns-else-n-lt10-clause-few : goal.returns-else-n-lt10-clause-few
returns-else-n-lt10-clause-few g t c = length-decimal-le 20 c.args.n (omega arith) (omega arith) (omega arith)
