use Rattle.std.proofs.Common.{◌+◌, length, get_or, drop, subst, ap, ◌∙◌, arith, length-append}
use Rattle.std.proofs.lemmas.List.{drop_all}
use Rattle.lines.specs.Line.{spaced, all_spaced}
use Rattle.lines.proofs.Says.{Along, begun, piece, piece_fits, ended, codes_step}
use Rattle.lines.proofs.text.say_codes.Goals as goal

pub loop-code-init : goal.loop-code-init
loop-code-init g c = record { along = begun g.met.S.Sink.laws c.args.sink.now (all_spaced c.args.codes.now) c.requires; few = omega arith }

pub say_spaced-requires : goal.say_spaced-requires
say_spaced-requires g c =
    let v = c.args.codes.now in
    let k = c.loop-code.code-index in
    piece_fits g.met.S.Sink.laws (spaced (get_or v k 0)) (all_spaced (drop (k + 1) v))
    (subst (Along g.S.Sink.fits g.S.Sink.took c.args.sink.now (all_spaced v) c.loop-code.sink) (codes_step v k c.loop-code-test.true) c.loop-code.invariant.along)

pub loop-code-preserved : goal.loop-code-preserved
loop-code-preserved g c =
    let v = c.args.codes.now in
    let k = c.loop-code.code-index in
    let step = codes_step v k c.loop-code-test.true in
    record {
      along =
          piece g.met.S.Sink.laws (spaced (get_or v k 0)) (all_spaced (drop (k + 1) v)) c.say_spaced.new.sink
          (subst (Along g.S.Sink.fits g.S.Sink.took c.args.sink.now (all_spaced v) c.loop-code.sink) step c.loop-code.invariant.along) c.say_spaced.ensures.bytes;
      few = omega (arith, c.loop-code.invariant.few, c.say_spaced.ensures.few, ap length step ∙ length-append (spaced (get_or v k 0)) (all_spaced (drop (k + 1) v)));
    }

pub returns : goal.returns
returns g c =
    let v = c.args.codes.now in
    let k = c.loop-code.code-index in
    let none = ap all_spaced (drop_all k v c.loop-code-test.false) in
    record {
      bytes = ended g.met.S.Sink.laws (subst (Along g.S.Sink.fits g.S.Sink.took c.args.sink.now (all_spaced v) c.loop-code.sink) none c.loop-code.invariant.along);
      few = omega (arith, c.loop-code.invariant.few, ap length none);
    }
