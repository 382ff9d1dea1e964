use Rattle.std.proofs.Common.{◌+◌, ◌*◌, ◌≤◌, length, drop}
use Rattle.lines.specs.Line.{all_spaced}
use Rattle.lines.proofs.Says.{Along}
use Rattle.lines.proofs.text.say_codes.Given as goal

abbrev pub invariant-loop-code : goal.invariant-loop-code
invariant-loop-code g l = record {
  along : Along g.S.Sink.fits g.S.Sink.took l.initial.sink (all_spaced l.codes) l.sink (all_spaced (drop l.code-index l.codes));
  few : length (all_spaced l.codes) ≤ 21 * l.code-index + length (all_spaced (drop l.code-index l.codes));
}
