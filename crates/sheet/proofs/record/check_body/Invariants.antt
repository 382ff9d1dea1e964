use Rattle.std.proofs.Common.{◌≡◌, ◌+◌, ◌-◌, ◌≤◌, length}
use Rattle.sheet.specs.Body.{check_numbers, check_body}
use Rattle.sheet.proofs.record.check_body.Given as goal

abbrev pub invariant-loop-rest : goal.invariant-loop-rest
invariant-loop-rest l =
    (check_numbers l.kind l.n l.place.byte l.place.count (length l.body - l.j) l.j l.whole l.at.byte l.rest
    ≡ check_body l.kind l.n l.place.byte l.place.count (l.place.byte + l.from) l.body)
    × (l.at.count ≡ l.place.count)
    × (l.j + length l.rest ≤ length l.body)
    × (l.at.byte + length l.rest ≡ l.place.byte + l.from + length l.body)

abbrev pub decreases-loop-rest : goal.decreases-loop-rest
decreases-loop-rest l = length l.rest
