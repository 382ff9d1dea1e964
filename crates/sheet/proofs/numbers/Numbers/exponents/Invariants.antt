use Rattle.std.proofs.Common.{◌≡◌, ℕ, min, ◌<◌, drop, get_or}
use Rattle.sheet.specs.Numbers.{left}
use Rattle.sheet.proofs.numbers.Numbers.exponents.Given as goal

abbrev pub invariant-loop-exponent : goal.invariant-loop-exponent
invariant-loop-exponent l =
    ((k : ℕ) → k < l.exponent-index → get_or l.exponent-items k 0 ≡ min (get_or (left l.initial.self) k 0) 255)
    × (left l.self ≡ drop l.exponent-index (left l.initial.self))
