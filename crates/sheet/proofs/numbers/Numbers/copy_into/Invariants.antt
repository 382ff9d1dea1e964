use Rattle.std.proofs.Common.{◌≡◌, ◌≤◌, ◌++◌, length, take, drop}
use Rattle.sheet.specs.Numbers.{left}
use Rattle.sheet.proofs.numbers.Numbers.copy_into.Given as goal

abbrev pub invariant-loop-k : goal.invariant-loop-k
invariant-loop-k l = (l.k ≤ length (left l.initial.self)) × (l.out ≡ take l.k (left l.initial.self) ++ drop l.k l.initial.out) × (left l.self ≡ drop l.k (left l.initial.self))
