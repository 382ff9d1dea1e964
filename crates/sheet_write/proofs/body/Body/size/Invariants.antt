use Rattle.std.proofs.Common.{◌≡◌, ◌≤◌, length, take, drop}
use Rattle.sheet_write.specs.Writing.{flat, allowed}
use Rattle.sheet_write.proofs.body.Body.size.Given as goal

abbrev pub invariant-loop-j : goal.invariant-loop-j
invariant-loop-j l = (l.size ≡ length (flat (take l.j l.self.numbers.now))) × (l.size ≤ 65520) × (allowed l.self.kind l.self.n l.j (drop l.j l.self.numbers.now) ≡ allowed l.self.kind l.self.n 0 l.self.numbers.now)
