use Rattle.std.proofs.Common.{◌≡◌, ◌-◌, min, ◌++◌, vec_items}
use Rattle.sheet.specs.Numbers.{left}
use Rattle.report.specs.Calls.{pairs_from}
use Rattle.report.proofs.calls.Maker.pairs.Given as goal

abbrev pub invariant-loop : goal.invariant-loop
invariant-loop l = vec_items l.pairs ++ pairs_from (min l.self.n 8) (l.count - l.counter) (left l.numbers) ≡ pairs_from (min l.self.n 8) l.count (left l.initial.numbers)
