use Rattle.std.proofs.Common.{◌≡◌, ◌+◌, ◌-◌, ◌≤◌, length}
use Rattle.algebra.specs.Border.{multiples_from}
use Rattle.book.specs.Laying.{extended}
use Rattle.book.proofs.contents.Border.lay_products.Given as goal

abbrev pub invariant-loop-i : goal.invariant-loop-i
invariant-loop-i l = record {
  terms : extended l.set.basis.now.terms l.initial.self.terms (multiples_from 0 l.set.basis.now.variables l.t) ≡ extended l.set.basis.now.terms l.self.terms (multiples_from l.i (l.set.basis.now.variables - l.i) l.t);
  bound : length l.self.terms ≤ length l.initial.self.terms + l.i;
}
