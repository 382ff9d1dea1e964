use Rattle.std.proofs.Common.{◌≡◌, ℕ, ◌*◌, ◌<◌, ◌≤◌, true, [], length, get_or, drop}
use Rattle.algebra.specs.Border.{border, multiples}
use Rattle.book.specs.Kept.{begins}
use Rattle.book.specs.Laying.{extended}
use Rattle.book.specs.Leading.{leads_of}
use Rattle.book.proofs.contents.Border.lay.Given as goal

abbrev pub invariant-loop-t : goal.invariant-loop-t
invariant-loop-t l = record {
  terms : border l.set.basis.now.variables l.set.basis.now.terms ≡ extended l.set.basis.now.terms l.self.terms (multiples l.set.basis.now.variables (drop l.t-index l.set.basis.now.terms));
  bound : length l.self.terms ≤ 8 * l.t-index;
}

abbrev pub invariant-loop-i : goal.invariant-loop-i
invariant-loop-i l = record {
  terms : l.self.terms ≡ border l.set.basis.now.variables l.set.basis.now.terms;
  columns : (k : ℕ) → k < l.i → begins (leads_of l.set.basis.now.terms l.self.terms k l.set.basis.now.terms) (get_or l.self.leads.columns k []) ≡ true;
}
