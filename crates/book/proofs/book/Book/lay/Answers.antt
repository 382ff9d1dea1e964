use Rattle.std.proofs.Common.{arith}
use Rattle.book.proofs.Filling.{cleared_kept}
use Rattle.book.proofs.book.Book.lay.Goals as goal

pub invariant_of-self : goal.invariant_of-self
invariant_of-self g c = record { kept = rw (c.clear.ensures, c.clear-2.ensures) (cleared_kept c.args.self.now.contents c.args.variables c.args.self.now.kept (omega arith) (omega arith)) }
