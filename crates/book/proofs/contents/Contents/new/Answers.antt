use Rattle.std.proofs.Common.{refl}
use Rattle.book.specs.Kept.{coherent}
use Rattle.book.proofs.contents.Contents.new.Goals as goal

pub returns-clause-kept : goal.returns-clause-kept
unfolding coherent
returns-clause-kept c = rw (c.new.ensures, c.new-2.ensures) refl
