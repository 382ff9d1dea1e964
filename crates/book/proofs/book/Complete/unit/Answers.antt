use Rattle.std.proofs.Common.{ℕ, List, set, ap, ◌∙◌}
use Rattle.book.proofs.Ready.{unit_at}
use Rattle.book.proofs.book.Complete.unit.Goals as goal

pub returns : goal.returns
returns g c =
    ap (λ (v : List ℕ). set v c.args.j 1) c.clear.ensures
    ∙ unit_at c.args.self.now.contents.now c.args.self.now.kept c.args.self.now.ready c.args.row.now c.args.j c.requires.1 c.requires.0
