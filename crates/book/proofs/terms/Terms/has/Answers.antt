use Rattle.std.proofs.Common.{ap, ◌∙◌}
use Rattle.std.specs.Option.{is_some}
use Rattle.book.proofs.Searching.{found_has}
use Rattle.book.proofs.terms.Terms.has.Goals as goal

pub returns : goal.returns
returns g c = c.is_some.ensures ∙ ap is_some c.place.ensures.value ∙ found_has c.args.t.now c.args.self.now
