use Rattle.std.proofs.Common.{sym, ◌∙◌}
use Rattle.algebra.proofs.Terms.{has_append_left, has_append_right}
use Rattle.book.proofs.Laying.{one_known, one_new}
use Rattle.book.proofs.contents.Border.lay_product.Goals as goal
use Rattle.book.proofs.contents.Border.lay_product.Goals.{else-not-has-via-then-not-has+else-not-has-2, else-not-has-via-else-not-has}

pub returns-then-not-has-2-clause-terms : goal.returns-then-not-has-2-clause-terms
returns-then-not-has-2-clause-terms c = c.push.ensures ∙ one_new c.args.basis.now.terms c.args.self.now.terms c.args.e (sym c.if-not-has.ensures) (sym c.if-not-has-2.ensures)

pub returns-else-not-has-clause-terms : goal.returns-else-not-has-clause-terms
returns-else-not-has-clause-terms c =
    let S = c.args.basis.now.terms in
    let E = c.args.self.now.terms in
    one_known S E c.args.e (elim c.else-not-has.branch [
      | else-not-has-via-then-not-has+else-not-has-2 w ↦ has_append_right c.args.e S E (sym w.has-then-not-has.ensures ∙ w.if-not-has-2.false)
      | else-not-has-via-else-not-has w ↦ has_append_left c.args.e S E (sym c.has.ensures ∙ w.if-not-has.false)
    ])
