use Rattle.std.proofs.Common.{Err, refl, ap, ◌∙◌}
use Rattle.std.proofs.lemmas.Result.{err_from_is_err_and, IfOk-from_err}
use Rattle.book.specs.declared.phase.Event.TheVariants.{GiveRule}
use Rattle.book.proofs.Judging.{past_border}
use Rattle.book.proofs.book.Book.judge_rule.Goals as goal

pub returns-in_err-place : goal.returns-in_err-place
returns-in_err-place g c =
    let back = c.from_residual-in_err-place in
    let p = err_from_is_err_and back.result back.ensures.1 in
    let a = c.in_ok-admit.ensures in
    let b = c.in_err-place.ensures.value in
    record { value = p.1 ∙ ap Err p.2 ∙ past_border c.args.self.now.contents GiveRule refl _ a c.args.e.now _ _ _ _ b; bound = IfOk-from_err back.result _ back.ensures.0 }
