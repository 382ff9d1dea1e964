use Rattle.std.proofs.Common.{ℕ, ◌++◌, drop, replicate, None, Err, Option, sym, refl, ap, ◌∙◌, arith}
use Rattle.std.proofs.lemmas.Result.{err_from_is_err_and}
use Rattle.book.specs.declared.refusal.Refusal.{Refusal}
use Rattle.book.specs.Judge.{on_grant}
use Rattle.book.specs.Effects.{closed}
use Rattle.book.specs.Kept.{ledger}
use Rattle.book.proofs.Granting.{refused_answer, refused_stays}
use Rattle.book.proofs.Keeping.{facts}
use Rattle.book.proofs.Closing.{close_judged, close_connected, shut_kept}
use Rattle.book.proofs.book.Book.close.Goals as goal

pub invariant_of-set : goal.invariant_of-set
invariant_of-set g c =
    let k = c.args.self.now.contents in
    record { few = (facts k c.args.self.now.kept).few_variables; linked = close_connected k c.args.self.now.kept (close_judged k _ c.in_ok-judge_close.ensures) }

pub invariant_of-self : goal.invariant_of-self
invariant_of-self g c =
    let k = c.args.self.now.contents in
    let e = close_judged k _ c.in_ok-judge_close.ensures in
    let struck = c.clear.ensures ∙ ap (λ (m : ℕ). replicate m None ++ drop m k.rules.rows) c.len-count.ensures.value in
    record { kept = (shut_kept k c.lay.new.self c.clear.new.self c.args.self.now.kept e c.lay.ensures.terms (omega (arith, c.len-count.ensures)) c.lay.ensures.leads struck).still_kept }

pub returns-clause-after : goal.returns-clause-after
returns-clause-after g c =
    let k = c.args.self.now.contents in
    let e = close_judged k _ c.in_ok-judge_close.ensures in
    let struck = c.clear.ensures ∙ ap (λ (m : ℕ). replicate m None ++ drop m k.rules.rows) c.len-count.ensures.value in
    (shut_kept k c.lay.new.self c.clear.new.self c.args.self.now.kept e c.lay.ensures.terms (omega (arith, c.len-count.ensures)) c.lay.ensures.leads struck).is_ledger
    ∙ ap (λ (o : Option Refusal). on_grant o (closed (ledger k)) (ledger k)) (sym e)

pub returns-in_err-judge_close : goal.returns-in_err-judge_close
returns-in_err-judge_close g c =
    let p = err_from_is_err_and c.from_residual.result c.from_residual.ensures.1 in
    let q = c.in_err-judge_close.ensures in
    record { answer = p.1 ∙ ap Err p.2 ∙ refused_answer _ _ q _; after = refused_stays _ _ tt q _ _; field = refl }
