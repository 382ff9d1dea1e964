use Rattle.std.proofs.Common.{Bool, Ok, Err, Option, Result, sym, ap, ◌∙◌, subst}
use Rattle.std.proofs.lemmas.Result.{err_from_is_err_and}
use Rattle.field.specs.Arithmetic.{ring}
use Rattle.algebra.specs.Border.{Row}
use Rattle.algebra.specs.Walk.{normal_form, all_zero}
use Rattle.book.specs.declared.refusal.Refusal.{Refusal}
use Rattle.book.specs.Judge.{granted}
use Rattle.book.specs.Ledger.{system}
use Rattle.book.specs.Kept.{ledger}
use Rattle.book.specs.Promise.{Formed, FormMeans}
use Rattle.book.proofs.Granting.{none_from, granted_now, refused_other, refused_stays}
use Rattle.book.proofs.Ready.{ready_contents}
use Rattle.book.proofs.Meaning.{form_means}
use Rattle.book.proofs.Answering.{form_call}
use Rattle.book.proofs.book.Book.form.Goals as goal

pub complete-requires : goal.complete-requires
complete-requires g c = (form_call c.args.self.now.contents c.args.self.now.kept _ c.args.p.now c.args.row.now (none_from _ _ _ (sym c.judge_form.ensures ∙ c.in_ok-judge_form.was))).is_ready

pub write_form-requires : goal.write_form-requires
write_form-requires g c =
    let a = form_call c.args.self.now.contents c.args.self.now.kept _ c.args.p.now c.args.row.now (none_from _ _ _ (sym c.judge_form.ensures ∙ c.in_ok-judge_form.was)) in
    rw c.complete.ensures.contents (a.over, a.long)

pub returns : goal.returns
returns g c =
    let k = c.args.self.now.contents in
    let B = system (ledger k) in
    let A = g.F.Field.meaning c.args.self.now.field in
    let p = c.args.p.now in
    let o = none_from _ _ _ (sym c.judge_form.ensures ∙ c.in_ok-judge_form.was) in
    let a = form_call k c.args.self.now.kept _ p c.args.row.now o in
    let row = rw (c.complete.ensures.field, c.complete.ensures.contents) at c.write_form.ensures.row in
    let said = c.is_zero.ensures ∙ ap all_zero row in
    record {
      answer = ap Ok said ∙ ap (λ (x : Option Refusal). granted x (all_zero (normal_form (ring A) B p))) (sym o);
      row = row ∙ granted_now _ o _ c.args.row.now;
      meaning = subst (λ (v : Row). FormMeans (ring A) B p v c.is_zero.result) (sym row)
          (subst (FormMeans (ring A) B p (normal_form (ring A) B p)) (sym said) (form_means (g.met.F.Field.lawful c.args.self.now.field).commutative_ring B (ready_contents k c.args.self.now.kept a.is_ready).good p a.over));
    }

pub returns-in_err-judge_form : goal.returns-in_err-judge_form
returns-in_err-judge_form g c =
    let p = err_from_is_err_and c.from_residual.result c.from_residual.ensures.1 in
    let q = c.in_err-judge_form.ensures in
    record {
      answer = p.1 ∙ ap Err p.2 ∙ refused_other _ _ tt _ q;
      row = refused_stays _ _ tt q _ _;
      meaning = subst (λ (r : Result Bool Refusal). Formed (ring (g.F.Field.meaning c.args.self.now.field)) (system (ledger c.args.self.now.contents)) c.args.p.now r c.args.row.now) (sym p.1) tt;
    }
