use Rattle.std.proofs.Common.{Err, Option, sym, ap, ◌∙◌}
use Rattle.std.proofs.lemmas.Result.{err_from_is_err_and}
use Rattle.book.specs.declared.refusal.Refusal.{Refusal}
use Rattle.book.specs.Judge.{granted}
use Rattle.book.proofs.Granting.{none_from, granted_now, refused_stays}
use Rattle.book.proofs.Answering.{table_call}
use Rattle.book.proofs.book.Book.table.Goals as goal

pub complete-requires : goal.complete-requires
complete-requires g c = (table_call c.args.self.now.contents c.args.self.now.kept c.args.i c.args.table.now (none_from _ _ _ (sym c.judge_table.ensures ∙ c.in_ok-judge_table.was))).is_ready

pub write_table-requires : goal.write_table-requires
write_table-requires g c =
    let a = table_call c.args.self.now.contents c.args.self.now.kept c.args.i c.args.table.now (none_from _ _ _ (sym c.judge_table.ensures ∙ c.in_ok-judge_table.was)) in
    rw c.complete.ensures.contents (a.variable, a.long)

pub returns : goal.returns
returns g c =
    let o = none_from _ _ _ (sym c.judge_table.ensures ∙ c.in_ok-judge_table.was) in
    record {
      answer = ap (λ (x : Option Refusal). granted x tt) (sym o);
      table = (rw (c.complete.ensures.field, c.complete.ensures.contents) at c.write_table.ensures) ∙ granted_now _ o _ c.args.table.now;
    }

pub returns-in_err-judge_table : goal.returns-in_err-judge_table
returns-in_err-judge_table g c =
    let p = err_from_is_err_and c.from_residual.result c.from_residual.ensures.1 in
    let q = c.in_err-judge_table.ensures in
    record { answer = p.1 ∙ ap Err p.2 ∙ q; table = refused_stays _ _ tt q _ _ }
