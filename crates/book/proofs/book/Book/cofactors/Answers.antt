use Rattle.std.proofs.Common.{ℕ, true, false, Err, Result, sym, ap, ◌∙◌, subst}
use Rattle.std.proofs.lemmas.Result.{err_from_is_err_and}
use Rattle.field.specs.Arithmetic.{ring}
use Rattle.book.specs.declared.refusal.Refusal.{Refusal}
use Rattle.book.specs.Ledger.{system}
use Rattle.book.specs.Kept.{ledger}
use Rattle.book.specs.Promise.{CofactorsMean}
use Rattle.book.proofs.Granting.{none_from, refused_other, refused_stays}
use Rattle.book.proofs.Answering.{cofactors_call, cofactors_answer, cofactors_row, cofactors_slots, cofactors_meaning}
use Rattle.book.proofs.book.Book.cofactors.Goals as goal

pub complete-requires : goal.complete-requires
complete-requires g c = (cofactors_call c.args.self.now.contents c.args.self.now.kept _ c.args.p.now c.args.row.now c.args.slots.now (none_from _ _ _ (sym c.judge_cofactors.ensures ∙ c.in_ok-judge_cofactors.was))).is_ready

pub write_form-count-requires : goal.write_form-count-requires
write_form-count-requires g c =
    let a = cofactors_call c.args.self.now.contents c.args.self.now.kept _ c.args.p.now c.args.row.now c.args.slots.now (none_from _ _ _ (sym c.judge_cofactors.ensures ∙ c.in_ok-judge_cofactors.was)) in
    rw c.complete.ensures.contents (a.over, a.long)

pub returns-then-is_zero : goal.returns-then-is_zero
returns-then-is_zero g c =
    let L = (g.met.F.Field.lawful c.args.self.now.field).commutative_ring in
    let k = c.args.self.now.contents in
    let h = c.args.self.now.kept in
    let e = none_from _ _ _ (sym c.judge_cofactors.ensures ∙ c.in_ok-judge_cofactors.was) in
    let formed = rw (c.complete.ensures.field, c.complete.ensures.contents) at c.write_form-count.ensures.row in
    let listed = rw (c.complete.ensures.field, c.complete.ensures.contents) at c.write_form-count.ensures.listed in
    record {
      answer = cofactors_answer (g.F.Field.meaning c.args.self.now.field) L k h c.args.p.now c.args.row.now c.args.slots.now e c.write_form-count.new.row c.write_form-count.new.slots c.write_form-count.result formed listed true (sym c.is_zero.ensures ∙ c.if-is_zero.true);
      row = cofactors_row (g.F.Field.meaning c.args.self.now.field) L k h c.args.p.now c.args.row.now c.args.slots.now e c.write_form-count.new.row c.write_form-count.new.slots c.write_form-count.result formed listed;
      slots = cofactors_slots (g.F.Field.meaning c.args.self.now.field) L k h c.args.p.now c.args.row.now c.args.slots.now e c.write_form-count.new.row c.write_form-count.new.slots c.write_form-count.result formed listed;
      meaning = cofactors_meaning (g.F.Field.meaning c.args.self.now.field) L k h c.args.p.now c.args.row.now c.args.slots.now e c.write_form-count.new.row c.write_form-count.new.slots c.write_form-count.result formed listed;
    }

pub returns-else-is_zero : goal.returns-else-is_zero
returns-else-is_zero g c =
    let L = (g.met.F.Field.lawful c.args.self.now.field).commutative_ring in
    let k = c.args.self.now.contents in
    let h = c.args.self.now.kept in
    let e = none_from _ _ _ (sym c.judge_cofactors.ensures ∙ c.in_ok-judge_cofactors.was) in
    let formed = rw (c.complete.ensures.field, c.complete.ensures.contents) at c.write_form-count.ensures.row in
    let listed = rw (c.complete.ensures.field, c.complete.ensures.contents) at c.write_form-count.ensures.listed in
    record {
      answer = cofactors_answer (g.F.Field.meaning c.args.self.now.field) L k h c.args.p.now c.args.row.now c.args.slots.now e c.write_form-count.new.row c.write_form-count.new.slots c.write_form-count.result formed listed false (sym c.is_zero.ensures ∙ c.if-is_zero.false);
      row = cofactors_row (g.F.Field.meaning c.args.self.now.field) L k h c.args.p.now c.args.row.now c.args.slots.now e c.write_form-count.new.row c.write_form-count.new.slots c.write_form-count.result formed listed;
      slots = cofactors_slots (g.F.Field.meaning c.args.self.now.field) L k h c.args.p.now c.args.row.now c.args.slots.now e c.write_form-count.new.row c.write_form-count.new.slots c.write_form-count.result formed listed;
      meaning = cofactors_meaning (g.F.Field.meaning c.args.self.now.field) L k h c.args.p.now c.args.row.now c.args.slots.now e c.write_form-count.new.row c.write_form-count.new.slots c.write_form-count.result formed listed;
    }

pub returns-in_err-judge_cofactors : goal.returns-in_err-judge_cofactors
returns-in_err-judge_cofactors g c =
    let p = err_from_is_err_and c.from_residual.result c.from_residual.ensures.1 in
    let q = c.in_err-judge_cofactors.ensures in
    record {
      answer = p.1 ∙ ap Err p.2 ∙ refused_other _ _ tt _ q;
      row = refused_stays _ _ tt q _ _;
      slots = refused_stays _ _ tt q _ _;
      meaning = subst (λ (r : Result (ℕ × ℕ) Refusal). CofactorsMean (ring (g.F.Field.meaning c.args.self.now.field)) (system (ledger c.args.self.now.contents)) c.args.p.now r c.args.row.now c.args.slots.now) (sym p.1) tt;
    }
