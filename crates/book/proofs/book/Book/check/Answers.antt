use Rattle.std.proofs.Common.{◌≡◌, ◌+◌, length, Some, None, Err, Result, sym, refl, ap, ◌∙◌, subst, arith}
use Rattle.std.proofs.lemmas.Result.{err_from_is_err_and}
use Rattle.field.specs.Arithmetic.{ring}
use Rattle.algebra.specs.Clash.{first_clash}
use Rattle.book.specs.declared.refusal.Refusal.{Refusal}
use Rattle.book.specs.declared.verdict.Verdict.{Verdict}
use Rattle.book.specs.declared.verdict.Verdict.TheVariants.{Consistent, Clashes}
use Rattle.book.specs.Ledger.{system}
use Rattle.book.specs.Effects.{written, verdict, clash_row, clash_entries}
use Rattle.book.specs.Kept.{ledger}
use Rattle.book.specs.Promise.{CheckMeans}
use Rattle.book.proofs.Granting.{none_from, refused_other, refused_stays}
use Rattle.book.proofs.Keeping.{facts}
use Rattle.book.proofs.Answering.{check_call, clash_within, check_kept, check_after, check_answer, check_row, check_slots, check_meaning, cleared_row}
use Rattle.book.proofs.book.Book.check.Goals as goal

pub complete-requires : goal.complete-requires
complete-requires g c = (check_call c.args.self.now.contents c.args.self.now.kept c.args.row.now c.args.slots.now (none_from _ _ _ (sym c.judge_check.ensures ∙ c.in_ok-judge_check.was))).is_ready

pub write_clash-entries-requires : goal.write_clash-entries-requires
write_clash-entries-requires g c =
    let k = c.args.self.now.contents in
    let a = check_call k c.args.self.now.kept c.args.row.now c.args.slots.now (none_from _ _ _ (sym c.judge_check.ensures ∙ c.in_ok-judge_check.was)) in
    let w = clash_within k c.args.self.now.kept (ring (g.F.Field.meaning c.args.self.now.field)) c.in-Some.clash (sym c.in-Some.is ∙ c.first_clash.ensures ∙ (λ i. first_clash (ring (g.F.Field.meaning (c.complete.ensures.field i))) (system (ledger (c.complete.ensures.contents i))))) in
    rw c.complete-in-Some.ensures.contents (record { clash = (w.0, (w.1, w.2)); lengths = (a.long, a.room) })

pub invariant_of-self : goal.invariant_of-self
invariant_of-self g c = record { kept = check_kept (g.F.Field.meaning c.args.self.now.field) (g.met.F.Field.lawful c.args.self.now.field).commutative_ring c.args.self.now.contents c.args.self.now.kept c.args.row.now c.args.slots.now (none_from _ _ _ (sym c.judge_check.ensures ∙ c.in_ok-judge_check.was)) None (sym c.in-None.is ∙ c.first_clash.ensures ∙ (λ i. first_clash (ring (g.F.Field.meaning (c.complete.ensures.field i))) (system (ledger (c.complete.ensures.contents i))))) }

pub invariant_of-self-in-Some : goal.invariant_of-self-in-Some
invariant_of-self-in-Some g c = record { kept = check_kept (g.F.Field.meaning c.args.self.now.field) (g.met.F.Field.lawful c.args.self.now.field).commutative_ring c.args.self.now.contents c.args.self.now.kept c.args.row.now c.args.slots.now (none_from _ _ _ (sym c.judge_check.ensures ∙ c.in_ok-judge_check.was)) (Some c.in-Some.clash) (sym c.in-Some.is ∙ c.first_clash.ensures ∙ (λ i. first_clash (ring (g.F.Field.meaning (c.complete.ensures.field i))) (system (ledger (c.complete.ensures.contents i))))) }

pub returns-in-None : goal.returns-in-None
returns-in-None g c =
    let long = (check_call c.args.self.now.contents c.args.self.now.kept c.args.row.now c.args.slots.now (none_from _ _ _ (sym c.judge_check.ensures ∙ c.in_ok-judge_check.was))).long in
    let row = c.clear.ensures ∙ cleared_row c.args.self.now.contents c.args.self.now.kept c.args.row.now long in
    record {
      answer = check_answer (g.F.Field.meaning c.args.self.now.field) (g.met.F.Field.lawful c.args.self.now.field).commutative_ring c.args.self.now.contents c.args.self.now.kept c.args.row.now c.args.slots.now (none_from _ _ _ (sym c.judge_check.ensures ∙ c.in_ok-judge_check.was)) None (sym c.in-None.is ∙ c.first_clash.ensures ∙ (λ i. first_clash (ring (g.F.Field.meaning (c.complete.ensures.field i))) (system (ledger (c.complete.ensures.contents i))))) Consistent refl;
      after = check_after (g.F.Field.meaning c.args.self.now.field) (g.met.F.Field.lawful c.args.self.now.field).commutative_ring c.args.self.now.contents c.args.self.now.kept c.args.row.now c.args.slots.now (none_from _ _ _ (sym c.judge_check.ensures ∙ c.in_ok-judge_check.was)) None (sym c.in-None.is ∙ c.first_clash.ensures ∙ (λ i. first_clash (ring (g.F.Field.meaning (c.complete.ensures.field i))) (system (ledger (c.complete.ensures.contents i)))));
      row = check_row (g.F.Field.meaning c.args.self.now.field) (g.met.F.Field.lawful c.args.self.now.field).commutative_ring c.args.self.now.contents c.args.self.now.kept c.args.row.now c.args.slots.now (none_from _ _ _ (sym c.judge_check.ensures ∙ c.in_ok-judge_check.was)) None (sym c.in-None.is ∙ c.first_clash.ensures ∙ (λ i. first_clash (ring (g.F.Field.meaning (c.complete.ensures.field i))) (system (ledger (c.complete.ensures.contents i))))) c.clear.new.row row;
      slots = check_slots (g.F.Field.meaning c.args.self.now.field) (g.met.F.Field.lawful c.args.self.now.field).commutative_ring c.args.self.now.contents c.args.self.now.kept c.args.row.now c.args.slots.now (none_from _ _ _ (sym c.judge_check.ensures ∙ c.in_ok-judge_check.was)) None (sym c.in-None.is ∙ c.first_clash.ensures ∙ (λ i. first_clash (ring (g.F.Field.meaning (c.complete.ensures.field i))) (system (ledger (c.complete.ensures.contents i))))) c.args.slots.now refl;
      field = refl;
      meaning = check_meaning (g.F.Field.meaning c.args.self.now.field) (g.met.F.Field.lawful c.args.self.now.field).commutative_ring c.args.self.now.contents c.args.self.now.kept c.args.row.now c.args.slots.now (none_from _ _ _ (sym c.judge_check.ensures ∙ c.in_ok-judge_check.was)) None (sym c.in-None.is ∙ c.first_clash.ensures ∙ (λ i. first_clash (ring (g.F.Field.meaning (c.complete.ensures.field i))) (system (ledger (c.complete.ensures.contents i))))) Consistent c.clear.new.row c.args.slots.now refl row refl;
    }

pub returns-in-Some : goal.returns-in-Some
returns-in-Some g c =
    let x = c.in-Some.clash in
    let f = c.complete-in-Some.ensures.field in
    let k = c.complete-in-Some.ensures.contents in
    let v = Clashes (x.term + 1) (x.a + 1) (x.b + 1) c.write_clash-entries.result in
    let said : v ≡ verdict (ring (g.F.Field.meaning c.args.self.now.field)) (system (ledger c.args.self.now.contents)) (Some x) =
    ap (Clashes (x.term + 1) (x.a + 1) (x.b + 1)) (c.write_clash-entries.ensures.count ∙ (λ i. length (clash_entries (ring (g.F.Field.meaning (f i))) (system (ledger (k i))) (Some x)))) in
    let row : c.write_clash-entries.new.row ≡ clash_row (ring (g.F.Field.meaning c.args.self.now.field)) (system (ledger c.args.self.now.contents)) (Some x) =
    c.write_clash-entries.ensures.row ∙ (λ i. clash_row (ring (g.F.Field.meaning (f i))) (system (ledger (k i))) (Some x)) in
    let slots : c.write_clash-entries.new.slots ≡ written (clash_entries (ring (g.F.Field.meaning c.args.self.now.field)) (system (ledger c.args.self.now.contents)) (Some x)) c.args.slots.now =
    c.write_clash-entries.ensures.slots ∙ (λ i. written (clash_entries (ring (g.F.Field.meaning (f i))) (system (ledger (k i))) (Some x)) c.args.slots.now) in
    record {
      answer = check_answer (g.F.Field.meaning c.args.self.now.field) (g.met.F.Field.lawful c.args.self.now.field).commutative_ring c.args.self.now.contents c.args.self.now.kept c.args.row.now c.args.slots.now (none_from _ _ _ (sym c.judge_check.ensures ∙ c.in_ok-judge_check.was)) (Some c.in-Some.clash) (sym c.in-Some.is ∙ c.first_clash.ensures ∙ (λ i. first_clash (ring (g.F.Field.meaning (c.complete.ensures.field i))) (system (ledger (c.complete.ensures.contents i))))) v said;
      after = check_after (g.F.Field.meaning c.args.self.now.field) (g.met.F.Field.lawful c.args.self.now.field).commutative_ring c.args.self.now.contents c.args.self.now.kept c.args.row.now c.args.slots.now (none_from _ _ _ (sym c.judge_check.ensures ∙ c.in_ok-judge_check.was)) (Some c.in-Some.clash) (sym c.in-Some.is ∙ c.first_clash.ensures ∙ (λ i. first_clash (ring (g.F.Field.meaning (c.complete.ensures.field i))) (system (ledger (c.complete.ensures.contents i)))));
      row = check_row (g.F.Field.meaning c.args.self.now.field) (g.met.F.Field.lawful c.args.self.now.field).commutative_ring c.args.self.now.contents c.args.self.now.kept c.args.row.now c.args.slots.now (none_from _ _ _ (sym c.judge_check.ensures ∙ c.in_ok-judge_check.was)) (Some c.in-Some.clash) (sym c.in-Some.is ∙ c.first_clash.ensures ∙ (λ i. first_clash (ring (g.F.Field.meaning (c.complete.ensures.field i))) (system (ledger (c.complete.ensures.contents i))))) c.write_clash-entries.new.row row;
      slots = check_slots (g.F.Field.meaning c.args.self.now.field) (g.met.F.Field.lawful c.args.self.now.field).commutative_ring c.args.self.now.contents c.args.self.now.kept c.args.row.now c.args.slots.now (none_from _ _ _ (sym c.judge_check.ensures ∙ c.in_ok-judge_check.was)) (Some c.in-Some.clash) (sym c.in-Some.is ∙ c.first_clash.ensures ∙ (λ i. first_clash (ring (g.F.Field.meaning (c.complete.ensures.field i))) (system (ledger (c.complete.ensures.contents i))))) c.write_clash-entries.new.slots slots;
      field = refl;
      meaning = check_meaning (g.F.Field.meaning c.args.self.now.field) (g.met.F.Field.lawful c.args.self.now.field).commutative_ring c.args.self.now.contents c.args.self.now.kept c.args.row.now c.args.slots.now (none_from _ _ _ (sym c.judge_check.ensures ∙ c.in_ok-judge_check.was)) (Some c.in-Some.clash) (sym c.in-Some.is ∙ c.first_clash.ensures ∙ (λ i. first_clash (ring (g.F.Field.meaning (c.complete.ensures.field i))) (system (ledger (c.complete.ensures.contents i))))) v c.write_clash-entries.new.row c.write_clash-entries.new.slots said row slots;
    }

pub returns-in_err-judge_check : goal.returns-in_err-judge_check
returns-in_err-judge_check g c =
    let p = err_from_is_err_and c.from_residual.result c.from_residual.ensures.1 in
    let q = c.in_err-judge_check.ensures in
    record {
      answer = p.1 ∙ ap Err p.2 ∙ refused_other _ _ tt _ q;
      after = refused_stays _ _ tt q _ _;
      row = refused_stays _ _ tt q _ _;
      slots = refused_stays _ _ tt q _ _;
      field = refl;
      meaning = subst (λ (r : Result Verdict Refusal). CheckMeans (ring (g.F.Field.meaning c.args.self.now.field)) (system (ledger c.args.self.now.contents)) r c.args.row.now c.args.slots.now) (sym p.1) tt;
    }

pub overflow_add-result : goal.overflow_add-result
overflow_add-result g c =
    let k = c.args.self.now.contents in
    let w = clash_within k c.args.self.now.kept (ring (g.F.Field.meaning c.args.self.now.field)) c.in-Some.clash (sym c.in-Some.is ∙ c.first_clash.ensures ∙ (λ i. first_clash (ring (g.F.Field.meaning (c.complete.ensures.field i))) (system (ledger (c.complete.ensures.contents i))))) in
    omega (arith, w.0, (facts k c.args.self.now.kept).few_terms)

pub overflow_add-result-in-Some : goal.overflow_add-result-in-Some
overflow_add-result-in-Some g c =
    let k = c.args.self.now.contents in
    let w = clash_within k c.args.self.now.kept (ring (g.F.Field.meaning c.args.self.now.field)) c.in-Some.clash (sym c.in-Some.is ∙ c.first_clash.ensures ∙ (λ i. first_clash (ring (g.F.Field.meaning (c.complete.ensures.field i))) (system (ledger (c.complete.ensures.contents i))))) in
    omega (arith, w.1, (facts k c.args.self.now.kept).few_variables)

pub overflow_add-result-in-Some-2 : goal.overflow_add-result-in-Some-2
overflow_add-result-in-Some-2 g c =
    let k = c.args.self.now.contents in
    let w = clash_within k c.args.self.now.kept (ring (g.F.Field.meaning c.args.self.now.field)) c.in-Some.clash (sym c.in-Some.is ∙ c.first_clash.ensures ∙ (λ i. first_clash (ring (g.F.Field.meaning (c.complete.ensures.field i))) (system (ledger (c.complete.ensures.contents i))))) in
    omega (arith, w.2, (facts k c.args.self.now.kept).few_variables)
