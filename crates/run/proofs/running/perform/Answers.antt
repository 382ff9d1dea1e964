use Rattle.std.proofs.Common.{rules, ℕ, vec_items, ap, ◌∙◌}
use Rattle.std.proofs.lemmas.List.{with_items_is}
use Rattle.run.specs.declared.call.Answer.TheVariants.{Done, Checked, Formed, Counted}
use Rattle.run.specs.Calls.{check, form, cofactor, table}
use Rattle.run.proofs.Renaming.{mapped_is, on_grant_one, on_grant_two}
use Rattle.run.proofs.running.perform.Goals as goal

pub returns-in-Check-clause-answer : goal.returns-in-Check-clause-answer
returns-in-Check-clause-answer g c =
    let said = rw (c.deref_mut.ensures.value, c.deref_mut-in-Check.ensures.value) at c.check.ensures.answer in
    rw c.in-Check.is (mapped_is (λ v. Checked v) _ (λ x y p. search rules) _ _ _ _ c.map-in-Check.ensures.cases said)

pub returns-in-Check-clause-finish : goal.returns-in-Check-clause-finish
returns-in-Check-clause-finish g c =
    let e = c.deref_mut.ensures in
    let d = c.deref_mut-in-Check.ensures in
    let row = rw (e.value, d.value) at c.check.ensures.row in
    let slots = rw (e.value, d.value) at c.check.ensures.slots in
    rw c.in-Check.is (
    (λ i. check (with_items_is c.in-Check.row c.check.new.row (c.check.auto.row ∙ e.len) i) (with_items_is c.in-Check.slots c.check.new.slots (c.check.auto.slots ∙ d.len) i))
    ∙ on_grant_two check _ _ _ _ _ _ _ row slots)

pub returns-in-Form-clause-answer : goal.returns-in-Form-clause-answer
returns-in-Form-clause-answer g c =
    let said = rw (c.deref-in-Form.ensures.value, c.deref_mut-in-Form.ensures.value) at c.form.ensures.answer in
    rw c.in-Form.is (mapped_is (λ y. Formed y) _ (λ x y p. search rules) _ _ _ _ c.map-in-Form.ensures.cases said)

pub returns-in-Form-clause-finish : goal.returns-in-Form-clause-finish
returns-in-Form-clause-finish g c =
    let p = vec_items c.in-Form.p in
    let row = rw (c.deref-in-Form.ensures.value, c.deref_mut-in-Form.ensures.value) at c.form.ensures.row in
    rw c.in-Form.is (ap (form p) (with_items_is c.in-Form.row c.form.new.row (c.form.auto.row ∙ c.deref_mut-in-Form.ensures.len)) ∙ on_grant_one (form p) _ _ _ _ row)

pub returns-in-Cofactors-clause-answer : goal.returns-in-Cofactors-clause-answer
returns-in-Cofactors-clause-answer g c =
    let said = rw (c.deref-in-Cofactors.ensures.value, c.deref_mut-in-Cofactors.ensures.value, c.deref_mut-in-Cofactors-2.ensures.value) at c.cofactors.ensures.answer in
    rw c.in-Cofactors.is (mapped_is (λ (x : ℕ × ℕ). Counted x.0 x.1) _ (λ x y p. search rules) _ _ _ _ c.map-in-Cofactors.ensures.cases said)

pub returns-in-Cofactors-clause-finish : goal.returns-in-Cofactors-clause-finish
returns-in-Cofactors-clause-finish g c =
    let p = vec_items c.in-Cofactors.p in
    let e = c.deref_mut-in-Cofactors.ensures in
    let d = c.deref_mut-in-Cofactors-2.ensures in
    let row = rw (c.deref-in-Cofactors.ensures.value, e.value, d.value) at c.cofactors.ensures.row in
    let slots = rw (c.deref-in-Cofactors.ensures.value, e.value, d.value) at c.cofactors.ensures.slots in
    rw c.in-Cofactors.is (
    (λ i. cofactor p (with_items_is c.in-Cofactors.row c.cofactors.new.row (c.cofactors.auto.row ∙ e.len) i) (with_items_is c.in-Cofactors.slots c.cofactors.new.slots (c.cofactors.auto.slots ∙ d.len) i))
    ∙ on_grant_two (cofactor p) _ _ _ _ _ _ _ row slots)

pub returns-in-Table-clause-answer : goal.returns-in-Table-clause-answer
returns-in-Table-clause-answer g c =
    let said = rw c.deref_mut-in-Table.ensures.value at c.table.ensures.answer in
    rw c.in-Table.is (mapped_is (λ _. Done) _ (λ x y p. search rules) _ _ _ _ c.map-in-Table.ensures.cases said)

pub returns-in-Table-clause-finish : goal.returns-in-Table-clause-finish
returns-in-Table-clause-finish g c =
    let i = c.in-Table.i in
    let rows = rw c.deref_mut-in-Table.ensures.value at c.table.ensures.table in
    rw c.in-Table.is (ap (table i) (with_items_is c.in-Table.rows c.table.new.table (c.table.auto.table ∙ c.deref_mut-in-Table.ensures.len)) ∙ on_grant_one (table i) _ _ _ _ rows)
