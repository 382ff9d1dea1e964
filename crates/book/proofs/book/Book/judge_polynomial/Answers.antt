use Rattle.std.proofs.Common.{ℕ, sym, refl, ap, ◌∙◌, rules}
use Rattle.term.specs.Search.{first_place}
use Rattle.book.specs.Judge.{past_variables, unfit_pair, too_high}
use Rattle.book.specs.Kept.{ledger}
use Rattle.book.proofs.Searching.{found_some, found_none}
use Rattle.book.proofs.Judging.{answer_some, answer_none, pairs_unfit, pairs_many, pairs_high, pairs_granted}
use Rattle.book.proofs.book.Book.judge_polynomial.Goals as goal

pub returns-in-Some-first_place : goal.returns-in-Some-first_place
returns-in-Some-first_place g c =
    let k = c.args.self.now.contents in
    let p = c.args.p.now in
    let past = found_none _ (sym (c.first_place.ensures.place (past_variables k.basis.variables) (λ x b e. search rules)) ∙ c.in_default.is) in
    let found = found_some _ _ (sym (c.first_place-2.ensures.place (unfit_pair c.order-order.result) (λ x b e. search rules)) ∙ c.in-Some-first_place.is) in
    let is = found.0 ∙ ap (λ (q : ℕ). first_place (unfit_pair q) p) c.order-order.ensures in
    answer_some tt (pairs_unfit _ (ledger k) p c.args.size _ refl past (c.if-size-len.false ∙ c.len.ensures.value) _ is found.1)

pub returns-then-p-gt64 : goal.returns-then-p-gt64
returns-then-p-gt64 g c =
    let k = c.args.self.now.contents in
    let p = c.args.p.now in
    let past = found_none _ (sym (c.first_place.ensures.place (past_variables k.basis.variables) (λ x b e. search rules)) ∙ c.in_default.is) in
    let fit = found_none _ (sym (c.first_place-2.ensures.place (unfit_pair c.order-order.result) (λ x b e. search rules)) ∙ c.in_default-first_place.is) in
    let is = ap (λ (q : ℕ). first_place (unfit_pair q) p) c.order-order.ensures in
    answer_some tt (pairs_many _ (ledger k) p c.args.size _ refl past (c.if-size-len.false ∙ c.len.ensures.value) _ is fit c.if-p-gt64.true)

pub returns-in-Some-first_place-2 : goal.returns-in-Some-first_place-2
returns-in-Some-first_place-2 g c =
    let k = c.args.self.now.contents in
    let p = c.args.p.now in
    let past = found_none _ (sym (c.first_place.ensures.place (past_variables k.basis.variables) (λ x b e. search rules)) ∙ c.in_default.is) in
    let fit = found_none _ (sym (c.first_place-2.ensures.place (unfit_pair c.order-order.result) (λ x b e. search rules)) ∙ c.in_default-first_place.is) in
    let is = ap (λ (q : ℕ). first_place (unfit_pair q) p) c.order-order.ensures in
    let found = found_some _ _ (sym (c.first_place-3.ensures.place too_high (λ x b e. search rules)) ∙ c.in-Some-first_place-2.is) in
    answer_some tt (pairs_high _ (ledger k) p c.args.size _ refl past (c.if-size-len.false ∙ c.len.ensures.value) _ is fit c.if-p-gt64.false _ found.0 found.1)

pub returns : goal.returns
returns g c =
    let k = c.args.self.now.contents in
    let p = c.args.p.now in
    let past = found_none _ (sym (c.first_place.ensures.place (past_variables k.basis.variables) (λ x b e. search rules)) ∙ c.in_default.is) in
    let fit = found_none _ (sym (c.first_place-2.ensures.place (unfit_pair c.order-order.result) (λ x b e. search rules)) ∙ c.in_default-first_place.is) in
    let is = ap (λ (q : ℕ). first_place (unfit_pair q) p) c.order-order.ensures in
    let low = found_none _ (sym (c.first_place-3.ensures.place too_high (λ x b e. search rules)) ∙ c.in_default-first_place-2.is) in
    answer_none tt (pairs_granted _ (ledger k) p c.args.size _ refl past (c.if-size-len.false ∙ c.len.ensures.value) _ is fit c.if-p-gt64.false _ refl low)
