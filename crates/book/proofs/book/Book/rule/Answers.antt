use Rattle.std.proofs.Common.{◌≡◌, ℕ, ◌-◌, ◌≤◌, true, map, length, take, Some, None, Ok, Err, Option, unwrap_or, sym, refl, ap, ◌∙◌, arith}
use Rattle.std.proofs.lemmas.Result.{err_from_is_err_and}
use Rattle.std.proofs.lemmas.Bool.{eq-eqb}
use Rattle.book.specs.declared.refusal.Refusal.{Refusal}
use Rattle.field.specs.Arithmetic.{Arithmetic}
use Rattle.algebra.specs.Term.{Term, place}
use Rattle.algebra.specs.Border.{Row}
use Rattle.book.specs.declared.contents.Contents.{Contents}
use Rattle.book.specs.Ledger.{edge}
use Rattle.book.specs.Judge.{judge_rule, granted, on_grant}
use Rattle.book.specs.Effects.{with_row, kept_row}
use Rattle.book.specs.Kept.{border_of, kept, ledger}
use Rattle.book.proofs.Keeping.{facts}
use Rattle.book.proofs.Granting.{none_from, value_from, refused_other, refused_stays}
use Rattle.book.proofs.Admitting.{rule_admitted}
use Rattle.book.proofs.Ruling.{Rewritten, rewritten_kept}
use Rattle.book.proofs.book.Book.rule.Goals as goal

pub kept_row-codes-requires : goal.kept_row-codes-requires
kept_row-codes-requires g c =
    let k = c.args.self.now.contents in
    let f = facts k c.args.self.now.kept in
    let a = rule_admitted (ledger k) _ c.args.e c.args.k c.args.row.now (none_from _ _ _ (sym c.in_ok-place.ensures.value)) in
    omega (arith, a.long, f.few_terms)

-- the kept codes are those of the row times the inverse of the leading code
module _ (A : Arithmetic) (k : Contents) (e : Term) (lead : ℕ) (row : Row) (h : kept k ≡ true) (at : ℕ) (was : Ok at ≡ granted (judge_rule A.order (ledger k) e lead row) (place e (edge (ledger k)))) (low : 1 ≤ at) (high : at ≤ length (border_of k)) (codes : Row) (inverse : ℕ) (found : inverse ≡ unwrap_or (A.inverse lead) 0) (kept-codes : take (length row) codes ≡ map (λ (c : ℕ). A.product c inverse) row) (long : length codes ≡ 32) where
  accepted : judge_rule A.order (ledger k) e lead row ≡ None
  accepted = none_from _ _ _ (sym was)

  given : Rewritten k (at - 1) (Some codes) (Some (kept_row A lead row)) e
  given =
      let a = rule_admitted (ledger k) A.order e lead row accepted in
      rewritten_kept k e (at - 1) h a.closed (ap (λ (x : ℕ). x - 1) (value_from _ _ _ (sym was))) (omega arith) (Some codes) (Some (kept_row A lead row)) (eq-eqb _ 32 long)
      (ap Some (ap (λ (n : ℕ). take n codes) (sym a.long) ∙ kept-codes ∙ ap (λ (b : ℕ). map (λ (c : ℕ). A.product c b) row) found))

pub invariant_of-self : goal.invariant_of-self
invariant_of-self g c =
    let p = c.in_ok-place.ensures in
    record {
      kept = (given (g.F.Field.meaning c.args.self.now.field) c.args.self.now.contents c.args.e c.args.k c.args.row.now c.args.self.now.kept c.in_ok-place.place p.value p.bound.0 p.bound.1
          c.kept_row-codes.result c.unwrap_or-inverse.result (c.unwrap_or-inverse.ensures ∙ ap (λ (o : Option ℕ). unwrap_or o 0) c.inverse.ensures) c.kept_row-codes.ensures.codes c.kept_row-codes.ensures.long).still_kept;
    }

pub returns : goal.returns
returns g c =
    let k = c.args.self.now.contents in
    let A = g.F.Field.meaning c.args.self.now.field in
    let p = c.in_ok-place.ensures in
    let o = none_from _ _ _ (sym p.value) in
    let a = given A k c.args.e c.args.k c.args.row.now c.args.self.now.kept c.in_ok-place.place p.value p.bound.0 p.bound.1
    c.kept_row-codes.result c.unwrap_or-inverse.result (c.unwrap_or-inverse.ensures ∙ ap (λ (x : Option ℕ). unwrap_or x 0) c.inverse.ensures) c.kept_row-codes.ensures.codes c.kept_row-codes.ensures.long in
    record {
      answer = ap (λ (x : Option Refusal). granted x tt) (sym o);
      after = a.is_ledger ∙ ap (λ (x : Option Refusal). on_grant x (with_row (ledger k) c.args.e (Some (kept_row A c.args.k c.args.row.now))) (ledger k)) (sym o);
      field = refl;
    }

pub returns-in_err-place : goal.returns-in_err-place
returns-in_err-place g c =
    let p = err_from_is_err_and c.from_residual.result c.from_residual.ensures.1 in
    let q = c.in_err-place.ensures.value in
    record { answer = p.1 ∙ ap Err p.2 ∙ refused_other _ _ _ tt q; after = refused_stays _ _ _ q _ _; field = refl }
