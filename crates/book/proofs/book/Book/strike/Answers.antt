use Rattle.std.proofs.Common.{ℕ, ◌-◌, None, Err, Option, sym, refl, ap, ◌∙◌, arith}
use Rattle.std.proofs.lemmas.Result.{err_from_is_err_and}
use Rattle.book.specs.declared.refusal.Refusal.{Refusal}
use Rattle.book.specs.Judge.{granted, on_grant}
use Rattle.book.specs.Effects.{with_row}
use Rattle.book.specs.Kept.{ledger}
use Rattle.book.proofs.Granting.{none_from, value_from, refused_other, refused_stays}
use Rattle.book.proofs.Admitting.{strike_admitted}
use Rattle.book.proofs.Ruling.{rewritten_kept}
use Rattle.book.proofs.book.Book.strike.Goals as goal

pub invariant_of-self : goal.invariant_of-self
invariant_of-self g c =
    let k = c.args.self.now.contents in
    let e = sym c.in_ok-place.ensures.value in
    record {
      kept = (rewritten_kept k c.args.e (c.in_ok-place.place - 1) c.args.self.now.kept (strike_admitted (ledger k) c.args.e (none_from _ _ _ e))
          (ap (λ (x : ℕ). x - 1) (value_from _ _ _ e)) (omega (arith, c.in_ok-place.ensures.bound)) None None refl refl).still_kept;
    }

pub returns : goal.returns
returns g c =
    let k = c.args.self.now.contents in
    let e = sym c.in_ok-place.ensures.value in
    let o = none_from _ _ _ e in
    let a = rewritten_kept k c.args.e (c.in_ok-place.place - 1) c.args.self.now.kept (strike_admitted (ledger k) c.args.e o)
    (ap (λ (x : ℕ). x - 1) (value_from _ _ _ e)) (omega (arith, c.in_ok-place.ensures.bound)) None None refl refl in
    record {
      answer = ap (λ (x : Option Refusal). granted x tt) (sym o);
      after = a.is_ledger ∙ ap (λ (x : Option Refusal). on_grant x (with_row (ledger k) c.args.e None) (ledger k)) (sym o);
      field = refl;
    }

pub returns-in_err-place : goal.returns-in_err-place
returns-in_err-place g c =
    let p = err_from_is_err_and c.from_residual.result c.from_residual.ensures.1 in
    let q = c.in_err-place.ensures.value in
    record { answer = p.1 ∙ ap Err p.2 ∙ refused_other _ _ _ tt q; after = refused_stays _ _ _ q _ _; field = refl }
