use Rattle.std.proofs.Common.{◌≡◌, true, None, Ok, Err, Option, Result, sym, refl, ap, ◌∙◌}
use Rattle.algebra.specs.Term.{Term}
use Rattle.book.specs.declared.contents.Contents.{Contents}
use Rattle.std.proofs.lemmas.Result.{err_from_is_err_and}
use Rattle.book.specs.declared.refusal.Refusal.{Refusal}
use Rattle.book.specs.Judge.{judge_term, granted, on_grant}
use Rattle.book.specs.Effects.{with_term}
use Rattle.book.specs.Kept.{kept, ledger}
use Rattle.book.proofs.Granting.{none_from, refused_stays}
use Rattle.book.proofs.Filling.{Pushed, pushed_kept}
use Rattle.book.proofs.book.Book.term.Goals as goal

-- the term joins the set, and the contents with it are kept
module _ {V : Type 0} (k : Contents) (t : Term) (h : kept k ≡ true) (r : Result V Refusal) (v w : V) (is : r ≡ granted (judge_term (ledger k) t) v) (was : r ≡ Ok w) where
  accepted : judge_term (ledger k) t ≡ None
  accepted = none_from _ v w (sym is ∙ was)

  added : Pushed k t
  added = pushed_kept k t h accepted

pub invariant_of-self : goal.invariant_of-self
invariant_of-self g c =
    record { kept = rw c.push.ensures (added c.args.self.now.contents c.args.t c.args.self.now.kept c.judge_term.result _ _ c.judge_term.ensures c.in_ok-judge_term.was).still_kept }

pub returns : goal.returns
returns g c =
    let k = c.args.self.now.contents in
    let t = c.args.t in
    let e = accepted k t c.args.self.now.kept c.judge_term.result _ _ c.judge_term.ensures c.in_ok-judge_term.was in
    let a = pushed_kept k t c.args.self.now.kept e in
    record {
      answer = ap (λ (o : Option Refusal). granted o tt) (sym e);
      after = (λ i. ledger (record { phase = k.phase; basis = record { variables = k.basis.variables; terms = c.push.ensures i }; border = k.border; rules = k.rules })) ∙ a.is_ledger ∙ ap (λ (o : Option Refusal). on_grant o (with_term (ledger k) t) (ledger k)) (sym e);
      field = refl;
    }

pub returns-in_err-judge_term : goal.returns-in_err-judge_term
returns-in_err-judge_term g c =
    let p = err_from_is_err_and c.from_residual.result c.from_residual.ensures.1 in
    let q = c.in_err-judge_term.ensures in
    record { answer = p.1 ∙ ap Err p.2 ∙ q; after = refused_stays _ _ tt q _ _; field = refl }
