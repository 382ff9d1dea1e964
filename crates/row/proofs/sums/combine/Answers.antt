use Rattle.std.proofs.Common.{length, set, ap, ◌∙◌, inl, inr, ⊎_elim, arith}
use Rattle.std.proofs.lemmas.Bool.{cases_lt}
use Rattle.row.proofs.Adding.{partly_turn, partly_all}
use Rattle.row.proofs.sums.combine.Goals as goal

pub loop-k-preserved : goal.loop-k-preserved
loop-k-preserved g c f says =
    partly_turn f c.loop-k.k c.args.out.now c.args.row.now c.loop-k.out _ (omega arith) (omega arith) (c.loop-k.invariant f says) (ap (set c.loop-k.out c.loop-k.k) (says _ _ _ c.h.ensures))

pub returns : goal.returns
returns g c f says =
    c.loop-k.invariant f says ∙ partly_all f c.loop-k.k c.args.out.now c.args.row.now
    (⊎_elim (λ l. inr (omega arith)) (λ l. inl (omega arith)) (cases_lt (length c.args.row.now) (length c.args.out.now)))
