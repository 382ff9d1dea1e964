use Rattle.std.proofs.lemmas.Result.{IfOk-weaker}
use Rattle.report.proofs.calls.Maker.slots.Goals as goal

pub returns : goal.returns
returns c = IfOk-weaker c.vec.result _ _ (λ v f. f (λ y e. e)) c.vec.ensures.items_if_clones_equal
