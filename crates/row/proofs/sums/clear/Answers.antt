use Rattle.std.proofs.Common.{◌∙◌}
use Rattle.row.proofs.Adding.{zeros_filled}
use Rattle.row.proofs.sums.clear.Goals as goal

pub returns : goal.returns
returns c = c.fill.ensures.after (λ y e. e) ∙ zeros_filled c.args.row.now
