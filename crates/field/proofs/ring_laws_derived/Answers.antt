use Rattle.field.specs.Laws.{derivable}
use Rattle.field.proofs.ring_laws_derived.Goals as goal

pub returns : goal.returns
returns c = derivable
