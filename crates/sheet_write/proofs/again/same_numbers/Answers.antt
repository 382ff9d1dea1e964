use Rattle.std.proofs.Common.{◌≡◌, ap}
use Rattle.std.proofs.lemmas.Iterator.{YieldsList-from_slice}
use Rattle.std.proofs.lemmas.Iterator.Consumers.{YieldsList-from_first, YieldsList-from_copied}
use Rattle.sheet.specs.Numbers.{left, numbers_of}
use Rattle.sheet_write.proofs.Sames.{eq_from_yields_List}
use Rattle.sheet_write.proofs.again.same_numbers.Goals as goal

pub returns : goal.returns
returns c =
    eq_from_yields_List (λ x y. y ≡ x) c.copied.result c.eq.result c.eq.ensures.ran
    (YieldsList-from_first (λ x. x) left (numbers_of c.args.body.now) (ap numbers_of c.of.ensures))
    (λ it e. YieldsList-from_copied (YieldsList-from_slice c.args.numbers.now cc))
