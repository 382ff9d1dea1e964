use Rattle.std.proofs.Common.{arith}
use Rattle.term.proofs.Exponents.{same_numbers}
use Rattle.term.proofs.terms.same.Goals as goal

pub returns : goal.returns
returns c =
    same_numbers c.args.a.now c.args.b.now c.from_le_bytes.result c.from_le_bytes-2.result (omega arith) (omega arith) c.fits-a c.fits-b c.from_le_bytes.ensures c.from_le_bytes-2.ensures
