use Rattle.std.proofs.Common.{ℕ, ◌<◌, get_or, arith}
use Rattle.sheet_write.proofs.Writebacks.{front_writes_back}
use Rattle.sheet_write.proofs.again.read_record.Goals as goal

pub returns : goal.returns
returns c =
    let bytes = c.args.bytes.now in
    let fit : (i : ℕ) → get_or bytes i 0 < 256 = λ i. omega (arith, c.type_inv.bytes i) in
    record { value = c.read_front.ensures.value; back = front_writes_back c.args.n bytes c.read_front.result fit c.read_front.ensures.value }
