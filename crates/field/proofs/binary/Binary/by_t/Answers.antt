use Rattle.std.proofs.Common.{◌≡◌, ◌+◌, ◌*◌, ◌^◌, ◌<◌, ◌≤◌, sym, ap, ◌∙◌, subst, arith}
use lib.Bits.{bit_xor}
use Rattle.std.proofs.lemmas.Bool.{lt-ltb, le-ltb, cond-true, cond-false}
use Rattle.field.specs.Supplied.{reduction}
use Rattle.field.specs.Listed.{shift_is_product, product_below}
use Rattle.field.proofs.binary.Binary.by_t.Goals as goal

pub returns-then-doubled-order : goal.returns-then-doubled-order
returns-then-doubled-order c =
    let k = c.args.self.now.k in
    let a = c.args.a in
    let less : a * 2 < 2 ^ k = omega arith in
    let value = sym (cond-true _ (a * 2) (bit_xor (a * 2) (reduction k)) (lt-ltb _ _ less)) ∙ shift_is_product k c.args.self.now.listed a c.requires in
    record { value = value; code = less }

pub returns-else-doubled-order : goal.returns-else-doubled-order
returns-else-doubled-order c =
    let k = c.args.self.now.k in
    let a = c.args.a in
    let more : 2 ^ k ≤ a * 2 = omega arith in
    let same : c.order-order.result + 3 ≡ reduction k = omega arith in
    let value =
    ap (bit_xor (a * 2)) same ∙ sym (cond-false _ (a * 2) (bit_xor (a * 2) (reduction k)) (le-ltb _ _ more))
    ∙ shift_is_product k c.args.self.now.listed a c.requires in
    record { value = value; code = subst (λ x. x < 2 ^ k) (sym value) (product_below k c.args.self.now.listed 2 a) }
