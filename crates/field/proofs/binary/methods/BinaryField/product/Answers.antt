use Rattle.std.proofs.Common.{◌≡◌, ℕ, ap, ◌∙◌}
use lib.Bits.{bit_xor}
use Rattle.field.specs.Arithmetic.{read}
use Rattle.field.specs.Supplied.{binary}
use Rattle.field.specs.Listed.{by_coefficients, coefficients_are_product}
use Rattle.field.proofs.binary.methods.BinaryField.product.Goals as goal

pub returns : goal.returns
returns c =
    let k = c.args.self.now.k in
    let q = c.order-order.ensures in
    let a = c.read_code-a.ensures ∙ ap (λ (x : ℕ). read x c.args.a) q in
    let b = c.read_code-b.ensures ∙ ap (λ (x : ℕ). read x c.args.b) q in
    let at = c.by_t-at.ensures.value ∙ ap ((binary k).product 2) a in
    let parts : bit_xor (bit_xor (bit_xor c.part.result c.part-2.result) c.part-3.result) c.part-4.result ≡ by_coefficients c.read_code-a.result c.by_t-at.result c.by_t-att.result c.by_t-attt.result c.read_code-b.result =
    λ i. bit_xor (bit_xor (bit_xor (c.part.ensures i) (c.part-2.ensures i)) (c.part-3.ensures i)) (c.part-4.ensures i) in
    parts ∙ (λ i. by_coefficients (a i) c.by_t-at.result c.by_t-att.result c.by_t-attt.result (b i))
    ∙ coefficients_are_product k c.args.self.now.listed c.args.a c.args.b c.by_t-at.result c.by_t-att.result c.by_t-attt.result at c.by_t-att.ensures.value c.by_t-attt.ensures.value
