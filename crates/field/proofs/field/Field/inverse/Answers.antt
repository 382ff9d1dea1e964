use Rattle.std.proofs.Common.{sym, ◌∙◌, arith}
use Rattle.field.specs.Laws.{inverse_found, inverse_absent}
use Rattle.field.proofs.field.Field.inverse.Goals as goal

pub returns-then-product-eq1 : goal.returns-then-product-eq1
returns-then-product-eq1 g c =
    inverse_found (g.met.Self.Field.lawful c.args.self.now) c.args.a c.loop-b.b
    (rw c.order-b-end.ensures at c.loop-b-test.true) (sym c.product.ensures ∙ c.if-product-eq1.true)

pub returns : goal.returns
returns g c = inverse_absent (g.met.Self.Field.lawful c.args.self.now) c.args.a (λ b h e. c.loop-b.invariant b (omega arith) e)
