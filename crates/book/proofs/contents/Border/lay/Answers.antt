use Rattle.std.proofs.Common.{List, [], length, get_or, sym, ap, ◌∙◌, arith}
use Rattle.algebra.specs.Term.{Term, has}
use Rattle.algebra.specs.Border.{multiples_from}
use Rattle.algebra.proofs.Borders.{get_or_has}
use Rattle.book.specs.Laying.{extended}
use Rattle.book.proofs.Laying.{border_more, led_all}
use Rattle.book.proofs.contents.Border.lay.Goals as goal

pub lay_products-requires-clause-within : goal.lay_products-requires-clause-within
lay_products-requires-clause-within c =
    let S = c.as_slice-t-items.result.now in
    ap (has (get_or S c.loop-t.t-index [])) (sym c.as_slice-t-items.ensures.value) ∙ get_or_has S c.loop-t.t-index c.loop-t-test.true

pub loop-t-preserved : goal.loop-t-preserved
loop-t-preserved c =
    let b = c.args.set.now.basis.now in
    let same = c.as_slice-t-items.ensures.value in
    record {
      terms = border_more b.variables c.loop-t.t-index b.terms c.loop-t.self.terms c.lay_products.new.self.terms (omega (arith, c.loop-t-test.true, ap (λ (ts : List Term). length ts) same)) c.loop-t.invariant.terms
          (c.lay_products.ensures.terms ∙ (λ k. extended b.terms c.loop-t.self.terms (multiples_from 0 b.variables (get_or (same k) c.loop-t.t-index []))));
      bound = omega arith;
    }

pub returns-clause-leads : goal.returns-clause-leads
returns-clause-leads c =
    led_all c.args.set.now.basis.now.terms c.loop-i.self.terms c.args.set.now.basis.now.variables c.loop-i.self.leads.columns (λ k l. c.loop-i.invariant.columns k (omega (arith, c.loop-i-test.false)))
