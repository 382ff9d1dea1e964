use Rattle.std.proofs.Common.{◌≡◌, [], ◌∷◌, ap, ◌∙◌, arith}
use Rattle.algebra.specs.Term.{Term, times}
use Rattle.book.specs.Laying.{extended}
use Rattle.book.proofs.Growing.{raised_is}
use Rattle.book.proofs.Laying.{products_more, products_all}
use Rattle.book.proofs.contents.Border.lay_products.Goals as goal

pub loop-i-preserved : goal.loop-i-preserved
loop-i-preserved c =
    let n = c.args.set.now.basis.now.variables in
    let S = c.args.set.now.basis.now.terms in
    let E = c.loop-i.self.terms in
    let t = c.args.t.now in
    let i = c.loop-i.i in
    let is : c.raised.result ≡ times i t = c.raised.ensures ∙ raised_is n i S t c.args.set.now.linked c.requires.few (omega arith) c.requires.within in
    record {
      terms = products_more S E c.lay_product.new.self.terms _ n i t c.loop-i-test.true c.loop-i.invariant.terms
          (c.lay_product.ensures.terms ∙ ap (λ (e : Term). extended S E (e ∷ [])) is);
      bound = omega arith;
    }

pub returns : goal.returns
returns c = record {
  terms = products_all c.args.set.now.basis.now.terms c.loop-i.self.terms _ c.args.set.now.basis.now.variables c.loop-i.i c.args.t.now c.loop-i-test.false c.loop-i.invariant.terms;
  bound = omega arith;
}
