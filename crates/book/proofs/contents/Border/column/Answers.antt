use Rattle.std.proofs.Common.{◌≡◌, ◌<◌, List, [], length, get_or, ap, ◌∙◌, arith}
use Rattle.std.proofs.lemmas.List.{length-set}
use Rattle.algebra.specs.Term.{Term, times}
use Rattle.term.specs.Letters.{raised}
use Rattle.algebra.proofs.Borders.{get_or_has}
use Rattle.book.specs.Leading.{lead}
use Rattle.book.proofs.Growing.{raised_is}
use Rattle.book.proofs.Laying.{leads_more, leads_all}
use Rattle.book.proofs.contents.Border.column.Goals as goal

pub loop-j-preserved : goal.loop-j-preserved
loop-j-preserved c =
    let b = c.args.set.now.basis.now in
    let S = b.terms in
    let i = c.args.i in
    let j = c.loop-j.j in
    let same = c.as_slice-t-items.ensures.value in
    let few = c.as_slice-t-items.ensures.few in
    let less : j < length S = omega (arith, ap (λ (ts : List Term). length ts) same) in
    let is : c.raised.result ≡ times i (get_or S j []) =
    c.raised.ensures ∙ (λ k. raised i (get_or (same k) j [])) ∙ raised_is b.variables i S (get_or S j []) c.args.set.now.linked few (omega (arith, c.args.set.now.few, c.requires.within)) (get_or_has S j less) in
    record {
      long = length-set c.loop-j.column j c.lead.result ∙ c.loop-j.invariant.long;
      front = leads_more S c.args.self.now.terms S i j c.loop-j.column c.lead.result less (omega (arith, c.loop-j.invariant.long, few)) c.loop-j.invariant.front
          (c.lead.ensures ∙ ap (lead S c.args.self.now.terms) is);
    }

pub returns : goal.returns
returns c =
    let S = c.args.set.now.basis.now.terms in
    let same = c.as_slice-t-items.ensures.value in
    leads_all S c.args.self.now.terms S c.args.i c.loop-j.j c.loop-j.column (omega (arith, c.loop-j-test.false, ap (λ (ts : List Term). length ts) same)) c.loop-j.invariant.front
