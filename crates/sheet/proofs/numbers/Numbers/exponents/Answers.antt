use Rattle.std.proofs.Common.{◌≡◌, min, length, get_or, set, ap, ◌∙◌, arith}
use Rattle.std.proofs.lemmas.List.{length-take-le}
use Rattle.std.proofs.lemmas.List.Edits.{fill_by_more}
use Rattle.sheet.specs.Numbers.{left, exponents_of}
use Rattle.sheet.proofs.Copies.{next_at, exponents_out}
use Rattle.sheet.proofs.numbers.Numbers.exponents.Goals as goal

pub loop-exponent-preserved : goal.loop-exponent-preserved
loop-exponent-preserved c =
    let xs = left c.args.self.now in
    let out = c.loop-exponent.exponent-items in
    let k = c.loop-exponent.exponent-index in
    let came = next_at xs (left c.loop-exponent.self) (left c.next.new.self) k c.next.result c.loop-exponent.invariant.1 c.next.ensures.steps in
    let is : c.min-in-loop-exponent.result ≡ min (get_or xs k 0) 255 = c.min-in-loop-exponent.ensures ∙ ap (λ x. min x 255) (c.unwrap_or.ensures ∙ came.0) in (
      λ j low. ap (λ x. get_or (set out k x) j 0) is ∙ fill_by_more (λ i. min (get_or xs i 0) 255) out k 0 (omega arith) c.loop-exponent.invariant.0 j low,
      came.1,
    )

pub returns-clause-value : goal.returns-clause-value
returns-clause-value c =
    let xs = left c.args.self.now in
    let out = c.loop-exponent.exponent-items in
    let long : length out ≡ c.min.result = c.loop-exponent.auto.exponent-items ∙ length-take-le c.min.result _ (omega arith) in
    exponents_out xs out c.min.result (omega arith) long (λ k low. c.loop-exponent.invariant.0 k (omega arith))
    ∙ ap (λ n. exponents_of n xs) c.min.ensures
