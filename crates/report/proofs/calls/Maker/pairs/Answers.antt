use Rattle.std.proofs.Common.{◌≡◌, ℕ, suc, ◌+◌, ◌-◌, min, vec_items, Option, unwrap_or, ap, ◌∙◌, arith}
use Rattle.sheet.specs.Numbers.{left, numbers_of}
use Rattle.sheet.proofs.Copies.{next_first, next_at}
use Rattle.report.specs.Calls.{pairs_from}
use Rattle.report.proofs.Pairing.{pairs_step, pairs_end}
use Rattle.report.proofs.calls.Maker.pairs.Goals as goal

pub loop-preserved : goal.loop-preserved
loop-preserved c =
    let n = min c.args.self.n 8 in
    let m = c.unwrap_or-count.result - (c.loop.counter + 1) in
    let more : c.unwrap_or-count.result - c.loop.counter ≡ suc m = omega arith in
    let came = next_first (left c.loop.numbers) (left c.next-in-loop.new.self) c.next-in-loop.result c.next-in-loop.ensures.steps in
    pairs_step n m (c.unwrap_or-count.result - c.loop.counter) _ (vec_items c.loop.pairs) (vec_items c.push.new.self) (left c.loop.numbers) (left c.next-in-loop.new.self) (left c.exponents-term.new.self) c.unwrap_or-code.result c.exponents-term.result more c.loop.invariant
    (c.unwrap_or-code.ensures ∙ ap (λ (o : Option ℕ). unwrap_or o 0) came.0) came.1 c.exponents-term.ensures.value c.exponents-term.ensures.after c.in_ok-push.ensures.items

pub returns : goal.returns
returns c =
    let n = min c.args.self.n 8 in
    let xs = numbers_of c.args.body.now in
    let all : left c.of-numbers.result ≡ xs = ap numbers_of c.of-numbers.ensures in
    let z : c.unwrap_or-count.result - c.loop.counter ≡ 0 = omega arith in
    let came = next_at xs (left c.of-numbers.result) (left c.next.new.self) 0 c.next.result all c.next.ensures.steps in
    let count = c.unwrap_or-count.ensures ∙ came.0 in
    pairs_end n (c.unwrap_or-count.result - c.loop.counter) _ (vec_items c.loop.pairs) (left c.loop.numbers) z c.loop.invariant
    ∙ (λ i. pairs_from n (count i) (came.1 i))
