use Rattle.std.proofs.Common.{◌≡◌, min, drop, ap, ◌∙◌}
use Rattle.run.specs.Calls.{rule}
use Rattle.sheet.specs.Numbers.{left, numbers_of, exponents_of}
use Rattle.sheet.proofs.Copies.{next_at}
use Rattle.report.proofs.calls.Maker.rule.Goals as goal

pub returns : goal.returns
returns c =
    let n = min c.args.self.n 8 in
    let xs = numbers_of c.args.body.now in
    let all : left c.of-numbers.result ≡ xs = ap numbers_of c.of-numbers.ensures in
    let rest : left c.exponents-term.new.self ≡ drop n xs = c.exponents-term.ensures.after ∙ ap (drop n) all in
    let term = c.exponents-term.ensures.value ∙ ap (exponents_of n) all in
    let came = next_at xs (left c.exponents-term.new.self) (left c.next.new.self) n c.next.result rest c.next.ensures.steps in
    let lead = c.unwrap_or-lead.ensures ∙ came.0 in
    let row = c.in_ok-row.ensures ∙ came.1 in
    (λ i. rule (term i) (lead i) (row i))
