use Rattle.std.proofs.Common.{◌≡◌, ◌+◌, ◌<◌, ◌^◌, ◌++◌, length, inl, ap, rules, arith}
use Rattle.tables.specs.Text.{lines, answers}
use Rattle.tables.proofs.Cuts.{lines_few}
use Rattle.tables.proofs.text.answers.Goals as goal

pub loop-before-init : goal.loop-before-init
loop-before-init c =
    let few : length (lines c.args.input.now) < 2 ^ 64 = omega (arith, lines_few c.args.input.now) in
    let count : c.into_iter-before-iterator.result.count ≡ 0 = search rules in
    let rest : c.into_iter-before-iterator.result.iter.0.now ≡ c.args.input.now = search rules in
    record {
      can = (tt, tt, inl (omega (arith, few, count, ap (λ bs. length (lines bs)) rest)));
      finite = search rules;
      answered = (λ i. c.new.ensures.items i ++ answers (count i + 1) (lines (rest i)));
    }
