use Rattle.std.proofs.Common.{◌≡◌, ◌+◌, ◌++◌, vec_items}
use Rattle.tables.specs.Text.{lines, answers}
use Rattle.tables.proofs.text.answers.Given as goal

abbrev pub invariant-loop-before : goal.invariant-loop-before
invariant-loop-before l = record {
  can : (goal.iterator-loop-before).can_next l.before-iterator;
  finite : (goal.iterator-loop-before).is_finite l.before-iterator;
  answered : vec_items l.out.0 ++ answers (l.before-iterator.count + 1) (lines l.before-iterator.iter.0.now) ≡ answers 1 (lines l.input);
}
