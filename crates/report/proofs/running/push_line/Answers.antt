use Rattle.std.proofs.Common.{◌≡◌, ◌-◌, take, replicate, vec_items, ap, ◌∙◌, arith}
use Rattle.lines.specs.Line.{said, text}
use Rattle.report.proofs.Pushing.{front_written, made_pushed}
use Rattle.report.proofs.running.push_line.Goals as goal

pub returns : goal.returns
returns c =
    let z : c.in-Ok.size - 0 ≡ c.in-Ok.size = omega arith in
    let front = ap (λ k. take k c.write.new.out) z ∙ front_written (replicate 1024 0) (text (said c.args.line)) c.write.new.out c.in-Ok.size c.in-Ok.ensures.value c.in-Ok.ensures.after in
    made_pushed c.extend_from_slice.result (vec_items c.args.out.now) _ _ front c.extend_from_slice.ensures.items
