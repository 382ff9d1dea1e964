use Rattle.std.proofs.Common.{◌≡◌, suc, ◌+◌, ◌-◌, ◌<◌, length, take, drop, Ok, Err, sym, ap, ◌∙◌, arith, length-drop}
use Rattle.std.proofs.lemmas.List.{take_rest}
use Rattle.std.proofs.lemmas.Result.{err_from_is_err_and}
use Rattle.std.proofs.lemmas.Bool.{eqb-false}
use Rattle.sheet.specs.Body.{check_numbers, number_at}
use Rattle.sheet.proofs.Bodies.{full_here, number_here}
use Rattle.sheet.proofs.record.check_body.Goals as goal

pub returns-then-is_full : goal.returns-then-is_full
returns-then-is_full c =
    let some : 0 < length c.loop-rest.rest.now = omega (arith, eqb-false (length c.loop-rest.rest.now) 0 (sym c.loop-rest-test.ensures)) in
    ap Err c.wrong_body.ensures ∙ full_here _ _ _ _ _ _ _ _ _ some c.if-is_full.ensures ∙ c.loop-rest.invariant.0

pub returns-in_err-value : goal.returns-in_err-value
returns-in_err-value c =
    let rest = c.loop-rest.rest.now in
    let some : 0 < length rest = omega (arith, eqb-false (length rest) 0 (sym c.loop-rest-test.ensures)) in
    let left : length c.args.body.now - c.loop-rest.j ≡ suc (length c.args.body.now - (c.loop-rest.j + 1)) = omega (arith, c.loop-rest.invariant.2) in
    let p = err_from_is_err_and c.from_residual.result c.from_residual.ensures.1 in
    rw (p.1, p.2)
    (sym (number_here _ _ _ _ _ _ _ _ _ rest (Err c.in_err-value.field-0.0) left some c.if-is_full.ensures
    (c.in_err-value.ensures.value ∙ (λ i. number_at (c.limit.ensures i) rest c.loop-rest.at.byte (c.loop-rest.invariant.1 i))))
    ∙ c.loop-rest.invariant.0)

pub loop-rest-preserved : goal.loop-rest-preserved
loop-rest-preserved c =
    let rest = c.loop-rest.rest.now in
    let size = c.in_ok-value.size in
    let j = c.loop-rest.j in
    let at = c.loop-rest.at in
    let place = c.args.place in
    let body = c.args.body.now in
    let some : 0 < length rest = omega (arith, eqb-false (length rest) 0 (sym c.loop-rest-test.ensures)) in
    let left : length body - j ≡ suc (length body - (j + 1)) = omega (arith, c.loop-rest.invariant.2) in
    let taken = c.in_ok-value.ensures.back in
    let here = number_here c.args.kind c.args.n place.byte place.count (length body - j) (length body - (j + 1)) j c.loop-rest.whole at.byte rest (Ok (c.in_ok-value.value, size)) left some c.if-is_full.ensures
    (c.in_ok-value.ensures.value ∙ (λ i. number_at (c.limit.ensures i) rest at.byte (c.loop-rest.invariant.1 i))) in
    let cut = take_rest rest size in
    let shorter : length (take (length rest - size) (drop size rest)) ≡ length rest - size = ap length cut ∙ length-drop size rest in (
      (λ i. check_numbers c.args.kind c.args.n place.byte place.count (length body - (j + 1)) (j + 1) (c.whole_after-whole.ensures i) (c.after-at-in-loop-rest.ensures.byte i) (cut i))
          ∙ sym here ∙ c.loop-rest.invariant.0,
      c.after-at-in-loop-rest.ensures.count ∙ c.loop-rest.invariant.1,
      omega (arith, c.loop-rest.invariant.2, taken.some, taken.inside, shorter),
      omega (arith, c.loop-rest.invariant.3, taken.inside, shorter, c.after-at-in-loop-rest.ensures.byte),
    )
