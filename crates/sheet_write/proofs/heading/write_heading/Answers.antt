use Rattle.std.proofs.Common.{◌≡◌, ◌≤◌, ◌++◌, length, drop, Ok, sym, refl, ap, ◌∙◌, append_assoc, arith, rules, length-append}
use Rattle.std.proofs.lemmas.Bool.{le-leb, cond-true}
use Rattle.sheet.specs.Number.{number_bytes}
use Rattle.sheet.specs.Reading.{opening}
use Rattle.sheet_write.specs.Writing.{heading_bytes, held, with_room}
use Rattle.sheet_write.proofs.Pastes.{puts_more, puts_front}
use Rattle.sheet_write.proofs.heading.write_heading.Goals as goal

pub returns-clause-after : goal.returns-clause-after
returns-clause-after c =
    let out = c.args.out.now in
    let f = number_bytes c.args.field in
    let m = number_bytes c.args.modulus in
    let v = number_bytes c.args.variables in
    let bytes = heading_bytes c.args.field c.args.modulus c.args.variables in
    let two = puts_more _ _ _ opening f c.bytes.ensures.puts c.number.ensures.puts (omega arith) in
    let three = puts_more _ _ _ (opening ++ f) m two c.number-2.ensures.puts (omega arith) in
    let all = puts_more _ _ _ ((opening ++ f) ++ m) v three c.number-3.ensures.puts (omega arith) in
    let is : ((opening ++ f) ++ m) ++ v ≡ bytes = append_assoc (opening ++ f) m v ∙ append_assoc opening f (m ++ v) in
    let room : length bytes ≤ length out = omega (arith, length-append f (m ++ v), length-append m v, c.number_size.ensures, c.number_size-2.ensures, c.number_size-3.ensures, c.if-total-out.false) in
    let fits : with_room out bytes ≡ Ok bytes = cond-true _ _ _ (le-leb (length bytes) (length out) room) in
    let whole : c.number-3.new.self.out.now ≡ held (with_room out bytes) out = (puts_front _ _ _ refl all).1 ∙ ap (λ bs. bs ++ drop (length bs) out) is ∙ sym (ap (λ r. held r out) fits) in
    search (rules, whole)
