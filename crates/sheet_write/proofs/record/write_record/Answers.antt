use Rattle.std.proofs.Common.{◌≡◌, ◌≤◌, ◌++◌, length, drop, sym, refl, ap, ◌∙◌, arith, rules, length-append}
use Rattle.sheet.specs.Number.{number_bytes}
use Rattle.sheet.specs.Fault.{next}
use Rattle.sheet_write.specs.Writing.{flat, record_bytes, write_record, held, with_room}
use Rattle.sheet_write.proofs.Pastes.{puts_record, written_fits, written_is}
use Rattle.sheet_write.proofs.Readbacks.{reads_where}
use Rattle.sheet_write.proofs.record.write_record.Goals as goal

pub returns-clause-after : goal.returns-clause-after
returns-clause-after c =
    let n = c.args.n in
    let k = c.args.kind in
    let out = c.args.out.now in
    let xs = c.args.numbers.now in
    let size = c.in_ok-size.size in
    let room : length (record_bytes k size xs) ≤ length out =
    omega (arith, length-append (number_bytes k) (number_bytes size ++ flat xs), length-append (number_bytes size) (flat xs), c.in_ok-size.ensures.size.is, c.number_size.ensures, c.number_size-2.ensures, c.if-total-out.false) in
    let put = puts_record _ _ _ _ k size xs refl c.number.ensures.puts c.number-2.ensures.puts c.numbers.ensures.puts in
    let whole : c.numbers.new.self.out.now ≡ held (next (write_record n k xs) (with_room out)) out = put.1 ∙ sym (ap (λ r. held r out) (written_fits n k xs out size c.in_ok-size.ensures.value room)) in
    search (rules, whole)

pub returns-clause-reads : goal.returns-clause-reads
returns-clause-reads c = λ start count.
    let k = c.args.kind in
    let out = c.args.out.now in
    let xs = c.args.numbers.now in
    let bytes = record_bytes k c.in_ok-size.size xs in
    let put = puts_record _ _ _ _ k c.in_ok-size.size xs refl c.number.ensures.puts c.number-2.ensures.puts c.numbers.ensures.puts in
    let whole : c.numbers.new.self.out.now ≡ bytes ++ drop (length bytes) out = put.1 in
    reads_where c.args.n k xs bytes (drop (length bytes) out) _ _ start count (written_is c.args.n k xs c.in_ok-size.size c.in_ok-size.ensures.value) (search (rules, whole)) put.0
