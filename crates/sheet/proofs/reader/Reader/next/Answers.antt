use Rattle.std.proofs.Common.{◌≡◌, ◌<◌, min, length, sym, ap, arith, length-drop}
use Rattle.std.proofs.lemmas.Bool.{eqb-false}
use Rattle.std.proofs.lemmas.List.{take_rest}
use Rattle.sheet.specs.Reading.{state}
use Rattle.sheet.proofs.Steps.{next_seen}
use Rattle.sheet.proofs.reader.Reader.next.Goals as goal

pub returns-clause-value : goal.returns-clause-value
returns-clause-value c =
    let self = c.args.self.now in
    let rest = take_rest self.bytes.now self.at in
    let more : self.at < length self.bytes.now = omega (arith, eqb-false _ 0 (sym c.if-is_empty.ensures), ap length rest, length-drop self.at self.bytes.now) in
    let counted : self.records ≡ min self.records 65534 = omega arith in
    (next_seen (state self) c.in_ok-kind.field-0 _ self.records _ _ more rest counted c.in_ok-kind.ensures.value c.record_of.ensures.kind c.record_of.ensures.body).0
