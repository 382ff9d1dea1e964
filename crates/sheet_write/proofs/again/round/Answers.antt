use Rattle.std.proofs.Common.{Ok, ap, ◌∙◌, ⊎_elim}
use Rattle.std.specs.Str.{bytes_eq}
use Rattle.sheet_write.specs.Writing.{read_again}
use Rattle.sheet_write.proofs.Sames.{same_self, no_fault, kind_same, ends_same, numbers_same}
use Rattle.sheet_write.proofs.again.round.Goals as goal

pub returns-in_err-found-clause-value : goal.returns-in_err-found-clause-value
returns-in_err-found-clause-value c =
    absurd (no_fault c.args.n c.args.kind c.args.numbers.now c.write_record.new.out c.in_ok-size.size (c.in_ok-size.ensures.reads 0 1) c.in_err-found.field-0.0 c.in_err-found.ensures.value)

pub returns-then-to-size-clause-value : goal.returns-then-to-size-clause-value
returns-then-to-size-clause-value c =
    let xs = c.args.numbers.now in
    let same = numbers_same c.args.n c.args.kind xs c.write_record.new.out c.in_ok-size.size (c.in_ok-size.ensures.reads 0 1) c.in_ok-found.field-0 c.in_ok-found.ensures.value in
    ap Ok (c.same_numbers.ensures ∙ ap (λ ys. bytes_eq ys xs) same ∙ same_self xs) ∙ ap read_again c.in_ok-size.ensures.value

pub returns-else-to-size-clause-value : goal.returns-else-to-size-clause-value
returns-else-to-size-clause-value c =
    let kind = kind_same c.args.n c.args.kind c.args.numbers.now c.write_record.new.out c.in_ok-size.size (c.in_ok-size.ensures.reads 0 1) c.in_ok-found.field-0 c.in_ok-found.ensures.value in
    let ends = ends_same c.args.n c.args.kind c.args.numbers.now c.write_record.new.out c.in_ok-size.size (c.in_ok-size.ensures.reads 0 1) c.in_ok-found.field-0 c.in_ok-found.ensures.value in
    ⊎_elim (λ p. absurd (p.1 ends)) (λ p. absurd (p (c.from.ensures ∙ kind))) c.if-to-size.either
