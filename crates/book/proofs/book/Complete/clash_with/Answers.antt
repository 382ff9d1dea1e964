use Rattle.std.proofs.Common.{[], get_or, sym, refl, ◌∙◌}
use Rattle.field.specs.Arithmetic.{ring}
use Rattle.book.specs.Kept.{ledger, terms_of}
use Rattle.book.specs.Ledger.{system}
use Rattle.book.proofs.Clashing.{with_zero, with_found, with_none}
use Rattle.book.proofs.book.Complete.clash_with.Goals as goal

pub loop-b-init : goal.loop-b-init
loop-b-init g c = refl

pub returns-then-not-is_zero : goal.returns-then-not-is_zero
returns-then-not-is_zero g c =
    let k = c.args.self.now.contents.now in
    sym (with_found (ring (g.F.Field.meaning c.args.self.now.field.now)) (system (ledger k)) (get_or (terms_of k) c.args.j []) c.args.a c.loop-b.b c.commutator.new.row c.loop-b-test.true c.commutator.ensures c.if-not-is_zero.ensures)
    ∙ c.loop-b.invariant

pub loop-b-preserved : goal.loop-b-preserved
loop-b-preserved g c =
    let k = c.args.self.now.contents.now in
    sym (with_zero (ring (g.F.Field.meaning c.args.self.now.field.now)) (system (ledger k)) (get_or (terms_of k) c.args.j []) c.args.a c.loop-b.b c.commutator.new.row c.loop-b-test.true c.commutator.ensures c.if-not-is_zero.ensures)
    ∙ c.loop-b.invariant

pub returns : goal.returns
returns g c =
    let k = c.args.self.now.contents.now in
    sym (with_none (ring (g.F.Field.meaning c.args.self.now.field.now)) (system (ledger k)) (get_or (terms_of k) c.args.j []) c.args.a c.loop-b.b c.loop-b-test.false) ∙ c.loop-b.invariant
