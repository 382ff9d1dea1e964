use Rattle.std.proofs.Common.{[], get_or, sym, ◌∙◌}
use Rattle.field.specs.Arithmetic.{ring}
use Rattle.book.specs.Kept.{ledger, terms_of}
use Rattle.book.specs.Ledger.{system}
use Rattle.book.proofs.Clashing.{from_all, from_passed, from_found, from_none}
use Rattle.book.proofs.book.Complete.clash_at.Goals as goal

pub loop-a-init : goal.loop-a-init
loop-a-init g c =
    let k = c.args.self.now.contents.now in
    sym (from_all (ring (g.F.Field.meaning c.args.self.now.field.now)) (system (ledger k)) (get_or (terms_of k) c.args.j []))

pub returns-in-Some : goal.returns-in-Some
returns-in-Some g c =
    let k = c.args.self.now.contents.now in
    sym (from_found (ring (g.F.Field.meaning c.args.self.now.field.now)) (system (ledger k)) (get_or (terms_of k) c.args.j []) c.loop-a.a c.in-Some.pair c.loop-a-test.true c.in-Some.ensures) ∙ c.loop-a.invariant

pub loop-a-preserved : goal.loop-a-preserved
loop-a-preserved g c =
    let k = c.args.self.now.contents.now in
    sym (from_passed (ring (g.F.Field.meaning c.args.self.now.field.now)) (system (ledger k)) (get_or (terms_of k) c.args.j []) c.loop-a.a c.loop-a-test.true c.in_default.ensures) ∙ c.loop-a.invariant

pub returns : goal.returns
returns g c =
    let k = c.args.self.now.contents.now in
    sym (from_none (ring (g.F.Field.meaning c.args.self.now.field.now)) (system (ledger k)) (get_or (terms_of k) c.args.j []) c.loop-a.a c.loop-a-test.false) ∙ c.loop-a.invariant
