use Rattle.std.proofs.Common.{sym, refl, ◌∙◌, arith}
use Rattle.field.specs.Arithmetic.{ring}
use Rattle.book.specs.Kept.{ledger}
use Rattle.book.specs.Ledger.{system}
use Rattle.book.proofs.Clashing.{terms_passed, terms_found, terms_none}
use Rattle.book.proofs.book.Complete.first_clash.Goals as goal

pub loop-j-init : goal.loop-j-init
loop-j-init g c = refl

pub returns-in-Some : goal.returns-in-Some
returns-in-Some g c =
    let k = c.args.self.now.contents.now in
    sym (terms_found (ring (g.F.Field.meaning c.args.self.now.field.now)) (system (ledger k)) c.loop-j.j (c.in-Some.a, c.in-Some.b) (omega arith) c.in-Some.ensures)
    ∙ c.loop-j.invariant

pub loop-j-preserved : goal.loop-j-preserved
loop-j-preserved g c =
    let k = c.args.self.now.contents.now in
    sym (terms_passed (ring (g.F.Field.meaning c.args.self.now.field.now)) (system (ledger k)) c.loop-j.j (omega arith) c.in_default.ensures)
    ∙ c.loop-j.invariant

pub returns : goal.returns
returns g c =
    let k = c.args.self.now.contents.now in
    sym (terms_none (ring (g.F.Field.meaning c.args.self.now.field.now)) (system (ledger k)) c.loop-j.j (omega arith))
    ∙ c.loop-j.invariant
