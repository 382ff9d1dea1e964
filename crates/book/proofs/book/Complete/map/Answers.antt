use Rattle.std.proofs.Common.{[], get_or, ◌∙◌}
use Rattle.field.specs.Arithmetic.{ring}
use Rattle.row.specs.Leads.{given_rows, advanced}
use Rattle.book.specs.Kept.{ledger}
use Rattle.book.specs.Ledger.{system}
use Rattle.book.proofs.Bridge.{column_advanced}
use Rattle.book.proofs.Ready.{ready_contents}
use Rattle.book.proofs.book.Complete.map.Goals as goal

pub returns : goal.returns
returns g c =
    let k = c.args.self.now.contents.now in
    let a = ready_contents k c.args.self.now.kept c.args.self.now.ready in
    c.advance.ensures ∙ (λ j. advanced (ring (g.F.Field.meaning (c.maps.ensures.field j))) (given_rows (c.maps.ensures.rows j)) (get_or k.border.leads.columns c.args.i []) c.args.row.now)
    ∙ column_advanced (g.met.F.Field.lawful c.args.self.now.field.now).commutative_ring (system (ledger k)) a.good (given_rows k.rules.rows) a.stored a.few k.border.leads.columns a.leading c.args.i c.requires.0
    c.args.row.now c.requires.1
