use Rattle.std.proofs.Common.{[], get_or, ◌∙◌}
use Rattle.row.specs.Leads.{given_rows}
use Rattle.row.specs.Listing.{listing}
use Rattle.book.specs.Kept.{ledger, terms_of}
use Rattle.book.specs.Ledger.{system}
use Rattle.book.proofs.Ready.{ready_contents}
use Rattle.book.proofs.Clashing.{walk_listed}
use Rattle.book.proofs.book.Complete.list_walk.Goals as goal

pub returns : goal.returns
returns g c =
    let k = c.args.self.now.contents.now in
    let a = ready_contents k c.args.self.now.kept c.args.self.now.ready in
    record {
      same_reference = c.list_step-2.ensures.same_reference ∙ c.list_step.ensures.same_reference;
      listed = walk_listed (g.met.F.Field.lawful c.args.self.now.field.now).commutative_ring (system (ledger k)) a.good (given_rows k.rules.rows) a.stored a.few k.border.leads.columns a.leading
          c.args.first c.args.second (get_or (terms_of k) c.args.j []) c.requires.1.0 c.requires.1.1 c.unit.new.row c.map.new.row c.raised.result
          (listing c.args.slots.now.slots.now c.args.slots.now.count) (listing c.list_step.new.self.slots.now c.list_step.new.self.count) (listing c.list_step-2.new.self.slots.now c.list_step-2.new.self.count)
          c.unit.ensures c.raised.ensures c.list_step.ensures.listed c.map.ensures c.list_step-2.ensures.listed;
    }
