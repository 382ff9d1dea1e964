use Rattle.std.proofs.Common.{◌∙◌, arith}
use Rattle.row.proofs.Leading.{row_at}
use Rattle.row.proofs.maps.Maps.row.Goals as goal

pub returns : goal.returns
returns g c = c.codes.ensures ∙ row_at g.R.StoredRow.codes c.args.self.now.rows.now c.args.place c.index-self-place.result (omega arith) (omega arith)
