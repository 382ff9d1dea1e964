use Rattle.std.proofs.Common.{◌∙◌}
use Rattle.tables.proofs.Cells.{cell_again}
use Rattle.tables.proofs.pages.column.Goals as goal

pub returns : goal.returns
returns c = c.to_le_bytes.ensures ∙ cell_again c.args.n c.from_le_bytes.result c.digit.result c.digit-2.result c.digit.ensures c.digit-2.ensures c.from_le_bytes.ensures
