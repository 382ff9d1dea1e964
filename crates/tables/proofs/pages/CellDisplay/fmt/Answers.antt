use Rattle.tables.proofs.Cells.{cell_text}
use Rattle.tables.proofs.pages.CellDisplay.fmt.Goals as goal

pub from_utf8_unchecked-requires : goal.from_utf8_unchecked-requires
from_utf8_unchecked-requires g c = cell_text c.in-Some.n c.column-text.result c.column-text.ensures
