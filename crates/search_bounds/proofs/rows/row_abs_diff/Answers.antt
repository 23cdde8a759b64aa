use Rattle.search_bounds.proofs.Cells.{abs_diff_read}
use Rattle.search_bounds.proofs.rows.row_abs_diff.Goals as goal

pub returns : goal.returns
returns c = abs_diff_read _ _ _ _ _ c.cell.ensures c.cell-2.ensures c.abs_diff.ensures
