use Rattle.road.proofs.Filling.{cell-is}
use Rattle.road.proofs.rows.cell.Goals as goal

pub returns : goal.returns
returns c = cell-is _ _ _
