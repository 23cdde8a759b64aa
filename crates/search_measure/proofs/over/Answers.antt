use Rattle.search_measure.proofs.Deciding.{over_by}
use Rattle.search_measure.proofs.over.Goals as goal

pub returns : goal.returns
returns c = let a = c.args in over_by a.code a.spent a.ceiling a.t _ _ c.combine.ensures c.exceeds.ensures
