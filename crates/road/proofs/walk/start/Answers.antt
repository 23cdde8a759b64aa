use Rattle.road.proofs.Stepping.{starts_by}
use Rattle.road.proofs.walk.start.Goals as goal

pub returns : goal.returns
returns c =
    λ b. starts_by b _ _ _ _ _ c.requires.1
    c.reset.ensures.0 c.reset.ensures.1
    c.clear.ensures c.put.ensures
