use borrow.Author.Rules.{rules}
use Rattle.road_layout.specs.Road.{road_at}
use Rattle.road_layout.proofs.road_at.Goals as goal

pub returns : goal.returns
unfolding road_at
returns c = search rules
