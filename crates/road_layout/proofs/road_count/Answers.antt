use borrow.Author.Rules.{rules}
use Rattle.road_layout.specs.Road.{road_count}
use Rattle.road_layout.proofs.road_count.Goals as goal

pub returns : goal.returns
unfolding road_count
returns c = search rules
