use borrow.Author.Rules.{rules}
use Rattle.road_layout.specs.Road.{junctions}
use Rattle.road_layout.proofs.junction_count.Goals as goal

pub returns : goal.returns
unfolding junctions
returns c = search rules
