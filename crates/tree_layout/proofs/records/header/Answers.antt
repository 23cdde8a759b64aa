use Rattle.tree_layout.specs.Reading.{header_of}
use Rattle.tree_layout.specs.Decode.{junction_count, region_count, tree_yard_count, landmark_count}
use Rattle.tree_layout.proofs.records.header.Goals as goal

pub returns : goal.returns
unfolding header_of junction_count region_count tree_yard_count landmark_count
returns c = cc
