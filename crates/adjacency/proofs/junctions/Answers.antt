use mathlib.Core.Path.{refl}
use Rattle.adjacency.specs.Adjacency.{count_in}
use Rattle.adjacency.proofs.junctions.Goals as goal

pub returns : goal.returns
unfolding count_in
returns c = refl
