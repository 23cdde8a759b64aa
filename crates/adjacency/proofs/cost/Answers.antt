use mathlib.Core.Path.{refl}
use Rattle.adjacency.specs.Adjacency.{cost_at}
use Rattle.adjacency.proofs.cost.Goals as goal

pub returns : goal.returns
unfolding cost_at
returns c = refl
