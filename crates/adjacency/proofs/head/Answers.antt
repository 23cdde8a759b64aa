use mathlib.Core.Path.{refl}
use Rattle.adjacency.specs.Adjacency.{head_at}
use Rattle.adjacency.proofs.head.Goals as goal

pub returns : goal.returns
unfolding head_at
returns c = refl
