use mathlib.Core.Path.{refl}
use Rattle.adjacency.specs.Adjacency.{to_at}
use Rattle.adjacency.proofs.to.Goals as goal

pub returns : goal.returns
unfolding to_at
returns c = refl
