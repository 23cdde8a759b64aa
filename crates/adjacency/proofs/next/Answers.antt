use mathlib.Core.Path.{refl}
use Rattle.adjacency.specs.Adjacency.{next_at}
use Rattle.adjacency.proofs.next.Goals as goal

pub returns : goal.returns
unfolding next_at
returns c = refl
