use mathlib.Core.Path.{refl}
use Rattle.examples.specs.Books.{road_n}
use Rattle.examples.proofs.road_n.Goals as goal

pub returns : goal.returns
unfolding road_n
returns c = refl
