use mathlib.Core.Path.{refl}
use Rattle.examples.specs.Books.{tree_n}
use Rattle.examples.proofs.tree_n.Goals as goal

pub returns : goal.returns
unfolding tree_n
returns c = refl
