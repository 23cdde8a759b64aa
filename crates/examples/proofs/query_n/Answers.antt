use mathlib.Core.Path.{refl}
use Rattle.examples.specs.Books.{asking, crew_bytes}
use Rattle.examples.proofs.query_n.Goals as goal

pub returns : goal.returns
unfolding asking crew_bytes
returns c = refl
