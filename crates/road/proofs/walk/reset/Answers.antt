use mathlib.Core.Path.{ap, ◌∙◌}
use mathlib.Core.Bool.{false}
use lib.ListN.{replicate}
use Rattle.road.specs.Dijkstra.{far}
use Rattle.road.proofs.walk.reset.Goals as goal

pub returns : goal.returns
returns c = (
  c.fill.ensures.after (λ y e. e) ∙ ap (λ n. replicate n far) c.requires.0,
  c.fill-2.ensures.after (λ y e. e) ∙ ap (λ n. replicate n false) c.requires.1,
)
