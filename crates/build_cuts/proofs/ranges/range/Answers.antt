use mathlib.Core.Path.{refl}
use Rattle.build_cuts.proofs.ranges.range.Goals as goal

pub returns : goal.returns
returns c = (refl, refl, record { first = c.below-from.ensures; after = c.below-end.ensures })
