use mathlib.Core.Path.{refl, ◌∙◌}
use native.Mathlib.Omega.{arith}
use Rattle.adjacency.proofs.Linking.{some-junction, few-junctions}
use Rattle.road.proofs.Reaching.{reached_by}
use Rattle.road.proofs.connected.Goals as goal

pub distances-requires : goal.distances-requires
distances-requires c = (c.requires, refl, some-junction c.requires.adjacent)

pub all_reached-requires : goal.all_reached-requires
all_reached-requires c =
    omega
    (arith, few-junctions c.requires.adjacent, c.junctions.ensures, c.distances.auto)

pub returns : goal.returns
returns c =
    λ b ad. reached_by _ _ _ _ _ c.all_reached.ensures (c.distances.ensures.row b ad)
    (c.junctions.ensures ∙ ad.count)
