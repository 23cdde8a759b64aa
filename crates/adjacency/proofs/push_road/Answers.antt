use mathlib.Core.Path.{refl}
use native.Mathlib.Omega.{arith}
use Rattle.adjacency.proofs.Linking.{pushed_road}
use Rattle.adjacency.proofs.push_road.Goals as goal

pub returns : goal.returns
returns c =
    let r = c.road_at-road.ensures in
    pushed_road _ _ _ _ _ r.0 r.1 r.2 _ _ _ _ _ refl (omega arith) c.push_arc.ensures
    c.push_arc-2.ensures
