-- What is proved of a crew's least way in a road book that passes. Assumes nothing.
use mathlib.Core.List.{List}
use Prim.Native.Nat.{ℕ, ◌<◌}
use Rattle.road_layout.specs.Road.{junctions}
use Rattle.adjacency.specs.Arcs.{net}
use Rattle.road.specs.Dijkstra.{dist}
use Rattle.road.specs.Facts.{Passing}
use Rattle.road.proofs.Theorems.{net_sound, metric}
use Rattle.search_measure.specs.Way.{least_way, way_answer}
use Rattle.search_measure.specs.Facts.{RowOf, WaysTrue, AlwaysComes}
use Rattle.search_measure.proofs.Lasting.{always_comes}
use Rattle.search_measure.proofs.Standing.{steps_standing, steps-end, end_ways}

-- the distances from a crew are the row that is asked for
pub row_of : (road : List ℕ) → Passing road → (crew : ℕ) → crew < junctions road → RowOf (net road) (junctions road) crew (dist road crew)
row_of road p crew h v k = (metric road p).least crew v h k

pub road-comes : AlwaysComes
road-comes road p crew v hc hv z = always_comes (net_sound road p.layout) (row_of road p crew hc) v hv z

pub ways_true : WaysTrue
unfolding least_way way_answer
ways_true road p b crew yard hc hy =
    let sound = net_sound road p.layout in
    let rows = row_of road p crew hc in
    end_ways sound rows b yard hy hc _ (steps_standing sound rows b yard hy (junctions road)) (steps-end sound rows b yard hy)
