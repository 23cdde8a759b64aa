use Rattle.road_layout.specs.Road.{junctions, roads_to}
use Rattle.adjacency.specs.Arcs.{arcs}
use Rattle.adjacency.proofs.Linking.{Holds}
use Rattle.adjacency.proofs.fill.Given as goal

abbrev pub invariant-loop-k : goal.invariant-loop-k
invariant-loop-k l = Holds (junctions l.b) (arcs (roads_to l.b l.k)) l.adj
