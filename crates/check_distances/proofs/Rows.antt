-- Rows of distances: what their words are. Assumes nothing.
use mathlib.Core.Path.{◌≡◌, sym, fun_ext, ◌∙◌}
use mathlib.Core.List.{List}
use Prim.Native.Nat.{ℕ, ◌≤◌, ◌<◌}
use native.Mathlib.Decide.{ℕ_discrete}
use native.Mathlib.Omega.{arith}
use Rattle.road_layout.specs.Road.{junctions}
use Rattle.road_layout.specs.Facts.{RoadLayout}
use Rattle.road_layout.proofs.Layouts.{passing_layout}
use Rattle.adjacency.specs.Arcs.{net}
use Rattle.adjacency.specs.Adjacency.{count_in, IsAdjacency}
use Rattle.road.specs.Dijkstra.{far, at, dist}
use Rattle.road.specs.code.Rows.{distances_from}
use Rattle.road.proofs.Distances.{dist-bound-all}
use Rattle.road.proofs.Theorems.{dist-at, net_sound}

-- no junction has a number from 1,024 on
pub few : (adj : List ℕ) → IsAdjacency adj → count_in adj ≤ 1024
few adj a = omega (arith, a.adjacent.count, (passing_layout a.book a.adjacent.layout).few-junctions)

-- the distances from a junction are the road book's
pub looks : (road : List ℕ) (u : ℕ) → at (distances_from road u) ≡ dist road u
looks road u = fun_ext (λ v. dist-at road u v)

-- none is above the mark
pub dist-most : (road : List ℕ) → RoadLayout road → (u v : ℕ) → u < junctions road → dist road u v ≤ far
dist-most road l u v h = go (ℕ_discrete (dist road u v) far)
  where
    go : Dec (dist road u v ≡ far) → dist road u v ≤ far
    go (yes e) = omega (arith, e)
    go (no n) =
        let b = dist-bound-all (net road) (junctions road) l.few-junctions (net_sound road l) u h v (λ e. n (sym (dist-at road u v) ∙ e)) in
        omega (arith, b, dist-at road u v)
