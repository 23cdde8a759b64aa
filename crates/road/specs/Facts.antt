-- What a road book that passes is, and what holds of its distances, to be held against the paper.
-- Assumes nothing: these are definitions.
use Rattle.std.specs.Prelude.{◌≡◌, List, ℕ, ◌+◌, ◌*◌, ◌≤◌, ◌<◌}
use Rattle.road_layout.specs.Road.{junctions}
use Rattle.road_layout.specs.Facts.{RoadLayout}
use Rattle.adjacency.specs.Arcs.{Arc, net}
use Rattle.road.specs.Walk.{Walk, Least}
use Rattle.road.specs.Dijkstra.{at, dist}

-- some walk leads from u to v
abbrev pub Joined : List Arc → ℕ → ℕ → Type 0
Joined arcs u v = (t : ℕ) × Walk arcs u v t

-- the stated layout, limits and order, and every junction can be reached from junction 0
pub record Passing (b : List ℕ) : Type 0 where
  pub layout : RoadLayout b
  pub connected : (v : ℕ) → v < junctions b → Joined (net b) 0 v

-- u is a junction of the book
abbrev pub IsJunction : List ℕ → ℕ → Type 0
IsJunction b u = u < junctions b

-- The distances of a book that passes: least totals of walks, 0 from a junction to itself, within the triangle, and
-- bounded.
pub record Metric (b : List ℕ) : Type 0 where
  pub joined : (u v : ℕ) → IsJunction b u → IsJunction b v → Joined (net b) u v
  pub least : (u v : ℕ) → IsJunction b u → IsJunction b v → Least (net b) u v (dist b u v)
  pub self : (u : ℕ) → IsJunction b u → dist b u u ≡ 0
  pub triangle : (u v w : ℕ) → IsJunction b u → IsJunction b v → IsJunction b w → dist b u w ≤ dist b u v + dist b v w
  pub bounded : (u v : ℕ) → IsJunction b u → IsJunction b v → dist b u v ≤ 1023 * 65535

-- a list of distances from u: each that is a junction's is the least total of any walk from u to it
abbrev pub LeastFrom : List ℕ → ℕ → List ℕ → Type 0
LeastFrom b u ds = (v : ℕ) → IsJunction b v → Least (net b) u v (at ds v)
