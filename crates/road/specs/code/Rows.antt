-- Rows of distances: one by itself, or an array with 1,024 words to a row and a row for each of some sources.
-- Assumes nothing: these are definitions.
use Rattle.std.specs.Prelude.{◌≡◌, ℕ, ◌+◌, ◌*◌, ◌≤◌, ◌<◌, length, get_or}
use mathlib.Core.List.{List, Memᴰ as Mem}
use Rattle.road_layout.specs.Road.{junctions}
use Rattle.adjacency.specs.Arcs.{net}
use Rattle.adjacency.specs.Adjacency.{Adjacency}
use Rattle.road.specs.Dijkstra.{distances, dist}

-- the distances from junction u, by junction
abbrev pub distances_from : List ℕ → ℕ → List ℕ
distances_from road u = distances (net road) (junctions road) u

-- a row has the distances from junction u, of every road book that an array is the adjacency of
abbrev pub RowFrom : List ℕ → List ℕ → ℕ → Type 0
RowFrom adj ds u = (road : List ℕ) → Adjacency road adj → ds ≡ distances_from road u

-- row r's word for junction v
unfoldable pub cell : List ℕ → ℕ → ℕ → ℕ
cell rows r v = get_or rows (r * 1024 + v) 0

-- every number of the list is below n
abbrev pub Within : ℕ → List ℕ → Type 0
Within n ts = (t : ℕ) → Mem t ts → t < n

-- row r holds the distances from source r to every junction
pub record Rowed (road sources rows : List ℕ) : Type 0 where
  pub room : 1024 * length sources ≤ length rows
  pub filled : (r v : ℕ) → r < length sources → v < 1024 → cell rows r v ≡ dist road (get_or sources r 0) v
