-- What is read from the crews' rows is true distances. Assumes nothing.
use mathlib.Core.Path.{◌≡◌, ◌∙◌}
use mathlib.Core.List.{List}
use Prim.Native.Nat.{ℕ, ◌+◌, ◌*◌, ◌≤◌, ◌<◌}
use native.Mathlib.Omega.{arith}
use lib.ListN.{length, get_or}
use Rattle.book.proofs.Lists.{get_d_mem}
use Rattle.road_layout.specs.Road.{junctions}
use Rattle.road.specs.Dijkstra.{dist}
use Rattle.road.proofs.Theorems.{symmetric}
use Rattle.road.specs.code.Rows.{cell}
use Rattle.road.proofs.Filling.{row_inside}
use Rattle.search_bounds.specs.code.Measures.{Driven}

module _ {road crews drives : List ℕ} (d : Driven road crews drives) (v : ℕ) (h : v < junctions road) where
  -- crew number j has a row, and the junction a word in it
  pub cell-inside : (j : ℕ) → j < length crews → (j * 1024 + 1024 ≤ length drives) × (v < 1024)
  cell-inside j k = (row_inside (length crews) j (length drives) k d.rows.room, omega (arith, d.roads.layout.few-junctions))

  -- it is d(q, v) of crew q, and d(v, q): "A road runs both ways"
  pub cell-from : (j : ℕ) → j < length crews → (x : ℕ) → x ≡ cell drives j v → x ≡ dist road (get_or crews j 0) v
  cell-from j k x e = e ∙ d.rows.filled j v k (omega (arith, d.roads.layout.few-junctions))

  pub cell-to : (j : ℕ) → j < length crews → (x : ℕ) → x ≡ cell drives j v → x ≡ dist road v (get_or crews j 0)
  cell-to j k x e = cell-from j k x e ∙ symmetric road d.roads.layout (get_or crews j 0) v (d.there (get_or crews j 0) (get_d_mem crews j 0 k)) h
