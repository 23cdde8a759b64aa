-- What a crew's least way promises, by the least totals of walks. Assumes nothing: these are statements.
use Rattle.std.specs.Prelude.{◌≡◌, ◌≢◌, ℕ, ◌+◌, ◌≤◌, ◌<◌, length}
use Rattle.std.proofs.Math.Option.{some}
use mathlib.Core.List.{List, Memᴰ as Mem}
use Rattle.road_layout.specs.Road.{junctions}
use Rattle.adjacency.specs.Arcs.{Arc, net}
use Rattle.road.specs.Walk.{Least}
use Rattle.road.specs.Dijkstra.{dist}
use Rattle.road.specs.Facts.{Passing}
use Rattle.search_measure.specs.Way.{came_by, Walked, Stand, Budget, Ended, reached, ended_by, least_way, way_answer}

-- a row has the least total of any walk from the crew to each of n junctions
abbrev pub RowOf : List Arc → ℕ → ℕ → (ℕ → ℕ) → Type 0
RowOf arcs n crew row = (v : ℕ) → v < n → Least arcs crew v (row v)

-- an arc of the net leads into v, and the row's number falls by its seconds, which are some
pub record Comes (arcs : List Arc) (row : ℕ → ℕ) (v : ℕ) (a : Arc) : Type 0 where
  pub is : Mem a arcs
  pub into : a.to ≡ v
  pub falls : row a.from + a.seconds ≡ row v
  pub some : 1 ≤ a.seconds

-- of an answer, and of the state at the end, of a walk from a yard among n junctions
pub record Ways (arcs : List Arc) (n : ℕ) (b : Budget) (crew yard : ℕ) (s : Stand) (e : Ended) : Type 0 where
  -- either the least total of a walk from the crew to the yard, or "above", exactly if the aggregate of the crews
  -- before and that total exceeds the ceiling
  pub answers : (t : ℕ) → Least arcs crew yard t → e ≡ ended_by b t
  pub reached-least : (t : ℕ) → e ≡ reached t → Least arcs crew yard t
  -- each junction walked on from is at the least total of a walk from it to the yard
  pub least : (m : Walked) → Mem m s.behind → Least arcs m.junction yard m.seconds
  -- "none of them is further than the ceiling along that walk"
  pub within : (m : Walked) → Mem m s.behind → (seconds : ℕ) → b.ceiling ≡ some seconds → m.seconds ≤ seconds
  -- there are fewer than junctions
  pub few : length s.behind < n

-- in a road book that passes, of a crew and a yard at its junctions, whatever the budget
abbrev pub WaysTrue : Type 0
WaysTrue = (road : List ℕ) → Passing road → (b : Budget) (crew yard : ℕ) → crew < junctions road → yard < junctions road
    → Ways (net road) (junctions road) b crew yard (least_way road b crew yard) (way_answer road b crew yard)

-- at every junction but the crew's own such an arc is taken
abbrev pub AlwaysComes : Type 0
AlwaysComes = (road : List ℕ) → Passing road → (crew v : ℕ) → crew < junctions road → v < junctions road → v ≢ crew
    → Comes (net road) (dist road crew) v (came_by (dist road crew) v (net road))
