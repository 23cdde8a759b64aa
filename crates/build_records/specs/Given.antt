-- What building is asked for, over a road book and a yard book. Assumes nothing: this is a definition.
use Rattle.std.specs.Prelude.{List, ℕ}
use Rattle.book.specs.Open.{version}
use Rattle.road_layout.specs.Road.{roads}
use Rattle.road.specs.Dijkstra.{dist}
use Rattle.yard.specs.Yards.{kind_of}
use Rattle.build_rules.specs.Cut.{Given}

-- "Given m (1 to 4) and a leaf limit (1 to 256).", with the road book's roads and distances and the yard book's kinds;
-- "a build writes its yard book's version"
unfoldable pub given : (road yard : List ℕ) → (m limit : ℕ) → Given
given road yard m limit = record {
  version = version yard;
  roads = roads road;
  d = dist road;
  kinds = kind_of yard;
  landmarks = m;
  limit = limit;
}
