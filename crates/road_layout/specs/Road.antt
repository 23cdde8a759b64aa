-- A road book's junctions and roads. Assumes nothing: these are definitions.
use Rattle.std.specs.Prelude.{ℕ, zero, suc, ◌+◌, ◌*◌, List, [], ◌∷◌}
use Rattle.book.specs.Bytes.{u16_at}

-- A road (an edge): "per road: low end u16, high end u16, seconds u16". "A road runs both ways."
pub record Road : Type 0 where
  pub low : ℕ
  pub high : ℕ
  pub seconds : ℕ

-- "Road book: junctions u16 .., roads u16 .."
unfoldable pub junctions : List ℕ → ℕ
junctions b = u16_at b 5

unfoldable pub road_count : List ℕ → ℕ
road_count b = u16_at b 7

-- road number k, counted from 0
unfoldable pub road_at : List ℕ → ℕ → Road
road_at b k = record { low = u16_at b (9 + 6 * k); high = u16_at b (9 + 6 * k + 2); seconds = u16_at b (9 + 6 * k + 4) }

-- the first k roads, the last of them first
unfoldable pub roads_to : List ℕ → ℕ → List Road
roads_to b zero = []
roads_to b (suc k) = road_at b k ∷ roads_to b k

-- the book's roads, the last first
unfoldable pub roads : List ℕ → List Road
roads b = roads_to b (road_count b)
