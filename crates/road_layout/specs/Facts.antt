-- What a road book of sound layout is, to be held against "Road book" of the paper.
-- Assumes nothing: these are definitions.
use Rattle.std.specs.Prelude.{◌≡◌, ◌⊎◌, List, ℕ, suc, ◌+◌, ◌*◌, ◌≤◌, ◌<◌, length}
use Rattle.book.specs.Open.{Opens}
use Rattle.road_layout.specs.Road.{Road, junctions, road_count, road_at}

-- "Ends are below the junction count, low below high", "seconds u16 (1 to 65,535)"
pub record RoadFits (n : ℕ) (r : Road) : Type 0 where
  pub ends : r.low < r.high
  pub within : r.high < n
  pub some : 1 ≤ r.seconds
  pub few : r.seconds ≤ 65535

-- "pairs rise strictly": by the low end, then by the high end
abbrev pub EndsBefore : Road → Road → Type 0
EndsBefore r s = (r.low < s.low) ⊎ ((r.low ≡ s.low) × (r.high < s.high))

-- "Road book: junctions u16 (1 to 1,024), roads u16 (0 to 4,096); per road .."
pub record RoadLayout (b : List ℕ) : Type 0 where
  pub opens : Opens b 1 4
  pub some-junction : 1 ≤ junctions b
  pub few-junctions : junctions b ≤ 1024
  pub few-roads : road_count b ≤ 4096
  pub whole : length b ≡ 9 + 6 * road_count b
  pub fits : (k : ℕ) → k < road_count b → RoadFits (junctions b) (road_at b k)
  pub rising : (k : ℕ) → suc k < road_count b → EndsBefore (road_at b k) (road_at b (suc k))
