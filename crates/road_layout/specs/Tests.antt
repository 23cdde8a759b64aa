-- The road book's tests 1 to 5, each number with the fact that it asks for. Assumes nothing: these are definitions.
use Rattle.std.specs.Prelude.{◌≡◌, List, [], ◌∷◌, ◌++◌, ℕ, suc, ◌+◌, ◌*◌, ◌≤◌, ◌<◌, length}
use Rattle.book.specs.Tests.{Test, test, open_tests}
use Rattle.road_layout.specs.Road.{junctions, road_count, road_at}
use Rattle.road_layout.specs.Facts.{RoadFits, EndsBefore}

-- "Ends are below the junction count, low below high", "seconds u16 (1 to 65,535)"; "pairs rise strictly"
pub record RoadValues (b : List ℕ) : Type 0 where
  pub fits : (k : ℕ) → k < road_count b → RoadFits (junctions b) (road_at b k)
  pub rising : (k : ℕ) → suc k < road_count b → EndsBefore (road_at b k) (road_at b (suc k))

abbrev pub road_layout_tests : List ℕ → List Test
road_layout_tests b =
    -- 1, 2, and 3: "The header is incomplete": four bytes after the version
    open_tests b 1 4
    -- 3: "a junction, road .. count is outside its limits": junctions 1 to 1,024, roads 0 to 4,096
    ++ test 3 (1 ≤ junctions b)
    ∷ test 3 (junctions b ≤ 1024)
    ∷ test 3 (road_count b ≤ 4096)
    -- 4: "A record is incomplete, or bytes follow the last one.": six bytes for each road, after the nine before them
    ∷ test 4 (length b ≡ 9 + 6 * road_count b)
    -- 5: "A record's value is outside its range or order."
    ∷ test 5 (RoadValues b)
    ∷ []
