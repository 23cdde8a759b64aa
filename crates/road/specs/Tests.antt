-- The road book's tests 1 to 6, each number with the fact that it asks for. Assumes nothing: these are definitions.
use Rattle.std.specs.Prelude.{List, [], ◌∷◌, ◌++◌, ℕ, ◌<◌}
use Rattle.book.specs.Tests.{Test, test}
use Rattle.road_layout.specs.Road.{junctions}
use Rattle.road_layout.specs.Tests.{road_layout_tests}
use Rattle.adjacency.specs.Arcs.{net}
use Rattle.road.specs.Facts.{Joined}

-- a walk leads from junction 0 to every junction
abbrev pub Connected : List ℕ → Type 0
Connected b = (v : ℕ) → v < junctions b → Joined (net b) 0 v

-- some junction that no walk from junction 0 leads to
abbrev pub CutOff : List ℕ → Type 0
CutOff b = (v : ℕ) × (v < junctions b) × (Joined (net b) 0 v → ⊥)

abbrev pub road_tests : List ℕ → List Test
road_tests b =
    -- 1 to 5
    road_layout_tests b
    -- 6: "Some junction can't be reached from junction 0."
    ++ test 6 (Connected b)
    ∷ []
