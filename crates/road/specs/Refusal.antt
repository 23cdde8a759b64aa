-- The road book's tests 1 to 6. Assumes nothing: these are definitions.
use Rattle.std.specs.Prelude.{Bool, true, ◌&&◌, List, ℕ, zero, suc, ltb}
use Rattle.book.specs.Choose.{refuse, first_of}
use Rattle.road_layout.specs.Road.{junctions}
use Rattle.road_layout.specs.Layout.{road_layout_refusal}
use Rattle.adjacency.specs.Arcs.{net}
use Rattle.road.specs.Dijkstra.{far, at, distances}

-- each of the first n distances is one, and not `far`
unfoldable pub all_reached : List ℕ → ℕ → Bool
all_reached ds zero = true
all_reached ds (suc n) = all_reached ds n && ltb (at ds n) far

-- the first of tests 1 to 6 that fails, or 0; 6: "Some junction can't be reached from junction 0."
unfoldable pub road_refusal : List ℕ → ℕ
road_refusal b =
    let connected : ℕ = refuse (all_reached (distances (net b) (junctions b) 0) (junctions b)) 6 0 in
    first_of (road_layout_refusal b) connected
