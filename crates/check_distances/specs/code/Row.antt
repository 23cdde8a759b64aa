-- What a tree stores, held against a row of distances, by junction. Assumes nothing: these are definitions.
use Rattle.std.specs.Prelude.{Bool, ◌&&◌, List, ℕ, eqb}
use Rattle.road.specs.Dijkstra.{far, at}
use Rattle.tree_layout.specs.Values.{Element}
use Rattle.tree_layout.specs.Refusal.{all}
use Rattle.check_rules.specs.Truth.{least_distance_from, greatest_from}

-- an element has the distance that a row has for its yard
unfoldable pub element_in : List ℕ → Element → Bool
element_in ds e = eqb e.distance (at ds e.yard)

-- every element of a leaf's list has
unfoldable pub list_in : List ℕ → List Element → Bool
list_in ds es = all (element_in ds) es

-- least and greatest are those of the distances that a row has for some yards:
-- the least from the mark down, the greatest from 0 up
unfoldable pub span_in : List ℕ → List ℕ → ℕ → ℕ → Bool
span_in ds ys least greatest = eqb least (least_distance_from (at ds) far ys) && eqb greatest (greatest_from (at ds) 0 ys)
