-- What the eccentricity program prints, as bytes. Assumes nothing: these are definitions.
use Rattle.std.specs.Prelude.{List, [], ◌∷◌, ◌++◌, ℕ, eqb}
use Rattle.book.specs.Choose.{choose}
use Rattle.text.specs.Text.{decimal, space, line_end, in_turn, refused_text}
use Rattle.road_layout.specs.Road.{junctions}
use Rattle.adjacency.specs.Arcs.{net}
use Rattle.road.specs.Dijkstra.{distances}
use Rattle.road.specs.Refusal.{road_refusal}
use Rattle.eccentricity.specs.Rows.{furthest_of, row_total}

-- `junction furthest total` and a line end
abbrev pub heading : List ℕ
heading =
    106 ∷ 117 ∷ 110 ∷ 99 ∷ 116 ∷ 105 ∷ 111 ∷ 110 ∷ 32 ∷ 102 ∷ 117 ∷ 114 ∷ 116 ∷ 104 ∷ 101 ∷ 115 ∷ 116 ∷ 32 ∷ 116 ∷ 111
    ∷ 116 ∷ 97 ∷ 108 ∷ 10 ∷ []

-- three numbers on a line
unfoldable pub line_of : (a b c : ℕ) → List ℕ
line_of a b c = (decimal a ++ space) ++ (decimal b ++ space) ++ (decimal c ++ line_end)

-- junction u's line, by its distances to the first n junctions
abbrev pub row_by : List ℕ → (n u : ℕ) → List ℕ
row_by ds n u = line_of u (furthest_of ds n) (row_total ds n)

-- junction u's line in a road book: its greatest distance to any junction, and the sum of its distances to all
unfoldable pub row_text : List ℕ → ℕ → List ℕ
row_text b u = row_by (distances (net b) (junctions b) u) (junctions b) u

-- what the program prints for a road book
unfoldable pub eccentricity_text : List ℕ → List ℕ
eccentricity_text b =
    choose (eqb (road_refusal b) 0) (heading ++ in_turn (row_text b) (junctions b)) (refused_text (road_refusal b))
