-- The landmark table of a search, and its sources. Assumes nothing: these are definitions.
use Rattle.std.specs.Prelude.{◌≡◌, List, [], ◌∷◌, ℕ, ◌<◌, length, get_or}
use Rattle.road.specs.code.Rows.{cell}
use Rattle.search_rules.specs.Instance.{Instance, marks}
use Rattle.search_rules.specs.Bounds.{table_at}
use Rattle.tree_layout.specs.Values.{Mark, no_mark}
use Rattle.tree_layout.specs.code.Marks.{marks_at}
use Rattle.search_bounds.specs.code.Rows.{Rows}

-- the junctions of some landmarks
unfoldable pub places_of : List Mark → List ℕ
places_of [] = []
places_of (k ∷ ks) = k.place ∷ places_of ks

-- "the root's landmarks r": their junctions; the root's record is the first, at byte 12
unfoldable pub root_places : List ℕ → List ℕ
root_places tree = places_of (marks_at tree 12)

-- "The sheet holds d from the root's landmarks r to every junction.": a row for each of the root's landmarks, in their
-- order
pub record LandmarkTable (i : Instance) (rows : ℕ) (table : List ℕ) : Type 0 where
  pub limits : Rows table rows
  pub count : rows ≡ length (marks i 0)
  pub filled : (r v : ℕ) → r < rows → v < i.tree.junctions → cell table r v ≡ table_at i (get_or (marks i 0) r no_mark) v
