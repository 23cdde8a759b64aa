-- A district that is read: a road book and a tree book beside it that no test turns back, with the arrays that reach
-- into them. Assumes nothing: these are definitions and statements.
use Rattle.std.specs.Prelude.{◌≡◌, List, ℕ}
use Rattle.book.specs.Choose.{first_of}
use Rattle.road_layout.specs.Road.{junctions}
use Rattle.adjacency.specs.Adjacency.{Adjacency}
use Rattle.road.specs.Refusal.{road_refusal}
use Rattle.tree_layout.specs.Decode.{junction_count}
use Rattle.tree.specs.Shape.{tree_refusal}
use Rattle.tree.specs.Arrays.{Laid}
use Rattle.search_inner.specs.code.Children.{Ended}
use Rattle.search_call.specs.Call.{tree_refusal_in}

-- the number of the first test that turns one of the two books back, or 0: 1 to 6; then 1 to 5, 7 and 8
unfoldable pub district_refusal : (road tree : List ℕ) → ℕ
district_refusal road tree = first_of (road_refusal road) (tree_refusal_in tree (junctions road))

-- the road book's adjacency, and for each region of the tree where its record stands and the region after its subtree
pub record District (road tree adj places ends : List ℕ) : Type 0 where
  pub roads : road_refusal road ≡ 0
  pub shape : tree_refusal tree ≡ 0
  pub counts : junction_count tree ≡ junctions road
  pub adjacent : Adjacency road adj
  pub laid : Laid tree places
  pub ended : Ended tree ends

-- of some road book
pub record IsDistrict (tree adj places ends : List ℕ) : Type 0 where
  pub road : List ℕ
  pub district : District road tree adj places ends
