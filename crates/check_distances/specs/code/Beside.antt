-- What a look at a tree's numbers asks of the books. Assumes nothing: these are definitions.
use Rattle.std.specs.Prelude.{◌≡◌, ℕ, ◌<◌, length}
use mathlib.Core.List.{List, Memᴰ as Mem}
use Rattle.adjacency.specs.Adjacency.{count_in, IsAdjacency}
use Rattle.yard.specs.Yards.{yards_of, yard_refusal}
use Rattle.tree_layout.specs.Values.{Mark, Region}
use Rattle.tree_layout.specs.Decode.{junction_count, decode}
use Rattle.tree_layout.specs.code.Marks.{marks_at, RecordAt}
use Rattle.tree_layout.specs.Refusal.{tree_layout_refusal}
use Rattle.check_rules.specs.Truth.{within}

-- the record at a place of a tree book is whole, and its landmarks are junctions of the adjacency's road book
pub record Marked (adj tree : List ℕ) (at : ℕ) : Type 0 where
  pub roads : IsAdjacency adj
  pub stands : RecordAt tree at
  pub placed : (m : Mark) → Mem m (marks_at tree at) → m.place < count_in adj

-- books of sound layout, the tree's junctions as many as the road book's, and a yard in each region's range
pub record Beside (adj yard tree : List ℕ) : Type 0 where
  pub roads : IsAdjacency adj
  pub yards : yard_refusal yard ≡ 0
  pub regions : tree_layout_refusal tree ≡ 0
  pub counts : junction_count tree ≡ count_in adj
  pub held : (r : Region) → Mem r (decode tree).regions → 0 < length (within r.first r.after (yards_of yard))
