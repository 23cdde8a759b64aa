-- A region's yards, without a descent. Assumes nothing: this is a definition.
use Rattle.std.specs.Prelude.{◌≡◌, ℕ, ◌<◌, length}
use mathlib.Core.List.{List, Memᴰ as Mem}
use Rattle.tree_layout.specs.Values.{Mark, Region, region_at}
use Rattle.tree_leaf.specs.Leaf.{yards_in}
use Rattle.tree.specs.Facts.{ChildrenOf}

-- yard y is one of region r's
pub data YardOf (rs : List Region) : (r y : ℕ) → Type 0 where
  -- a leaf's yards: those that a list of it names
  listed : {r y : ℕ} (m : Mark) → r < length rs → (region_at rs r).children ≡ 0 → Mem m (region_at rs r).marks
      → Mem y (yards_in m.list) → YardOf rs r y
  -- those of a child
  child's : {r y : ℕ} (c : ℕ) (cs : List ℕ) → r < length rs → ChildrenOf rs r cs → Mem c cs → YardOf rs c y
      → YardOf rs r y
