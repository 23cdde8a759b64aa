-- The facts of a leaf's lists, without the tests. Assumes nothing: this is a statement.
use mathlib.Core.List.{Memᴰ as Mem}
use Rattle.std.specs.Prelude.{ℕ, ◌≤◌, ◌<◌}
use Rattle.book.specs.Lists.{Distinct}
use Rattle.tree_layout.specs.Values.{Mark, Region}
use Rattle.tree_leaf.specs.Leaf.{yards_in}

-- a leaf's lists
pub record LeafLists (r : Region) : Type 0 where
  -- "all of a leaf's lists name the same yards"
  pub same : (m k : Mark) → Mem m r.marks → Mem k r.marks → (y : ℕ) → Mem y (yards_in m.list)
      → Mem y (yards_in k.list)
  -- "each yard once"
  pub once : (m : Mark) → Mem m r.marks → Distinct (yards_in m.list)
  -- "inside its range"
  pub inside : (m : Mark) → Mem m r.marks → (y : ℕ) → Mem y (yards_in m.list) → (r.first ≤ y) × (y < r.after)
