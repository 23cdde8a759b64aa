-- What holds of a tree that the tests accept. Assumes nothing: these are statements.
use Rattle.std.specs.Prelude.{◌≡◌, ◌⊎◌, ◌≢◌, ◌↔◌, ℕ, suc, ◌≤◌, ◌<◌, length, T}
use mathlib.Core.List.{List, Memᴰ as Mem}
use Rattle.book.specs.Lists.{Distinct}
use Rattle.tree_layout.specs.Values.{Mark, Region, Tree, region_at}
use Rattle.tree_layout.specs.Decode.{decode}
use Rattle.tree_layout.specs.Facts.{TreeLayout}
use Rattle.tree_leaf.specs.Leaf.{yards_in}
use Rattle.tree.specs.Yards.{end_of, hops, children_of, gather, regions_reached, numbers, level_of, on_way}
use Rattle.tree.specs.Yards.{yards_below, tree_yards, leaves, inners}
use Rattle.tree.specs.Facts.{RangesRise, TreeShape}

-- the facts of "Tree book" and of "Tree shape"
pub record TreeFacts (b : List ℕ) : Type 0 where
  pub layout : TreeLayout b
  pub shape : TreeShape (decode b)

-- region j is a leaf that holds yard y
pub record LeafOf (rs : List Region) (y j : ℕ) : Type 0 where
  pub number : j < length rs
  pub leaf : (region_at rs j).children ≡ 0
  pub holds : Mem y (yards_below rs j)

-- regions and their children
pub record Regions (rs : List Region) : Type 0 where
  -- every region number is reached exactly once from the root, in preorder
  pub each-once : regions_reached rs 8 0 ≡ numbers (length rs) 0
  -- a child's number is above its parent's
  pub above : (r c : ℕ) → r < length rs → Mem c (children_of rs r) → (r < c) × (c < length rs)
  -- every region but the root has a parent, and no region has two
  pub parent : (c : ℕ) → c < length rs → c ≢ 0 → (r : ℕ) × (r < length rs) × Mem c (children_of rs r)
  pub one_parent : (r s c : ℕ) → r < length rs → s < length rs → Mem c (children_of rs r) → Mem c (children_of rs s)
      → r ≡ s
  -- a subtree ends where its last child's ends
  pub ends : (r : ℕ) → r < length rs → end_of rs r ≡ hops (end_of rs) (region_at rs r).children (suc r)
  pub ends_above : (r : ℕ) → r < length rs → (r < end_of rs r) × (end_of rs r ≤ length rs)
  -- on the way to a child are the child and what is on the way to its region
  pub own_way : (r : ℕ) → r < length rs → T (on_way rs r r)
  pub child_way : (r c s : ℕ) → r < length rs → Mem c (children_of rs r)
      → T (on_way rs s c) ↔ ((s ≡ c) ⊎ T (on_way rs s r))
  -- there are at most 8 levels, root included
  pub low_level : (r : ℕ) → r < length rs → 1 ≤ level_of rs r
  pub high_level : (r : ℕ) → r < length rs → level_of rs r ≤ 8

-- regions and their yards
pub record Holdings (rs : List Region) : Type 0 where
  -- an inner region's yards are those of its children, one child after the other in the order of their ranges
  pub joined : (r : ℕ) → r < length rs → 0 < (region_at rs r).children
      → yards_below rs r ≡ gather (yards_below rs) (children_of rs r)
  pub ranges : (r : ℕ) → r < length rs → RangesRise rs (region_at rs r).first (region_at rs r).after (children_of rs r)
  pub inside : (r y : ℕ) → r < length rs → Mem y (yards_below rs r)
      → ((region_at rs r).first ≤ y) × (y < (region_at rs r).after)
  -- each once, so that the children's are disjoint; and as many as its record says
  pub once : (r : ℕ) → r < length rs → Distinct (yards_below rs r)
  pub count : (r : ℕ) → r < length rs → length (yards_below rs r) ≡ (region_at rs r).yards
  -- a leaf's yards are in all of its lists, each once
  pub listed : (r : ℕ) → r < length rs → (region_at rs r).children ≡ 0 → (m : Mark) → Mem m (region_at rs r).marks
      → (y : ℕ) → Mem y (yards_below rs r) ↔ Mem y (yards_in m.list)
  pub listed-once : (r : ℕ) → r < length rs → (region_at rs r).children ≡ 0 → (m : Mark)
      → Mem m (region_at rs r).marks → Distinct (yards_in m.list)

-- the whole tree
pub record Whole (t : Tree) : Type 0 where
  pub regions : Regions t.regions
  pub holdings : Holdings t.regions
  -- the tree's yards are the root's, as many as the header says, each once, each a junction
  pub yards : tree_yards t ≡ yards_below t.regions 0
  pub yard-count : length (tree_yards t) ≡ t.yards
  pub yard-once : Distinct (tree_yards t)
  pub yard-below : (y : ℕ) → Mem y (tree_yards t) → y < t.junctions
  -- each yard is in exactly one leaf
  pub leaf_of_lem : (y : ℕ) → Mem y (tree_yards t) → (j : ℕ) × LeafOf t.regions y j
  pub one-leaf : (y j k : ℕ) → LeafOf t.regions y j → LeafOf t.regions y k → j ≡ k
  -- "inner regions" and leaves are few
  pub few-inners : inners t ≤ 255
  pub few-leaves : leaves t ≤ 256
