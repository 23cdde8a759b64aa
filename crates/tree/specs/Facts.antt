-- The facts of 01's "Tree shape", without the descent that tests them. Assumes nothing: these are statements.
use Rattle.std.specs.Prelude.{◌≡◌, List, [], ◌∷◌, ℕ, suc, ◌+◌, ◌≤◌, ◌<◌, length}
use Rattle.tree_layout.specs.Values.{Region, Tree, region_at}
use Rattle.tree_leaf.specs.Facts.{LeafLists}

-- Subtrees side by side, in preorder: they begin at a region number, their roots are the numbers of a list, a number is
-- the next after all of their regions, and they have no more levels than a number. After a root come its children's
-- subtrees, as many as its record says.
pub data Preorder (rs : List Region) : (levels : ℕ) → (start : ℕ) → (roots : List ℕ) → (next : ℕ) → Type 0 where
  none : {levels i : ℕ} → Preorder rs levels i [] i
  tree : {levels i m next : ℕ} {children roots : List ℕ} → i < length rs → length children ≡ (region_at rs i).children
      → Preorder rs levels (suc i) children m → Preorder rs (suc levels) m roots next
      → Preorder rs (suc levels) i (i ∷ roots) next

-- the numbers of region r's children: the roots of as many subtrees as its record says, from the number after r on
pub record ChildrenOf (rs : List Region) (r : ℕ) (cs : List ℕ) : Type 0 where
  pub count : length cs ≡ (region_at rs r).children
  pub levels : ℕ
  pub next : ℕ
  pub subtrees : Preorder rs levels (suc r) cs next

-- regions whose ranges rise, don't overlap, and lie from low up to high
abbrev pub RangesRise : List Region → ℕ → ℕ → List ℕ → Type 0
RangesRise rs low high [] = Unit {0}
RangesRise rs low high (c ∷ cs) = (low ≤ (region_at rs c).first) × ((region_at rs c).after ≤ high)
    × RangesRise rs (region_at rs c).after high cs

-- the sum of the yards of regions
abbrev pub yard_sum : List Region → List ℕ → ℕ
yard_sum rs [] = 0
yard_sum rs (c ∷ cs) = (region_at rs c).yards + yard_sum rs cs

-- "Tree shape"
pub record TreeShape (t : Tree) : Type 0 where
  -- "the child counts make all the regions one tree in preorder"; "there are at most 8 levels, root included"
  pub one-tree : Preorder t.regions 8 0 (0 ∷ []) (length t.regions)
  -- "children's ranges rise, don't overlap and lie inside the parent's"
  pub ranges : (r : ℕ) → r < length t.regions → (cs : List ℕ) → ChildrenOf t.regions r cs
      → RangesRise t.regions (region_at t.regions r).first (region_at t.regions r).after cs
  -- "a parent's yards are its children's sum"
  pub sums : (r : ℕ) → r < length t.regions → 0 < (region_at t.regions r).children → (cs : List ℕ)
      → ChildrenOf t.regions r cs → (region_at t.regions r).yards ≡ yard_sum t.regions cs
  -- "all of a leaf's lists name the same yards, each yard once, inside its range"
  pub leaves : (r : ℕ) → r < length t.regions → (region_at t.regions r).children ≡ 0
      → LeafLists (region_at t.regions r)
  -- "the root holds all yards"
  pub root : (region_at t.regions 0).yards ≡ t.yards
