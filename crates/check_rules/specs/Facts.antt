-- What "true" means of a tree's numbers, without a test. Assumes nothing: these are statements.
use Rattle.std.specs.Prelude.{◌≡◌, ◌↔◌, true, ℕ, ◌≤◌, ◌<◌, length}
use mathlib.Core.List.{List, Memᴰ as Mem}
use Rattle.kinds.specs.Facts.{BitsOf}
use Rattle.tree_layout.specs.Values.{Element, Mark, Region, Tree, region_at}
use Rattle.tree.specs.Yards.{yards_below, tree_yards}
use Rattle.check_rules.specs.Truth.{true_tree, true_beside, kinds_tree, kinds_beside}

-- x is the least of a number for each yard of a list: it is some yard's, and none is below it
pub record IsLeast (f : ℕ → ℕ) (ys : List ℕ) (x : ℕ) : Type 0 where
  pub reached : (y : ℕ) × Mem y ys × (f y ≡ x)
  pub low : (y : ℕ) → Mem y ys → x ≤ f y

-- x is the greatest: it is some yard's, and none is above it
pub record IsGreatest (f : ℕ → ℕ) (ys : List ℕ) (x : ℕ) : Type 0 where
  pub reached : (y : ℕ) × Mem y ys × (f y ≡ x)
  pub high : (y : ℕ) → Mem y ys → f y ≤ x

-- "each stored distance is the least total of any walk .., with each least and greatest true of its region's yards",
-- where d(u, v) is the least total
pub record TrueNumbers (d : ℕ → ℕ → ℕ) (t : Tree) : Type 0 where
  -- a leaf's pairs: the distance from the landmark to the yard
  pub lists : (r : ℕ) → r < length t.regions → (region_at t.regions r).children ≡ 0 → (m : Mark)
      → Mem m (region_at t.regions r).marks → (e : Element) → Mem e m.list → e.distance ≡ d m.place e.yard
  -- an inner region's least and greatest, over the yards below it
  pub leasts : (r : ℕ) → r < length t.regions → 0 < (region_at t.regions r).children → (m : Mark)
      → Mem m (region_at t.regions r).marks → IsLeast (d m.place) (yards_below t.regions r) m.least
  pub greatests : (r : ℕ) → r < length t.regions → 0 < (region_at t.regions r).children → (m : Mark)
      → Mem m (region_at t.regions r).marks → IsGreatest (d m.place) (yards_below t.regions r) m.greatest

-- "every kind byte is the yard book's, and every region's byte has exactly the bits of its yards", where `kinds` gives
-- each yard's byte
pub record TrueKinds (kinds : ℕ → ℕ) (t : Tree) : Type 0 where
  pub lists : (r : ℕ) → r < length t.regions → (m : Mark) → Mem m (region_at t.regions r).marks
      → (e : Element) → Mem e m.list → e.kinds ≡ kinds e.yard
  pub regions : (r : ℕ) → r < length t.regions
      → BitsOf (λ y. Mem y (yards_below t.regions r)) (λ y k. kinds y ≡ k) (region_at t.regions r).kinds

-- the same yards stand in both lists
pub record Same (ys zs : List ℕ) : Type 0 where
  pub to : (y : ℕ) → Mem y ys → Mem y zs
  pub from : (y : ℕ) → Mem y zs → Mem y ys

-- what is proved of an accepted tree, for any distance
pub record Tested (t : Tree) : Type 0 where
  -- test 9 holds if and only if the numbers are true
  pub exact : (d : ℕ → ℕ → ℕ) → (true_tree d t ≡ true) ↔ TrueNumbers d t
  -- and so does the test that takes each region's yards from a list of the tree's yards, by its range
  pub beside : (d : ℕ → ℕ → ℕ) (ys : List ℕ) → Same (tree_yards t) ys → (true_beside d ys t ≡ true) ↔ TrueNumbers d t
  -- likewise of kinds
  pub kinds : (kinds : ℕ → ℕ) → (kinds_tree kinds t ≡ true) ↔ TrueKinds kinds t
  pub kinds-beside : (kinds : ℕ → ℕ) (ys : List ℕ) → Same (tree_yards t) ys
      → (kinds_beside kinds ys t ≡ true) ↔ TrueKinds kinds t
  -- of true distances: each landmark's least and greatest, in a leaf its list's first and last, enclose the distances
  -- to the yards below
  pub encloses : (d : ℕ → ℕ → ℕ) → TrueNumbers d t → (r : ℕ) → r < length t.regions → (m : Mark)
      → Mem m (region_at t.regions r).marks → (y : ℕ) → Mem y (yards_below t.regions r)
      → (m.least ≤ d m.place y) × (d m.place y ≤ m.greatest)
