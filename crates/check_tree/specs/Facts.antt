-- What a check promises, to be held against the paper: truth is the least total of any walk.
-- Assumes nothing: these are statements.
use Rattle.std.specs.Prelude.{◌≡◌, ◌↔◌, ℕ, ◌≤◌, ◌<◌, length}
use mathlib.Core.List.{List, Memᴰ as Mem}
use Rattle.book.specs.Lists.{Distinct}
use Rattle.work_area.specs.Work.{work_words}
use Rattle.road_layout.specs.Road.{junctions}
use Rattle.adjacency.specs.Arcs.{Arc, net}
use Rattle.road.specs.Walk.{Least}
use Rattle.road.specs.Refusal.{road_refusal}
use Rattle.kinds.specs.Facts.{BitsOf}
use Rattle.yard.specs.Yards.{yards_of, HasKinds, yard_refusal_in}
use Rattle.tree_layout.specs.Values.{Element, Mark, Region, region_at}
use Rattle.tree_layout.specs.Decode.{junction_count, decode}
use Rattle.tree_leaf.specs.Leaf.{yards_in}
use Rattle.tree.specs.Shape.{tree_refusal}
use Rattle.tree.specs.RegionYards.{YardOf}
use Rattle.check_rules.specs.Extremes.{LeastOf, GreatestOf}
use Rattle.check_tree.specs.Check.{check_answer}

-- region j is a leaf, and each of its lists names yard y
pub record LeafHolds (rs : List Region) (j y : ℕ) : Type 0 where
  pub number : j < length rs
  pub leaf : (region_at rs j).children ≡ 0
  pub named : (m : Mark) → Mem m (region_at rs j).marks → Mem y (yards_in m.list)

-- "its leaves hold each yard of the yard book once and no other"
pub record HoldsEach (rs : List Region) (ys : List ℕ) : Type 0 where
  -- each yard is in a leaf
  pub each : (y : ℕ) → Mem y ys → (j : ℕ) × LeafHolds rs j y
  -- in one leaf only, and once in each of its lists
  pub one-leaf : (y j k : ℕ) → Mem y ys → LeafHolds rs j y → LeafHolds rs k y → j ≡ k
  pub once : (j : ℕ) → j < length rs → (region_at rs j).children ≡ 0 → (m : Mark) → Mem m (region_at rs j).marks
      → Distinct (yards_in m.list)
  -- no other stands in a leaf's list
  pub no_other : (j : ℕ) → j < length rs → (region_at rs j).children ≡ 0 → (m : Mark) → Mem m (region_at rs j).marks
      → (y : ℕ) → Mem y (yards_in m.list) → Mem y ys

-- x is the least of the distances from l to the yards of some kind
abbrev pub LeastTotal : (arcs : List Arc) (l : ℕ) (Yard : ℕ → Type 0) (x : ℕ) → Type 0
LeastTotal arcs l Yard x = LeastOf Yard (Least arcs l) x

-- x is the greatest of them
abbrev pub GreatestTotal : (arcs : List Arc) (l : ℕ) (Yard : ℕ → Type 0) (x : ℕ) → Type 0
GreatestTotal arcs l Yard x = GreatestOf Yard (Least arcs l) x

-- "each stored distance is the least total of any walk through the roads .., with each least and greatest true of its
-- region's yards"
pub record TrueTotals (arcs : List Arc) (rs : List Region) : Type 0 where
  pub lists : (r : ℕ) → r < length rs → (region_at rs r).children ≡ 0 → (m : Mark) → Mem m (region_at rs r).marks
      → (e : Element) → Mem e m.list → Least arcs m.place e.yard e.distance
  pub leasts : (r : ℕ) → r < length rs → 0 < (region_at rs r).children → (m : Mark) → Mem m (region_at rs r).marks
      → LeastTotal arcs m.place (YardOf rs r) m.least
  pub greatests : (r : ℕ) → r < length rs → 0 < (region_at rs r).children → (m : Mark) → Mem m (region_at rs r).marks
      → GreatestTotal arcs m.place (YardOf rs r) m.greatest

-- "every kind byte is the yard book's, and every region's byte has exactly the bits of its yards"
pub record TrueBytes (yard : List ℕ) (rs : List Region) : Type 0 where
  pub lists : (r : ℕ) → r < length rs → (region_at rs r).children ≡ 0 → (m : Mark) → Mem m (region_at rs r).marks
      → (e : Element) → Mem e m.list → HasKinds yard e.yard e.kinds
  pub regions : (r : ℕ) → r < length rs → BitsOf (YardOf rs r) (HasKinds yard) (region_at rs r).kinds

-- "Beside a sound road book and yard book, with full areas, a tree of sound layout and shape and of the road book's
-- junction count"
pub record SoundBeside (road yard tree : List ℕ) (words : ℕ) : Type 0 where
  pub roads : road_refusal road ≡ 0
  pub yards : yard_refusal_in yard (junctions road) ≡ 0
  pub shape : tree_refusal tree ≡ 0
  pub counts : junction_count tree ≡ junctions road
  pub full : work_words ≤ words

-- Demand 2, of check: such a tree "passes the check if and only if its leaves hold each yard of the yard book once and
-- no other, and each stored distance is the least total of any walk .., with each least and greatest true of its
-- region's yards", and also every kind byte is the yard book's, and every region's byte has exactly the bits of its
-- yards
abbrev pub CheckExact : Type 0
CheckExact = (road yard tree : List ℕ) (words : ℕ) → SoundBeside road yard tree words
    → (check_answer road yard tree words ≡ 0)
    ↔ (HoldsEach (decode tree).regions (yards_of yard) × TrueTotals (net road) (decode tree).regions
    × TrueBytes yard (decode tree).regions)
