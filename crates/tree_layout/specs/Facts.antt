-- The facts of 01's "Tree book", as they stand in a book that tests 1 to 5 accept. Assumes nothing: these are
-- statements.
use Rattle.std.specs.Prelude.{◌≡◌, ◌⊎◌, ℕ, ◌≤◌, ◌<◌, length}
use mathlib.Core.List.{List, [], ◌∷◌, Memᴰ as Mem}
use Rattle.book.specs.Open.{Opens}
use Rattle.tree_layout.specs.Values.{Element, Mark, Region}
use Rattle.tree_layout.specs.Sizes.{latest_tree}
use Rattle.tree_layout.specs.Decode.{decode, junction_count, region_count, tree_yard_count, landmark_count, place_of}

-- the order of a leaf's list: "by distance and then yard"
abbrev pub Before : Element → Element → Type 0
Before e g = (e.distance < g.distance) ⊎ ((e.distance ≡ g.distance) × (e.yard < g.yard))

-- "rising strictly": each element is before the next
abbrev pub RisingFrom : Element → List Element → Type 0
RisingFrom e [] = Unit {0}
RisingFrom e (g ∷ gs) = Before e g × RisingFrom g gs

abbrev pub Rising : List Element → Type 0
Rising [] = Unit {0}
Rising (e ∷ es) = RisingFrom e es

-- a region's values
pub record RegionValues (junctions : ℕ) (r : Region) : Type 0 where
  -- "A range isn't empty and ends at or below the junction count."
  pub range : r.first < r.after
  pub within : r.after ≤ junctions
  -- "children u8 (0 for a leaf, else 2 to 4)"
  pub kind : (r.children ≡ 0) ⊎ ((2 ≤ r.children) × (r.children ≤ 4))
  -- "yards u16 (at least 1)"
  pub some : 1 ≤ r.yards
  -- "Landmarks lie in their range"
  pub placed : (m : Mark) → Mem m r.marks → (r.first ≤ m.place) × (m.place < r.after)
  -- "Stored distances are at most 67,042,305"
  pub near : r.children ≡ 0 → (m : Mark) → Mem m r.marks → (e : Element) → Mem e m.list → e.distance ≤ 67042305
  -- "rising strictly by distance and then yard"
  pub rising : r.children ≡ 0 → (m : Mark) → Mem m r.marks → Rising m.list
  -- "A kind byte of 0 in a tree is refused by 5."
  pub kinds : 1 ≤ r.kinds
  pub kinded : r.children ≡ 0 → (m : Mark) → Mem m r.marks → (e : Element) → Mem e m.list → 1 ≤ e.kinds
  -- "in an inner region, .. least not above greatest"
  pub span : 0 < r.children → (m : Mark) → Mem m r.marks → m.least ≤ m.greatest

-- a tree book's layout, limits and order
pub record TreeLayout (b : List ℕ) : Type 0 where
  -- a count of the bytes after it, the version 1 or 2, and a header of seven bytes
  pub opens : Opens b latest_tree 7
  -- "junctions u16 (1 to 1,024), regions u16 (1 to 511), yards u16 (1 to 256), landmarks per region m u8 (1 to 4)"
  pub junctions : (1 ≤ junction_count b) × (junction_count b ≤ 1024)
  pub regions : (1 ≤ region_count b) × (region_count b ≤ 511)
  pub yards : (1 ≤ tree_yard_count b) × (tree_yard_count b ≤ 256)
  pub landmarks : (1 ≤ landmark_count b) × (landmark_count b ≤ 4)
  -- no record is incomplete and no bytes follow the last one: the records, one after the other, take up the book to its
  -- end
  pub filled : place_of b (region_count b) ≡ length b
  -- each record's values are in their ranges and order
  pub values : (r : Region) → Mem r (decode b).regions → RegionValues (junction_count b) r
