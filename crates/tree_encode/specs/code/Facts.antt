-- Trees that a tree book can hold, and what holds of the bytes that are written of them. Assumes nothing: these are
-- statements.
use Rattle.std.specs.Prelude.{◌≡◌, ℕ, ◌+◌, ◌≤◌, ◌<◌, length}
use mathlib.Core.List.{Memᴰ as Mem}
use Rattle.book.specs.Bytes.{Bytes}
use Rattle.tree_layout.specs.Values.{Element, Mark, Region, Tree}
use Rattle.tree_layout.specs.Sizes.{latest_tree, header_size}
use Rattle.tree_layout.specs.Decode.{record_size, decode}
use Rattle.tree_layout.specs.Facts.{RegionValues}
use Rattle.tree_layout.specs.code.Formed.{FormedTree}
use Rattle.tree.specs.Shape.{tree_refusal}
use Rattle.tree.specs.Yards.{sum_from}
use Rattle.tree.specs.Facts.{TreeShape}
use Rattle.tree_encode.specs.Encode.{encode, tree_room}

-- "junctions u16 (1 to 1,024), regions u16 (1 to 511), yards u16 (1 to 256), landmarks per region m u8 (1 to 4)"
pub record Limits (t : Tree) : Type 0 where
  pub version : (1 ≤ t.version) × (t.version ≤ latest_tree)
  pub junctions : (1 ≤ t.junctions) × (t.junctions ≤ 1024)
  pub regions : (1 ≤ length t.regions) × (length t.regions ≤ 511)
  pub yards : (1 ≤ t.yards) × (t.yards ≤ 256)
  pub landmarks : (1 ≤ t.landmarks) × (t.landmarks ≤ 4)

-- a tree of which a book may be written: of the layout's form, in its limits, with values and shape as 01 has them
pub record SoundTree (t : Tree) : Type 0 where
  pub limits : Limits t
  pub formed : FormedTree t
  pub values : (r : Region) → Mem r t.regions → RegionValues t.junctions r
  pub shape : TreeShape t

-- the fields of a region fit their bytes
pub record SmallRegion (r : Region) : Type 0 where
  pub first : r.first < 65536
  pub after : r.after < 65536
  pub children : r.children < 256
  pub yards : r.yards < 65536
  pub kinds : r.kinds < 256
  pub places : (m : Mark) → Mem m r.marks → m.place < 65536
  pub pairs : r.children ≡ 0 → (m : Mark) → Mem m r.marks → (e : Element) → Mem e m.list
      → (e.distance < 4294967296) × (e.yard < 65536) × (e.kinds < 256)
  pub spans : 0 < r.children → (m : Mark) → Mem m r.marks → (m.least < 4294967296) × (m.greatest < 4294967296)

-- the fields of a tree fit theirs
pub record SmallTree (t : Tree) : Type 0 where
  pub version : t.version < 256
  pub junctions : t.junctions < 65536
  pub count : length t.regions < 65536
  pub yards : t.yards < 65536
  pub landmarks : t.landmarks < 256
  pub regions : (r : Region) → Mem r t.regions → SmallRegion r

-- the size of a region's record
abbrev pub size_of : (v m : ℕ) → Region → ℕ
size_of v m r = record_size v m r.children r.yards

-- what is written of a tree
pub record WrittenTree (t : Tree) : Type 0 where
  -- "reading it back gives the regions and numbers that were written"
  pub back : FormedTree t → decode (encode t) ≡ t
  -- its length is the header's and the records'
  pub sizes : FormedTree t → length (encode t)
      ≡ header_size + sum_from t.regions (size_of t.version t.landmarks) (length t.regions) 0
  -- it is accepted, and no longer than a build's area has to be
  pub accepted : SoundTree t → tree_refusal (encode t) ≡ 0
  pub short : SoundTree t → length (encode t) ≤ tree_room t.version
  -- its numbers are bytes, for a tree whose fields fit
  pub bytes : SoundTree t → SmallTree t → Bytes (encode t)
