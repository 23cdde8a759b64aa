-- Reading a tree book: where its fields stand, and the values that they are. Assumes nothing: these are definitions.
use Rattle.std.specs.Prelude.{List, [], ◌∷◌, ℕ, zero, suc, ◌+◌, ◌*◌, take, drop, eqb}
use Rattle.book.specs.Choose.{choose}
use Rattle.book.specs.Bytes.{u8_at, u16_at, u32_at}
use Rattle.book.specs.Open.{version}
use Rattle.kinds.specs.Kinds.{kind_at}
use Rattle.tree_layout.specs.Values.{Element, Mark, Region, Tree, leaf_mark, inner_mark}
use Rattle.tree_layout.specs.Sizes.{header_size, fields_size, junction_size, element_size, list_size, leaf_mark_size}
use Rattle.tree_layout.specs.Sizes.{inner_mark_size}

-- ---- a list of a version v book

-- the element at a place: "distance u32, yard u16", and "a yard's kind byte after each of its list entries"
unfoldable pub element_at : (v : ℕ) → List ℕ → ℕ → Element
element_at v p at = record { distance = u32_at p at; yard = u16_at p (at + 4); kinds = kind_at v p (at + 6) }

-- n elements from a place on
unfoldable pub read_list : (v : ℕ) → List ℕ → ℕ → ℕ → List Element
read_list v p zero at = []
read_list v p (suc n) at = element_at v p at ∷ read_list v p n (at + element_size v)

-- "A leaf's list is read as a part of the book that starts where its record puts it": the part of n elements
unfoldable pub list_part : (v : ℕ) → List ℕ → ℕ → ℕ → List ℕ
list_part v b n at = take (list_size v n) (drop at b)

-- ---- landmarks

-- k landmarks of a leaf from a place on: "per landmark its junction u16 and, in a leaf, one pair .. per yard"
unfoldable pub read_lists : List ℕ → ℕ → ℕ → ℕ → List Mark
read_lists b yards zero at = []
read_lists b yards (suc k) at =
    leaf_mark (u16_at b at) (read_list (version b) (list_part (version b) b yards (at + junction_size)) yards 0)
    ∷ read_lists b yards k (at + leaf_mark_size (version b) yards)

-- k landmarks of an inner region: "in an inner region, least and greatest distance to its yards, u32 each"
unfoldable pub read_spans : List ℕ → ℕ → ℕ → List Mark
read_spans b zero at = []
read_spans b (suc k) at =
    inner_mark (u16_at b at) (u32_at b (at + 2)) (u32_at b (at + 6)) ∷ read_spans b k (at + inner_mark_size)

-- "Any children count but 0 has an inner region's layout."
unfoldable pub read_marks : List ℕ → ℕ → ℕ → ℕ → ℕ → List Mark
read_marks b m children yards at = choose (eqb children 0) (read_lists b yards m at) (read_spans b m at)

-- ---- regions

-- the bytes of one landmark
unfoldable pub mark_size : (v children yards : ℕ) → ℕ
mark_size v children yards = choose (eqb children 0) (leaf_mark_size v yards) inner_mark_size

-- the bytes of a region's record with m landmarks
unfoldable pub record_size : (v m children yards : ℕ) → ℕ
record_size v m children yards = fields_size v + m * mark_size v children yards

-- the bytes of the record at a place, by its own fields
unfoldable pub size_at : List ℕ → ℕ → ℕ → ℕ
size_at b m at = record_size (version b) m (u8_at b (at + 4)) (u16_at b (at + 5))

-- the region whose record is at a place: "a region's byte after its yard count"
unfoldable pub read_region : List ℕ → ℕ → ℕ → Region
read_region b m at = record {
  first = u16_at b at;
  after = u16_at b (at + 2);
  children = u8_at b (at + 4);
  yards = u16_at b (at + 5);
  kinds = kind_at (version b) b (at + 7);
  marks = read_marks b m (u8_at b (at + 4)) (u16_at b (at + 5)) (at + fields_size (version b));
}

-- n regions from a place on: "then regions in preorder"
unfoldable pub read_regions : List ℕ → ℕ → ℕ → ℕ → List Region
read_regions b m zero at = []
read_regions b m (suc n) at = read_region b m at ∷ read_regions b m n (at + size_at b m at)

-- where the i-th record stands, of records from a place on
unfoldable pub place_from : List ℕ → ℕ → ℕ → ℕ → ℕ
place_from b m zero at = at
place_from b m (suc i) at = place_from b m i (at + size_at b m at)

-- ---- the book

-- the header's fields, after the count and the version
unfoldable pub junction_count : List ℕ → ℕ
junction_count b = u16_at b 5

unfoldable pub region_count : List ℕ → ℕ
region_count b = u16_at b 7

unfoldable pub tree_yard_count : List ℕ → ℕ
tree_yard_count b = u16_at b 9

unfoldable pub landmark_count : List ℕ → ℕ
landmark_count b = u8_at b 11

-- where region i's record stands
unfoldable pub place_of : List ℕ → ℕ → ℕ
place_of b i = place_from b (landmark_count b) i header_size

-- the tree that a book holds
unfoldable pub decode : List ℕ → Tree
decode b = record {
  version = version b;
  junctions = junction_count b;
  yards = tree_yard_count b;
  landmarks = landmark_count b;
  regions = read_regions b (landmark_count b) (region_count b) header_size;
}
