-- A region's landmarks as they stand in a tree book's record. Assumes nothing: these are definitions.
use mathlib.Core.List.{List, Memᴰ as Mem}
use Rattle.std.specs.Prelude.{ℕ, ◌+◌, ◌*◌, ◌≤◌, ◌<◌, length, eqb}
use Rattle.book.specs.Choose.{choose}
use Rattle.book.specs.Bytes.{u8_at, u16_at, u32_at}
use Rattle.book.specs.Open.{version}
use Rattle.tree_layout.specs.Values.{Mark, leaf_mark, inner_mark}
use Rattle.tree_layout.specs.Sizes.{header_size, fields_size, junction_size}
use Rattle.tree_layout.specs.Decode.{read_list, list_part, mark_size, size_at, read_region, landmark_count}
use Rattle.tree_layout.specs.declared.Landmark.{Landmark}

-- where landmark j of the record at a place stands
unfoldable pub mark_place : List ℕ → ℕ → ℕ → ℕ
mark_place b at j = (at + fields_size (version b)) + j * mark_size (version b) (u8_at b (at + 4)) (u16_at b (at + 5))

-- the landmark at a place, of a region with so many children and yards
unfoldable pub mark_at : List ℕ → (children yards at : ℕ) → Mark
mark_at b children yards at =
    choose (eqb children 0)
    (leaf_mark (u16_at b at) (read_list (version b) (list_part (version b) b yards (at + junction_size)) yards 0))
    (inner_mark (u16_at b at) (u32_at b (at + 2)) (u32_at b (at + 6)))

-- the landmarks of the record at a place
unfoldable pub marks_at : List ℕ → ℕ → List Mark
marks_at b at = (read_region b (landmark_count b) at).marks

-- a landmark as the code keeps it: its junction, least and greatest
unfoldable pub landmark_of : Mark → Landmark
landmark_of k = record { place = record { number = k.place }; least = k.least; greatest = k.greatest }

-- a record at a place lies in the book, has at most four landmarks, at least one yard, and its landmarks are junctions
pub record RecordAt (b : List ℕ) (at : ℕ) : Type 0 where
  pub header : header_size ≤ length b
  pub inside : at + size_at b (landmark_count b) at ≤ length b
  pub landmarks : (1 ≤ landmark_count b) × (landmark_count b ≤ 4)
  pub some : 1 ≤ u16_at b (at + 5)
  pub placed : (k : Mark) → Mem k (marks_at b at) → k.place < 1024
