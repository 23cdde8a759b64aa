-- What writing a range's record asks, and the region that it writes. Assumes nothing: these are definitions.
use Rattle.std.specs.Prelude.{◌≡◌, List, ℕ, ◌+◌, ◌-◌, ◌*◌, ◌≤◌, ◌<◌, eqb}
use Rattle.book.specs.Choose.{choose}
use Rattle.book.specs.Open.{version}
use Rattle.road_layout.specs.Road.{roads}
use Rattle.adjacency.specs.Adjacency.{count_in, IsAdjacency}
use Rattle.yard.specs.Yards.{yard_count, yard_refusal, yards_from}
use Rattle.tree_layout.specs.Values.{Region}
use Rattle.tree_layout.specs.Decode.{mark_size, record_size}
use Rattle.build_rules.specs.Cut.{Given, borders, leaf_region, inner_region}
use Rattle.build_records.specs.Given.{given}
use Rattle.build_records.specs.code.Marks.{mark_bytes, landmark_bytes}
use Rattle.build_records.specs.declared.Part.{Part}
use Rattle.build_records.specs.declared.Record.{Record}

-- numbers `from` up to `to` of yards of a book that passes
pub record YardsUpTo (yb : List ℕ) (from to : ℕ) : Type 0 where
  pub passes : yard_refusal yb ≡ 0
  pub order : from ≤ to
  pub most : to ≤ yard_count yb

-- the adjacency of some road book, and a range of its junctions with the numbers of its yards
pub record PartReady (adj yb : List ℕ) (p : Part) : Type 0 where
  pub adjacency : IsAdjacency adj
  pub inside : p.start.number + p.size ≤ count_in adj
  pub some : 0 < p.size
  pub yards : YardsUpTo yb p.from p.end

-- a region that can be written: over a range that is ready, with no more landmarks than a region has, and with children
-- only where there are yards
pub record RecordReady (adj yb : List ℕ) (r : Record) : Type 0 where
  pub range : PartReady adj yb r.part
  pub few : r.landmarks ≤ 4
  pub held : 0 < r.children → r.part.from < r.part.end

-- ---- by a yard book: the bytes of its record, and of all its landmarks

abbrev pub size_in : List ℕ → Record → ℕ
size_in yb r = record_size (version yb) r.landmarks r.children (r.part.end - r.part.from)

abbrev pub marks_size : List ℕ → Record → ℕ
marks_size yb r = r.landmarks * mark_size (version yb) r.children (r.part.end - r.part.from)

-- ---- what is written

-- the region over the range from a with s junctions, with so many children: with none it is a leaf
unfoldable pub region_of : Given → ℕ → ℕ → ℕ → List ℕ → Region
region_of g a s children ys = choose (eqb children 0) (leaf_region g a s ys) (inner_region g a s children ys)

-- the region that a record is of, in a tree that is built of a road book and a yard book
abbrev pub region_in : (road yard : List ℕ) → (limit : ℕ) → Record → Region
region_in road yb limit r = region_of (given road yb r.landmarks limit) r.part.start.number r.part.size r.children
    (yards_from yb (r.part.end - r.part.from) r.part.from)

-- the bytes of its landmarks
abbrev pub marks_in : (road yard : List ℕ) → (limit : ℕ) → Record → List ℕ
marks_in road yb limit r =
    landmark_bytes (mark_bytes (given road yb r.landmarks limit) yb r.part.from r.part.end r.children) r.landmarks
    r.part.start.number r.part.size (borders (roads road) r.part.start.number r.part.size) r.landmarks 0
